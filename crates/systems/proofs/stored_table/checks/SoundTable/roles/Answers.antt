use Rattle.std.proofs.Common.{◌≡◌, rules}
use Rattle.systems.specs.StoredTable.{role_number, role_byte}
use Rattle.systems.specs.declared.system.Role.TheVariants.{Absent}
use Rattle.systems.proofs.Filling.{made}
use Rattle.systems.proofs.stored_table.checks.SoundTable.roles.Goals as goal

pub returns : goal.returns
returns c =
    made _ _ (λ e r. role_number r ≡ role_byte c.args.self.now.table.bytes.now e) (λ i y q h. search rules) _ Absent 64 c.from_fn.ensures.items
