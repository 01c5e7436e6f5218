use Rattle.std.proofs.Common.{◌≡◌, rules}
use Rattle.systems.specs.declared.system.Role.TheVariants.{Absent}
use Rattle.systems.proofs.Filling.{made}
use Rattle.systems.proofs.chart.writing_out.ask_roles.Goals as goal

pub returns : goal.returns
returns g c =
    made _ _ (λ e r. r ≡ (g.S.System.machine c.args.system.now).role e) (λ i y q h. search rules) _ Absent 64 c.from_fn.ensures.items
