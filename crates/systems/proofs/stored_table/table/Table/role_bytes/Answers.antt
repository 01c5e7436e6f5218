use Rattle.std.proofs.Common.{drop, ◌∙◌}
use Rattle.std.proofs.lemmas.List.{get_or-take, get_or-drop}
use Rattle.systems.proofs.stored_table.table.Table.role_bytes.Goals as goal

pub returns-clause-value : goal.returns-clause-value
returns-clause-value c e h =
    let bs = c.args.self.now.bytes.now in get_or-take 64 (drop 6 bs) e 0 h ∙ get_or-drop 6 bs e 0
