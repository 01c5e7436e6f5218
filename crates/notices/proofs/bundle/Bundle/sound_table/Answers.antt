use Rattle.std.proofs.Common.{ℕ, List, subst}
use Rattle.std.proofs.lemmas.Result.{err_from_is_err_and}
use Rattle.systems.specs.TableFaults.{FirstTableFault}
use Rattle.notices.proofs.BundleFirsts.{first_of_table}
use Rattle.notices.proofs.bundle.Bundle.sound_table.Goals as goal

pub returns-in_err-table : goal.returns-in_err-table
returns-in_err-table c =
    let p = err_from_is_err_and c.from_residual.result c.from_residual.ensures.1 in
    let f = c.in_err-table.field-0.0 in
    let first = subst (λ (bs : List ℕ). FirstTableFault bs f) c.table.ensures c.in_err-table.ensures in
    rw (p.1, p.2) (first_of_table _ c.requires f first)
