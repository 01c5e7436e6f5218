use Rattle.std.proofs.Common.{ℕ, List, ◌∙◌, ap, subst}
use Rattle.std.proofs.lemmas.Result.{err_from_is_err_and}
use Rattle.systems.specs.TableFaults.{FirstTableFault}
use Rattle.notices.specs.Bundles.{table_of}
use Rattle.notices.proofs.BundleFirsts.{first_of_table}
use Rattle.notices.proofs.bundle.check.Goals as goal

pub returns-in_err-check-clause-value : goal.returns-in_err-check-clause-value
returns-in_err-check-clause-value c =
    let p = err_from_is_err_and c.from_residual-in_err-check.result c.from_residual-in_err-check.ensures.1 in
    let f = c.in_err-check.field-0.0 in
    let (same, whole) = c.in_ok-bundle.ensures in
    let first = subst (λ (bs : List ℕ). FirstTableFault bs f) (c.table.ensures ∙ ap table_of same) c.in_err-check.ensures.value in
    rw (p.1, p.2) (first_of_table c.args.bytes.now whole f first)
