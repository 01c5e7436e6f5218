use Rattle.std.proofs.Common.{rules, tests}
use Rattle.std.proofs.lemmas.Iterator.{first_from_Range}
use Rattle.compositions.specs.Arranging.{ClashAt}
use Rattle.compositions.proofs.composition.checks.first_clash.Goals as goal

pub returns : goal.returns
returns g c =
    let m = g.L.System.machine c.args.left.now in
    let n = g.R.System.machine c.args.right.now in
    first_from_Range _ _ _ _ (ClashAt m n) (λ e. ClashAt m n e → ⊥) c.find.ensures.ran
    (λ x q k. search (rules, tests))
    (λ x q k. search (rules, tests))
