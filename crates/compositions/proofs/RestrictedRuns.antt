-- A system with some events shut is lawful, and its runs are the system's runs without them.
use Rattle.std.proofs.Common.{◌≡◌, ℕ, Bool, false, List, [], ◌∷◌, rules, arith}
use Rattle.std.specs.List.{AllByRecursion}
use Rattle.std.proofs.lemmas.Grind.{common_steps}
use Rattle.systems.specs.Machine.{Machine, Lawful}
use Rattle.systems.specs.Runs.{Leads}
use Rattle.compositions.specs.Restrictions.{restricted, RunsUnshut}

module _ (shut : ℕ → Bool) (m : Machine) where
  pub restricted_lawful : Lawful m → Lawful (restricted shut m)
  restricted_lawful w = search rules

  pub leads_below : (es : List ℕ) (s t : ℕ) → Leads (restricted shut m) s es t → Leads m s es t × AllByRecursion (λ e. shut e ≡ false) es
  leads_below [] s t l = (l, tt)
  leads_below (e ∷ es) s t l = grind (arith, common_steps, leads_below es)

  pub leads_above : (es : List ℕ) (s t : ℕ) → Leads m s es t → AllByRecursion (λ e. shut e ≡ false) es → Leads (restricted shut m) s es t
  leads_above [] s t l free = l
  leads_above (e ∷ es) s t l free = grind (arith, common_steps, leads_above es)

  pub runs_unshut : RunsUnshut shut m (restricted shut m)
  runs_unshut es = (
    λ (t, l). (let (below, free) = leads_below es m.first t l in ((t, below), free)),
    λ ((t, l), free). (t, leads_above es m.first t l free),
  )
