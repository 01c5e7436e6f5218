-- The runs of a duty monitor: those in which nobody acts in both activities.
use Rattle.std.proofs.Common.{◌≡◌, ℕ, ◌+◌, ◌-◌, ◌*◌, ◌/◌, ◌%◌, ◌^◌, ◌<◌, ◌≤◌, ◌⊎◌, ◌↔◌, List, [], ◌∷◌, Some, sym, refl, subst, inl, inr, arith}
use native.Mathlib.Nat.{zero-div}
use Rattle.std.proofs.lemmas.Bool.{cases_eq, cases_lt}
use Rattle.std.proofs.lemmas.List.{get_or_past}
use Rattle.std.specs.List.{AllByRecursion}
use Rattle.systems.specs.Machine.{Machine, Lawful}
use Rattle.systems.specs.Runs.{Leads}
use Rattle.components.specs.Duties.{users_of, entry_of, ActOf, ActsIn, Separated, digit, Acted, Monitors, RunsSeparated}
use Rattle.components.specs.DutyFaults.{Sound}
use Rattle.components.specs.DutyMachines.{some_states, few_states, marked_below}
use Rattle.components.proofs.Digits.{possible, acted_marked}

-- user u has acted in activity x before state s, or does so in es
abbrev Acts : List ℕ → ℕ → List ℕ → ℕ → ℕ → Type 0
Acts bs s es u x = (digit s u ≡ 1 + x) ⊎ ActsIn bs es u x

-- nobody acts in both activities, before state s and in es
abbrev SeparatedFrom : List ℕ → ℕ → List ℕ → Type 0
SeparatedFrom bs s es = (u : ℕ) → Acts bs s es u 0 → Acts bs s es u 1 → ⊥

abbrev Events : List ℕ → List ℕ → Type 0
Events bs = AllByRecursion (λ e. 1 ≤ entry_of bs e)

-- nobody acts in both activities from a state on exactly where nobody does past the first event, from the state that it leads to
module _ (bs : List ℕ) (s e u x t : ℕ) (is : ActOf bs e u x) (a : Acted s u x t) (es : List ℕ) where
  with_first : SeparatedFrom bs t es → SeparatedFrom bs s (e ∷ es)
  with_first apart v p q = grind (arith, a.others v, apart v)

  without_first : SeparatedFrom bs s (e ∷ es) → SeparatedFrom bs t es
  without_first apart v p q = grind (arith, a.others v, apart v)

module _ (bs : List ℕ) (m : Machine) (law : Lawful m) (mon : Monitors bs m) where
  -- an event is an act
  act_of : (e : ℕ) → 1 ≤ entry_of bs e → (u : ℕ) × (x : ℕ) × ActOf bs e u x
  act_of e h = ((entry_of bs e - 1) / 2, (entry_of bs e - 1) % 2, (omega arith, omega arith))

  next_below : (s e t : ℕ) → m.step s e ≡ Some t → t < 3 ^ users_of bs
  next_below s e t p = omega (arith, law.next_below s e t p, mon.count)

  -- where nobody acts in both activities, the first act is possible
  first_free : (s e u x : ℕ) (es : List ℕ) → ActOf bs e u x → SeparatedFrom bs s (e ∷ es) → (digit s u ≡ 0) ⊎ (digit s u ≡ 1 + x)
  first_free s e u x es is apart = grind (arith, apart u)

  none_acts : (s u : ℕ) → Acts bs s [] u 0 → Acts bs s [] u 1 → ⊥
  none_acts s u p q = grind arith

  leads_separated : (es : List ℕ) (s t : ℕ) → s < 3 ^ users_of bs → Leads m s es t → Events bs es × SeparatedFrom bs s es
  leads_separated [] s t l r = (tt, λ u p q. none_acts s u p q)
  leads_separated (e ∷ es) s t l (n, (p, r)) =
      elim (cases_eq (entry_of bs e) 0) [
        | inl z ↦ absurd (mon.no_act s e n z p)
        | inr some ↦
            let (u, x, is) = act_of e (omega arith) in
            let a = (mon.step s e u x n l is).0 p in
            let (events, apart) = leads_separated es n t (next_below s e n p) r in
            ((omega arith, events), with_first bs s e u x n is a es apart)
      ]

  separated_leads : (es : List ℕ) (s : ℕ) → s < 3 ^ users_of bs → Events bs es → SeparatedFrom bs s es → (t : ℕ) × Leads m s es t
  separated_leads [] s l events apart = (s, refl)
  separated_leads (e ∷ es) s l (h, events) apart =
      let (u, x, is) = act_of e h in
      let (n, a) = possible s u x is.0 (first_free s e u x es is apart) in
      let p = (mon.step s e u x n l is).1 a in
      let (t, r) = separated_leads es n (next_below s e n p) events (without_first bs s e u x n is a es apart) in
      (t, (n, (p, r)))

  -- nobody has acted before state 0
  from_first : (es : List ℕ) → SeparatedFrom bs 0 es ↔ Separated bs es
  from_first es =
      (λ apart u p q. apart u (inr p) (inr q), λ apart u p q. (let z = zero-div (3 ^ u) in grind (arith, apart u)))

  pub runs_separated : RunsSeparated bs m
  runs_separated es =
      subst (λ (n : ℕ). ((t : ℕ) × Leads m n es t) ↔ (Events bs es × Separated bs es)) (sym mon.first) (
        λ (t, r). let (events, apart) = leads_separated es 0 t (some_states (users_of bs)) r in (events, (from_first es).0 apart),
        λ (events, apart). separated_leads es 0 (some_states (users_of bs)) events ((from_first es).1 apart),
      )

-- a machine that sound bytes mean is a lawful system, so that its runs are known without more
module _ (bs : List ℕ) (sound : Sound bs) (m : Machine) (mon : Monitors bs m) where
  entry_known : (e : ℕ) → entry_of bs e ≤ 2 * users_of bs
  entry_known e = elim (cases_lt e 64) [ inl h ↦ sound.entries e h | inr h ↦ omega (arith, get_or_past bs (1 + e) 0 (omega (arith, sound.long))) ]

  event_is : (s e t : ℕ) → m.step s e ≡ Some t → (s < 3 ^ users_of bs) × (1 ≤ entry_of bs e) × (t < 3 ^ users_of bs)
  event_is s e t p =
      elim (cases_lt s (3 ^ users_of bs)) [
        | inr h ↦ absurd (mon.no_state s e t h p)
        | inl l ↦
            elim (cases_eq (entry_of bs e) 0) [
              | inl z ↦ absurd (mon.no_act s e t z p)
              | inr some ↦
                  let u = (entry_of bs e - 1) / 2 in
                  let x = (entry_of bs e - 1) % 2 in
                  let is : ActOf bs e u x = (omega arith, omega arith) in
                  let a = (mon.step s e u x t l is).0 p in
                  let below = marked_below s u x (users_of bs) t is.0 (omega (arith, entry_known e, is.0, is.1)) l (acted_marked s u x is.0 t a) in
                  (l, omega arith, below)
            ]
      ]

  pub monitors_lawful : Lawful m
  monitors_lawful =
      let few = few_states (users_of bs) sound.most in
      let one = some_states (users_of bs) in
      record {
        count_least = omega (arith, mon.count);
        count_most = omega (arith, mon.count);
        first_below = omega (arith, mon.count, mon.first);
        event_below = λ e h. mon.absent e (get_or_past bs (1 + e) 0 (omega (arith, sound.long)));
        next_below = λ s e t p. omega (arith, mon.count, (event_is s e t p).2);
        state_below = λ s e t p. omega (arith, mon.count, (event_is s e t p).0);
        takes_part = λ s e t p a. (let i = mon.input e (event_is s e t p).1 in cc);
      }

  pub sound_separated : RunsSeparated bs m
  sound_separated = runs_separated bs m monitors_lawful mon
