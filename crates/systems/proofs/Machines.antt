-- Machines that answer alike are the same, and lists that have a lawful machine's answers are its chart.
use Rattle.std.proofs.Common.{◌≡◌, ℕ, ◌<◌, ◌≤◌, true, cond, ltb, ◌⊎◌, List, get_or, Some, None, Option, sym, refl, ◌∙◌, inl, inr, rules, arith}
use Rattle.std.proofs.lemmas.Bool.{cases_lt, lt-ltb, cond_below, cond_above}
use Rattle.systems.specs.Machine.{Machine, Lawful, bare}
use Rattle.systems.specs.Flat.{present, step_lawful, step_at, StepsLawful, ListsRoles, ListsSteps}
use Rattle.systems.specs.declared.system.Role.{Role}
use Rattle.systems.specs.declared.system.Role.TheVariants.{Absent, Input, Output, Internal}

pub same_machine : (m n : Machine) → m.count ≡ n.count → m.first ≡ n.first
    → ((e : ℕ) → m.role e ≡ n.role e) → ((s e : ℕ) → m.step s e ≡ n.step s e) → m ≡ n
same_machine m n p q r t = λ i. record { count = p i; first = q i; role = λ e. r e i; step = λ s e. t s e i }

pub same_some : (a b : ℕ) → Some a ≡ Some b → a ≡ b
same_some a b h = cc

pub none_some : (t : ℕ) → None ≡ Some t → ⊥
none_some t h = cc

pub none_unless : (o : Option ℕ) → ((t : ℕ) → o ≡ Some t → ⊥) → o ≡ None
none_unless None h = refl
none_unless (Some t) h = absurd (h t refl)

pub bare_lawful : Lawful bare
bare_lawful = search rules

pub role_cases : (r : Role) → (r ≡ Absent) ⊎ (r ≡ Absent → ⊥)
role_cases Absent = inl refl
role_cases Input = inr (λ h. cc)
role_cases Output = inr (λ h. cc)
role_cases Internal = inr (λ h. cc)

pub is_present : (r : Role) → (r ≡ Absent → ⊥) → present r ≡ true
is_present Absent h = absurd (h refl)
is_present Input h = refl
is_present Output h = refl
is_present Internal h = refl

-- a list up to a bound, and nothing past it
abbrev pub upto : {A : Type 0} → ℕ → (ℕ → A) → A → ℕ → A
upto n f d e = cond (ltb e n) (f e) d

pub upto_is : {A : Type 0} (n : ℕ) (f g : ℕ → A) (d : A) → ((e : ℕ) → e < n → f e ≡ g e) → ((e : ℕ) → n ≤ e → g e ≡ d)
    → (e : ℕ) → upto n f d e ≡ g e
upto_is n f g d below past e =
    elim (cases_lt e n) [
      | inl h ↦ sym (cond_below e n (f e) d h) ∙ below e h
      | inr h ↦ sym (cond_above e n (f e) d d h refl) ∙ sym (past e h)
    ]

module _ (m : Machine) (w : Lawful m) where
  pub no_state : (s e : ℕ) → m.count ≤ s → m.step s e ≡ None
  no_state s e h = none_unless (m.step s e) (λ t p. omega (arith, w.state_below s e t p))

  pub no_event : (s e : ℕ) → 64 ≤ e → m.step s e ≡ None
  no_event s e h = none_unless (m.step s e) (λ t p. w.takes_part s e t p (w.event_below e h))

  lawful_at : (s e : ℕ) (r : Role) (o : Option ℕ) → r ≡ m.role e → o ≡ m.step s e → step_lawful m.count s r o ≡ true
  lawful_at s e r None p q = refl
  lawful_at s e r (Some t) p q =
      rw (
        lt-ltb s m.count (w.state_below s e t (sym q)),
        lt-ltb t m.count (w.next_below s e t (sym q)),
        is_present r (λ a. w.takes_part s e t (sym q) (sym p ∙ a)),
      ) refl

  pub lists_lawful : (roles : List Role) (steps : List (List (Option ℕ))) → ListsRoles m roles → ListsSteps m steps
      → StepsLawful m.count roles steps
  lists_lawful roles steps r t s e h = lawful_at s e (get_or roles e Absent) (step_at steps s e) (r e h) (t s e h)
