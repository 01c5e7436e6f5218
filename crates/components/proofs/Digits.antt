-- Base-3 digits: what an act changes of them, and that they determine the number.
use Rattle.std.proofs.Common.{◌≡◌, ℕ, zero, suc, ◌+◌, ◌-◌, ◌*◌, ◌/◌, ◌%◌, ◌^◌, ◌<◌, ◌≤◌, ◌≢◌, ◌⊎◌, Some, refl, sym, ap, ◌∙◌, inl, inr, arith}
use Rattle.std.proofs.Math.Nat.{pow-succ', div-div-eq-div-mul, add-mul-div_right}
use Rattle.std.proofs.lemmas.Bool.{cases_lt}
use Rattle.std.proofs.lemmas.Bool.Decides.{nat_tests}
use Rattle.components.specs.Duties.{digit, Acted}
use Rattle.components.specs.Monitors.{marked}
use Rattle.components.specs.DutyMachines.{some_states, place}

lowest : (n : ℕ) → digit n 0 ≡ n % 3
lowest n = omega arith

-- the higher digits are those of a third
higher : (n u : ℕ) → digit n (suc u) ≡ digit (n / 3) u
higher n u = ap (λ k. n / k % 3) (pow-succ' 3 u) ∙ ap (λ k. k % 3) (sym (div-div-eq-div-mul n 3 (3 ^ u)))

same_below : (n a b : ℕ) → a ≤ n → b ≤ n → ((v : ℕ) → digit a v ≡ digit b v) → a ≡ b
same_below zero a b p q same = omega arith
same_below (suc n) a b p q same =
    let thirds : a / 3 ≡ b / 3 =
    same_below n (a / 3) (b / 3) (omega arith) (omega arith) (λ v. sym (higher a v) ∙ same (suc v) ∙ higher b v) in
    let rest : a % 3 ≡ b % 3 = sym (lowest a) ∙ same 0 ∙ lowest b in
    omega arith

-- the digits of a number determine it
same_digits : (a b : ℕ) → ((v : ℕ) → digit a v ≡ digit b v) → a ≡ b
same_digits a b = same_below (a + b) a b (omega arith) (omega arith)

-- an act leads to one state only
same_acted : (s u x t t' : ℕ) → Acted s u x t → Acted s u x t' → t ≡ t'
same_acted s u x t t' a b = same_digits t t' (λ v. grind (arith, a.others v, b.others v))

module _ (c s u : ℕ) (small : c < 3) (z : digit s u ≡ 0) where
  added : (s + c * 3 ^ u) / 3 ^ u ≡ s / 3 ^ u + c
  added = add-mul-div_right s c (some_states u)

  digit_below : (v : ℕ) → v < u → digit (s + c * 3 ^ u) v ≡ digit s v
  digit_below v h =
      let rest = 3 ^ (u - suc v) in
      let e = ap (λ m. s + c * m) (place u v h) in
      let f : s + c * 3 ^ u ≡ s + c * rest * 3 * 3 ^ v = omega arith in
      let g = ap (λ m. m / 3 ^ v) f ∙ add-mul-div_right s (c * rest * 3) (some_states v) in
      omega arith

  digit_above : (v : ℕ) → u < v → digit (s + c * 3 ^ u) v ≡ digit s v
  digit_above v h = ap (λ m. m % 3) (split (s + c * 3 ^ u) ∙ ap (λ m. m / rest) thirds ∙ sym (split s))
    where
      rest : ℕ
      rest = 3 ^ (v - suc u)

      split : (n : ℕ) → n / 3 ^ v ≡ n / 3 ^ u / 3 / rest
      split n =
          let e : 3 ^ v ≡ 3 ^ u * (3 * rest) = omega (arith, place v u h) in
          ap (λ m. n / m) e ∙ sym (div-div-eq-div-mul n (3 ^ u) (3 * rest)) ∙ sym (div-div-eq-div-mul (n / 3 ^ u) 3 rest)

      thirds : (s + c * 3 ^ u) / 3 ^ u / 3 ≡ s / 3 ^ u / 3
      thirds = omega (arith, added)

  -- what is added to a digit that is 0 is the digit then, and the other digits stay
  digit_added : digit (s + c * 3 ^ u) u ≡ c
  digit_added = omega (arith, added)

  digit_kept : (v : ℕ) → v ≢ u → digit (s + c * 3 ^ u) v ≡ digit s v
  digit_kept v ne = elim (cases_lt v u) [ inl h ↦ digit_below v h | inr h ↦ digit_above v (omega arith) ]

module _ (s u x : ℕ) (small : x < 2) where
  first_acted : digit s u ≡ 0 → Acted s u x (s + (1 + x) * 3 ^ u)
  first_acted z =
      record {
        free = inl z;
        kept = digit_added (1 + x) s u (omega arith) z;
        others = digit_kept (1 + x) s u (omega arith) z;
      }

  again_acted : digit s u ≡ 1 + x → Acted s u x s
  again_acted h = record { free = inr h; kept = h; others = λ v ne. refl }

  -- where the user has not acted otherwise, the act is possible
  pub possible : (digit s u ≡ 0) ⊎ (digit s u ≡ 1 + x) → (t : ℕ) × Acted s u x t
  possible free = grind (arith, first_acted, again_acted)

  pub marked_acted : (t : ℕ) → marked s u x ≡ Some t → Acted s u x t
  marked_acted t h = grind (arith, nat_tests, first_acted, again_acted)

  pub acted_marked : (t : ℕ) → Acted s u x t → marked s u x ≡ Some t
  acted_marked t a =
      elim a.free [
        | inl z ↦ let e = same_acted s u x t (s + (1 + x) * 3 ^ u) a (first_acted z) in grind (arith, nat_tests)
        | inr z ↦ let e = same_acted s u x t s a (again_acted z) in grind (arith, nat_tests)
      ]
