-- Arrays made by calls of one closure.
use Rattle.std.proofs.Common.{◌≡◌, ℕ, zero, suc, ◌+◌, ◌<◌, List, get_or, sym, refl, subst, arith}
use denote.Param.Members.{Mut, Called}
use Rattle.std.specs.Array.{IsFromFnResult, IsFromFnResultFrom}

module _ {F B : Type 0} (g : Mut F (ℕ × Unit {0}) B) (f : F) (P : ℕ → B → Type 0) where
  -- each call leaves the closure as it was, and what it gives has P
  abbrev pub Keeps : Type 0
  Keeps = (i : ℕ) (y : B) (q : F) → Called g f (i, tt) y q → (q ≡ f) × P i y

  module _ (keeps : Keeps) (ys : List B) (d : B) where
    made_from : (p : F) (i n : ℕ) → p ≡ f → IsFromFnResultFrom g p ys i n → (k : ℕ) → k < n → P (i + k) (get_or ys (i + k) d)
    made_from p i zero e r k h = absurd (omega arith)
    made_from p i (suc n) e (q, y, is, called, rest) zero h =
        let (kept, good) = keeps i y q (subst (λ (x : F). Called g x (i, tt) y q) e called) in
        let z : i ≡ i + 0 = omega arith in
        subst (λ (j : ℕ). P j (get_or ys j d)) z (subst (P i) (sym (is.1 d)) good)
    made_from p i (suc n) e (q, y, is, called, rest) (suc k) h =
        let (kept, good) = keeps i y q (subst (λ (x : F). Called g x (i, tt) y q) e called) in
        let z : (i + 1) + k ≡ i + suc k = omega arith in
        subst (λ (j : ℕ). P j (get_or ys j d)) z (made_from q (i + 1) n kept rest k (omega arith))

    pub made : (n : ℕ) → IsFromFnResult g f ys n → (k : ℕ) → k < n → P k (get_or ys k d)
    made n r k h =
        let z : 0 + k ≡ k = omega arith in
        subst (λ (j : ℕ). P j (get_or ys j d)) z (made_from f 0 n refl r.each k h)
