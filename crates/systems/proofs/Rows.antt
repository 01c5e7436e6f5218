-- The rows of a chart, filled state by state.
use Rattle.std.proofs.Common.{◌≡◌, ℕ, zero, suc, ◌+◌, ◌<◌, ◌≤◌, ◌≢◌, List, [], length, get_or, set, replicate, None, Option, refl, inl, inr, arith, get_or-set_other, get_or-set_same}
use Rattle.std.proofs.lemmas.List.{get_or-replicate, get_or_past, length-set}
use Rattle.std.proofs.lemmas.Bool.{cases_lt, cases_eq}

pub replica_at : {A : Type 0} (n i : ℕ) (x : A) → get_or (replicate n x) i x ≡ x
replica_at zero i x = refl
replica_at (suc n) zero x = refl
replica_at (suc n) (suc i) x = replica_at n i x

-- below row n each row is right, and nothing stands in the others
pub record RowsDone (Right : ℕ → List (Option ℕ) → Type 0) (n : ℕ) (rows : List (List (Option ℕ))) : Type 0 where
  pub long : length rows ≡ 256
  pub done : (s : ℕ) → s < n → Right s (get_or rows s [])
  pub rest : (s e : ℕ) → n ≤ s → get_or (get_or rows s []) e None ≡ None

-- a row without a step
abbrev empty : List (Option ℕ)
empty = replicate 64 None

-- nothing stands in rows that are empty, nor past them
empty_rows : (s e : ℕ) → get_or (get_or (replicate 256 empty) s []) e None ≡ None
empty_rows s e =
    elim (cases_lt s 256) [
      | inl l ↦ rw (get_or-replicate 256 s empty [] l) (replica_at 64 e None)
      | inr g ↦ rw (get_or_past (replicate 256 empty) s [] g) refl
    ]

module _ (Right : ℕ → List (Option ℕ) → Type 0) where
  pub rows_none : RowsDone Right 0 (replicate 256 empty)
  rows_none = record { long = refl; done = λ s h. absurd (omega arith); rest = λ s e h. empty_rows s e }

  -- one row more, at place i
  pub rows_more : (n i : ℕ) (rows : List (List (Option ℕ))) (row : List (Option ℕ)) → i ≡ n → n < 256 → RowsDone Right n rows → Right n row
      → RowsDone Right (n + 1) (set rows i row)
  rows_more n i rows row same h d right = rw same (record { long = simp length-set d.long; done = done; rest = rest })
    where
      done : (s : ℕ) → s < n + 1 → Right s (get_or (set rows n row) s [])
      done s l =
          let here : n < length rows = omega (arith, d.long) in
          elim (cases_eq s n) [
            | inl e ↦ rw e (rw get_or-set_same right)
            | inr ne ↦ rw get_or-set_other (d.done s (omega arith))
          ]

      rest : (s e : ℕ) → n + 1 ≤ s → get_or (get_or (set rows n row) s []) e None ≡ None
      rest s e l = let ne : s ≢ n = omega arith in rw get_or-set_other (d.rest s e (omega arith))
