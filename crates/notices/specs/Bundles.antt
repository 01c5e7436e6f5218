-- The layout of a bundle.
use Rattle.std.specs.Prelude.{◌≡◌, ℕ, ◌+◌, ◌<◌, ◌≤◌, List, length, take, drop, slice_index, slice_index_or}
use Rattle.systems.specs.StoredTable.{word}
use Rattle.unwinding.specs.Classes.{letter_of}
use Rattle.unwinding.specs.declared.class.Class.{Class}

-- some class has the letter of event e
abbrev pub Classed : List ℕ → ℕ → Type 0
Classed bs e = (c : Class) × (letter_of c ≡ slice_index bs e)

abbrev pub table_length : List ℕ → ℕ
table_length bs = word bs 65

abbrev pub table_of : List ℕ → List ℕ
table_of bs = take (table_length bs) (drop 67 bs)

abbrev pub duty_of : List ℕ → List ℕ
duty_of bs = drop (67 + table_length bs) bs

-- the events below n have class letters
abbrev pub LettersKnown : List ℕ → ℕ → Type 0
LettersKnown bs n = (e : ℕ) → e < n → Classed bs e

-- what the checks of the bundle itself leave known
pub record Whole (bs : List ℕ) : Type 0 where
  pub letters : LettersKnown bs 64
  pub line_feed : slice_index_or bs 64 0 ≡ 10
  pub long : 67 + table_length bs ≤ length bs
