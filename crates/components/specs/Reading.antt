-- What reading duty bytes finds on the way to a monitor.
use Rattle.std.specs.Prelude.{◌≡◌, ℕ, ◌*◌, ◌<◌, ◌≤◌, List, ◌∷◌, Some, None, Option, length, slice_index}

-- the number of users stands before the entries
pub record Split (bs : List ℕ) (users : ℕ) (entries : List ℕ) : Type 0 where
  pub whole : bs ≡ users ∷ entries
  pub long : length entries ≡ 64

-- the parts of bytes without a fault
pub record Parts (bs : List ℕ) (users : ℕ) (entries : List ℕ) : Type 0 where
  pub split : Split bs users entries
  pub some : 1 ≤ users
  pub most : users ≤ 5
  pub known : (e : ℕ) → e < 64 → slice_index entries e ≤ 2 * users

-- the first entry above the highest that is allowed
abbrev pub FirstAbove : ℕ → List ℕ → Option ℕ → Type 0
FirstAbove highest entries None = (e : ℕ) → e < length entries → slice_index entries e ≤ highest
FirstAbove highest entries (Some e) = (e < length entries) × (highest < slice_index entries e) × ((k : ℕ) → k < e → slice_index entries k ≤ highest)
