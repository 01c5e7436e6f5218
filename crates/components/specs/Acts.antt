-- What events are: acts of users, as the entries of duty bytes name them.
use Rattle.std.specs.Prelude.{◌≡◌, ℕ, ◌+◌, ◌*◌, ◌<◌, ◌≤◌, List, Some, None, Option, slice_index_or}
use Rattle.std.specs.Option.{ForSome}
use Rattle.components.specs.declared.duty.act.Activity.{Activity}
use Rattle.components.specs.declared.duty.act.Activity.TheVariants.{First, Second}
use Rattle.components.specs.declared.duty.act.Act.{Act}

abbrev pub activity_number : Activity → ℕ
activity_number First = 0
activity_number Second = 1

-- what an entry names: 1 + 2u + x names the act of user u in activity x, and up to 10 only zero names none
abbrev pub ActNamed : ℕ → Option Act → Type 0
ActNamed n None = n ≤ 10 → n ≡ 0
ActNamed n (Some a) = n ≡ 1 + 2 * a.user + activity_number a.activity

-- what event e is in a list of acts
abbrev pub act_at : List (Option Act) → ℕ → Option Act
act_at acts e = slice_index_or acts e None

-- each act is of one of the users
abbrev pub ActsKnown : ℕ → List (Option Act) → Type 0
ActsKnown users acts = (e : ℕ) → ForSome (act_at acts e) (λ a. a.user < users)
