-- The lists of a chart: the rules of their steps, and which machine's answers they hold.
use Rattle.std.specs.Prelude.{◌≡◌, ℕ, ◌<◌, Bool, true, false, ◌&&◌, List, [], Some, None, Option, nat_lt, slice_index_or}
use Rattle.systems.specs.Machine.{Machine}
use Rattle.systems.specs.declared.system.Role.{Role}
use Rattle.systems.specs.declared.system.Role.TheVariants.{Absent, Input, Output, Internal}

-- Ghost fields of a struct take tests rather than relations, so a chart's rules are stated as a test here.

-- the event of this role is one of the system
abbrev pub present : Role → Bool
present Absent = false
present Input = true
present Output = true
present Internal = true

-- where a step is possible, it goes between states, by an event of the system: n states, from s by an event of role r
abbrev pub step_lawful : ℕ → ℕ → Role → Option ℕ → Bool
step_lawful n s r None = true
step_lawful n s r (Some t) = nat_lt s n && (nat_lt t n && present r)

-- the step of state s by event e in a list of rows, one for each state
abbrev pub step_at : List (List (Option ℕ)) → ℕ → ℕ → Option ℕ
step_at steps s e = slice_index_or (slice_index_or steps s []) e None

-- every step of the rows is lawful
abbrev pub StepsLawful : ℕ → List Role → List (List (Option ℕ)) → Type 0
StepsLawful n roles steps = (s e : ℕ) → e < 64 → step_lawful n s (slice_index_or roles e Absent) (step_at steps s e) ≡ true

-- the list has the role of each event
abbrev pub ListsRoles : Machine → List Role → Type 0
ListsRoles m roles = (e : ℕ) → e < 64 → slice_index_or roles e Absent ≡ m.role e

-- the row has the steps of state s
abbrev pub ListsStepsOf : Machine → ℕ → List (Option ℕ) → Type 0
ListsStepsOf m s row = (e : ℕ) → e < 64 → slice_index_or row e None ≡ m.step s e

-- the rows have the steps of every state, and none elsewhere
abbrev pub ListsSteps : Machine → List (List (Option ℕ)) → Type 0
ListsSteps m steps = (s : ℕ) → ListsStepsOf m s (slice_index_or steps s [])
