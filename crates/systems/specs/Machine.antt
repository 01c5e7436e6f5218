-- A finite state-event system, by what it answers, and the rules that every system keeps.
use Rattle.std.specs.Prelude.{◌≡◌, ℕ, ◌<◌, ◌≤◌, Some, None, Option}
use Rattle.systems.specs.declared.system.Role.{Role}
use Rattle.systems.specs.declared.system.Role.TheVariants.{Absent}

-- states and events by their numbers; `step s e` is `Some t` where event e leads from s to t, and `None` where it is not possible
pub record Machine : Type 0 where
  pub count : ℕ
  pub first : ℕ
  pub role : ℕ → Role
  pub step : ℕ → ℕ → Option ℕ

-- event e is one of the system's
abbrev pub EventOf : Machine → ℕ → Type 0
EventOf m e = m.role e ≡ Absent → ⊥

-- The rules of a system: it has 1 to 256 states, among them the first and every next state; an event above 63 is none of its events; a step
-- leads from a state, by an event of the system.
pub record Lawful (m : Machine) : Type 0 where
  pub count_least : 1 ≤ m.count
  pub count_most : m.count ≤ 256
  pub first_below : m.first < m.count
  pub event_below : (e : ℕ) → 64 ≤ e → m.role e ≡ Absent
  pub next_below : (s e t : ℕ) → m.step s e ≡ Some t → t < m.count
  pub state_below : (s e t : ℕ) → m.step s e ≡ Some t → s < m.count
  pub takes_part : (s e t : ℕ) → m.step s e ≡ Some t → EventOf m e

-- one state and no event
abbrev pub bare : Machine
bare = record { count = 1; first = 0; role = λ e. Absent; step = λ s e. None }
