-- The layout of a stored table, and the system that its bytes mean.
use Rattle.std.specs.Prelude.{◌≡◌, ℕ, ◌+◌, ◌-◌, ◌*◌, ◌<◌, ◌≤◌, ◌↔◌, cond, List, Some, Result, MatchResult, ◌≢◌, nat_lt, slice_index}
use Rattle.systems.specs.Machine.{Machine}
use Rattle.systems.specs.declared.system.Role.{Role}
use Rattle.systems.specs.declared.system.Role.TheVariants.{Absent, Input, Output, Internal}
use Rattle.systems.specs.declared.system.UnknownRole.{UnknownRole}

-- a two-byte field, low byte first
abbrev pub word : List ℕ → ℕ → ℕ
word bs at = slice_index bs at + 256 * slice_index bs (at + 1)

abbrev pub count_of : List ℕ → ℕ
count_of bs = word bs 0

abbrev pub first_of : List ℕ → ℕ
first_of bs = word bs 2

-- the number of records
abbrev pub records_of : List ℕ → ℕ
records_of bs = word bs 4

abbrev pub role_byte : List ℕ → ℕ → ℕ
role_byte bs e = slice_index bs (6 + e)

-- the record that begins the chain of state s; zero where the chain is empty
abbrev pub head_of : List ℕ → ℕ → ℕ
head_of bs s = word bs (70 + 2 * s)

-- the same for any number; what is no state has an empty chain
abbrev pub chain_begin : List ℕ → ℕ → ℕ
chain_begin bs s = cond (nat_lt s (count_of bs)) (head_of bs s) 0

-- where record k begins; records are numbered from 1, so nothing asks for record 0
unfoldable pub place_of : List ℕ → ℕ → ℕ
place_of bs k = 70 + 2 * count_of bs + 6 * (k - 1)

abbrev pub event_of : List ℕ → ℕ → ℕ
event_of bs k = word bs (place_of bs k)

abbrev pub target_of : List ℕ → ℕ → ℕ
target_of bs k = word bs (place_of bs k + 2)

-- the record after record k in its chain; zero ends the chain
abbrev pub next_of : List ℕ → ℕ → ℕ
next_of bs k = word bs (place_of bs k + 4)

-- record j is of the chain that begins at record k
pub data OnChain (bs : List ℕ) : ℕ → ℕ → Type 0 where
  here : (k : ℕ) → 0 < k → OnChain bs k k
  further : (k j : ℕ) → 0 < k → OnChain bs (next_of bs k) j → OnChain bs k j

-- a record of the chain of state s has event e and target t
abbrev pub HasRecord : List ℕ → ℕ → ℕ → ℕ → Type 0
HasRecord bs s e t = (j : ℕ) × (OnChain bs (head_of bs s) j × ((event_of bs j ≡ e) × (target_of bs j ≡ t)))

-- how a table's bytes number the roles
abbrev pub role_number : Role → ℕ
role_number Absent = 0
role_number Input = 1
role_number Output = 2
role_number Internal = 3

-- the role that a byte numbers, or that there is none
abbrev pub RoleNumbered : ℕ → Result Role UnknownRole → Type 0
RoleNumbered byte r = MatchResult r (λ role. role_number role ≡ byte) (λ e. (e.0 ≡ byte) × (3 < byte))

-- The machine that the bytes mean: state s can do event e if and only if a record of its chain has event e, and that record's target is
-- the next state.
pub record Means (bs : List ℕ) (m : Machine) : Type 0 where
  pub count : m.count ≡ count_of bs
  pub first : m.first ≡ first_of bs
  pub role : (e : ℕ) → e < 64 → role_number (m.role e) ≡ role_byte bs e
  pub no_role : (e : ℕ) → 64 ≤ e → m.role e ≡ Absent
  pub step : (s e t : ℕ) → s < count_of bs → (m.step s e ≡ Some t) ↔ HasRecord bs s e t
  pub no_step : (s e t : ℕ) → count_of bs ≤ s → m.step s e ≢ Some t
