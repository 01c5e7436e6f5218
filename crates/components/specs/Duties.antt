-- The duty monitor: the layout of its bytes, what its states keep, and which runs it has.
use Rattle.std.specs.Prelude.{◌≡◌, ℕ, ◌+◌, ◌*◌, ◌/◌, ◌%◌, ◌^◌, ◌<◌, ◌≤◌, ◌≢◌, ◌⊎◌, ◌↔◌, List, [], ◌∷◌, Some, slice_index}
use Rattle.std.specs.List.{AllByRecursion}
use Rattle.systems.specs.Machine.{Machine}
use Rattle.systems.specs.Runs.{Run}
use Rattle.systems.specs.declared.system.Role.TheVariants.{Absent, Input}

-- the number of users
abbrev pub users_of : List ℕ → ℕ
users_of bs = slice_index bs 0

-- the entry of event e; zero where e is no event of the monitor
abbrev pub entry_of : List ℕ → ℕ → ℕ
entry_of bs e = slice_index bs (1 + e)

-- event e is an act of user u in activity x, of which there are two
abbrev pub ActOf : List ℕ → ℕ → ℕ → ℕ → Type 0
ActOf bs e u x = (x < 2) × (entry_of bs e ≡ 1 + 2 * u + x)

-- some event of the list is an act of user u in activity x
abbrev pub ActsIn : List ℕ → List ℕ → ℕ → ℕ → Type 0
ActsIn bs [] u x = ⊥
ActsIn bs (e ∷ es) u x = ActOf bs e u x ⊎ ActsIn bs es u x

-- nobody acts in both activities
abbrev pub Separated : List ℕ → List ℕ → Type 0
Separated bs es = (u : ℕ) → ActsIn bs es u 0 → ActsIn bs es u 1 → ⊥

-- What state s keeps of user u, the base-3 digit of weight 3^u: 0 if the user has not acted, else 1 + the activity.
abbrev pub digit : ℕ → ℕ → ℕ
digit s u = s / 3 ^ u % 3

-- an act of user u in activity x is possible in s and leads to t: the user has not acted otherwise, t keeps the act, and all else is as in s
pub record Acted (s u x t : ℕ) : Type 0 where
  pub free : (digit s u ≡ 0) ⊎ (digit s u ≡ 1 + x)
  pub kept : digit t u ≡ 1 + x
  pub others : (v : ℕ) → v ≢ u → digit t v ≡ digit s v

-- The machine that the bytes mean. Its events are inputs.
pub record Monitors (bs : List ℕ) (m : Machine) : Type 0 where
  pub count : m.count ≡ 3 ^ users_of bs
  pub first : m.first ≡ 0
  pub input : (e : ℕ) → 1 ≤ entry_of bs e → m.role e ≡ Input
  pub absent : (e : ℕ) → entry_of bs e ≡ 0 → m.role e ≡ Absent
  pub step : (s e u x t : ℕ) → s < 3 ^ users_of bs → ActOf bs e u x → (m.step s e ≡ Some t) ↔ Acted s u x t
  pub no_act : (s e t : ℕ) → entry_of bs e ≡ 0 → m.step s e ≢ Some t
  pub no_state : (s e t : ℕ) → 3 ^ users_of bs ≤ s → m.step s e ≢ Some t

-- the machine's runs are exactly the lists of its events in which nobody acts in both activities
abbrev pub RunsSeparated : List ℕ → Machine → Type 0
RunsSeparated bs m = (es : List ℕ) → Run m es ↔ (AllByRecursion (λ e. 1 ≤ entry_of bs e) es × Separated bs es)
