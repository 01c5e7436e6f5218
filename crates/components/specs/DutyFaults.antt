-- What can be wrong with duty bytes: each fault's number, place and condition.
use Rattle.std.specs.Prelude.{◌≡◌, ℕ, ◌*◌, ◌<◌, ◌≤◌, ◌≢◌, ◌⊎◌, List, length, Result}
use Rattle.systems.specs.Faults.{Before, First, NoFault, Checked, TakenUp}
use Rattle.systems.specs.Machine.{Machine}
use Rattle.components.specs.Duties.{users_of, entry_of, Monitors, RunsSeparated}
use Rattle.components.specs.declared.duty.fault.DutyFault.{DutyFault}
use Rattle.components.specs.declared.duty.fault.DutyFault.TheVariants.{Length, Users, Entry}

abbrev pub duty_number : DutyFault → ℕ
duty_number Length = 15
duty_number Users = 16
duty_number (Entry e) = 17

-- the event; zero where a fault has none
abbrev pub duty_place : DutyFault → ℕ
duty_place Length = 0
duty_place Users = 0
duty_place (Entry e) = e

-- the bytes have the fault
abbrev pub DutyFaulty : List ℕ → DutyFault → Type 0
DutyFaulty bs Length = length bs ≢ 65
DutyFaulty bs Users = (users_of bs ≡ 0) ⊎ (5 < users_of bs)
DutyFaulty bs (Entry e) = (e < 64) × (2 * users_of bs < entry_of bs e)

abbrev pub DutyBefore : DutyFault → DutyFault → Type 0
DutyBefore = Before duty_number duty_place

abbrev pub FirstDutyFault : List ℕ → DutyFault → Type 0
FirstDutyFault bs = First (DutyFaulty bs) DutyBefore

-- what the check of duty bytes answers
abbrev pub DutyChecked : List ℕ → Result (Unit {0}) DutyFault → Type 0
DutyChecked bs = Checked (DutyFaulty bs) DutyBefore

-- what taking up duty bytes gives: the machine that they mean, or the bare one
abbrev pub DutyTakenUp : List ℕ → Machine → Type 0
DutyTakenUp bs = TakenUp (DutyFaulty bs) (Monitors bs)

-- which runs it then has: where the bytes have no fault, those in which nobody acts in both activities
abbrev pub DutyRuns : List ℕ → Machine → Type 0
DutyRuns bs m = NoFault (DutyFaulty bs) → RunsSeparated bs m

-- what the checks leave known of the bytes
pub record Sound (bs : List ℕ) : Type 0 where
  pub long : length bs ≡ 65
  pub some : 1 ≤ users_of bs
  pub most : users_of bs ≤ 5
  pub entries : (e : ℕ) → e < 64 → entry_of bs e ≤ 2 * users_of bs
