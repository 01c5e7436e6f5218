-- What can be wrong with a bundle: each fault's number, part, place and condition.
use Rattle.std.specs.Prelude.{ℕ, ◌+◌, ◌<◌, ◌≢◌, List, length, Result, slice_index}
use Rattle.systems.specs.Faults.{Before, First, Checked, NoFault}
use Rattle.systems.specs.TableFaults.{table_number, table_place, TableFaulty}
use Rattle.notices.specs.Bundles.{Classed, table_length, table_of}
use Rattle.notices.specs.declared.fault.BundleFault.{BundleFault}
use Rattle.notices.specs.declared.fault.BundleFault.TheVariants.{Short, Letter, LineFeed, Cut, Table}

abbrev pub fault_number : BundleFault → ℕ
fault_number Short = 1
fault_number (Letter e) = 2
fault_number LineFeed = 3
fault_number Cut = 4
fault_number (Table f) = table_number f

-- 0 the bundle itself, 1 its table
abbrev pub fault_part : BundleFault → ℕ
fault_part Short = 0
fault_part (Letter e) = 0
fault_part LineFeed = 0
fault_part Cut = 0
fault_part (Table f) = 1

-- the event, state or record; zero where a fault has none
abbrev pub fault_place : BundleFault → ℕ
fault_place Short = 0
fault_place (Letter e) = e
fault_place LineFeed = 0
fault_place Cut = 0
fault_place (Table f) = table_place f

-- the bundle has the fault
abbrev pub BundleFaulty : List ℕ → BundleFault → Type 0
BundleFaulty bs Short = length bs < 67
BundleFaulty bs (Letter e) = (e < 64) × (Classed bs e → ⊥)
BundleFaulty bs LineFeed = slice_index bs 64 ≢ 10
BundleFaulty bs Cut = length bs < 67 + table_length bs
BundleFaulty bs (Table f) = TableFaulty (table_of bs) f

-- the bundle has no fault
abbrev pub Faultless : List ℕ → Type 0
Faultless bs = NoFault (BundleFaulty bs)

abbrev pub BundleBefore : BundleFault → BundleFault → Type 0
BundleBefore = Before fault_number fault_place

abbrev pub FirstBundleFault : List ℕ → BundleFault → Type 0
FirstBundleFault bs = First (BundleFaulty bs) BundleBefore

-- what the check of a bundle answers
abbrev pub BundleChecked : List ℕ → Result (Unit {0}) BundleFault → Type 0
BundleChecked bs = Checked (BundleFaulty bs) BundleBefore
