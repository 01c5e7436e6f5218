-- What can keep two systems from being composed: each fault's number, place and condition.
use Rattle.std.specs.Prelude.{◌≡◌, ℕ, ◌*◌, ◌<◌, ◌⊎◌, Result, ◌≢◌}
use Rattle.systems.specs.Faults.{Before, First, NoFault, Checked, TakenUp}
use Rattle.systems.specs.Machine.{Machine}
use Rattle.systems.specs.declared.system.Role.{Role}
use Rattle.systems.specs.declared.system.Role.TheVariants.{Absent, Input, Output}
use Rattle.compositions.specs.Composing.{Composes, RunsByShares}
use Rattle.compositions.specs.declared.composition.fault.CompositionFault.{CompositionFault}
use Rattle.compositions.specs.declared.composition.fault.CompositionFault.TheVariants.{States, Shared}

abbrev pub composition_number : CompositionFault → ℕ
composition_number States = 18
composition_number (Shared e) = 19

-- the event; zero where a fault has none
abbrev pub composition_place : CompositionFault → ℕ
composition_place States = 0
composition_place (Shared e) = e

-- an input on one side and an output on the other
abbrev pub Opposite : Role → Role → Type 0
Opposite r q = ((r ≡ Input) × (q ≡ Output)) ⊎ ((r ≡ Output) × (q ≡ Input))

-- an event with these roles is in both parts, and not an input of one and an output of the other
abbrev pub Clash : Role → Role → Type 0
Clash r q = (r ≢ Absent) × ((q ≢ Absent) × (Opposite r q → ⊥))

-- the two parts have the fault
abbrev pub CompositionFaulty : Machine → Machine → CompositionFault → Type 0
CompositionFaulty m n States = 256 < m.count * n.count
CompositionFaulty m n (Shared e) = Clash (m.role e) (n.role e)

abbrev pub CompositionBefore : CompositionFault → CompositionFault → Type 0
CompositionBefore = Before composition_number composition_place

abbrev pub FirstCompositionFault : Machine → Machine → CompositionFault → Type 0
FirstCompositionFault m n = First (CompositionFaulty m n) CompositionBefore

-- what the check of two parts answers
abbrev pub CompositionChecked : Machine → Machine → Result (Unit {0}) CompositionFault → Type 0
CompositionChecked m n = Checked (CompositionFaulty m n) CompositionBefore

-- what taking up two parts gives: their composition, or the bare machine
abbrev pub CompositionTakenUp : Machine → Machine → Machine → Type 0
CompositionTakenUp m n = TakenUp (CompositionFaulty m n) (Composes m n)

-- which runs it then has: where the parts have no fault, those of which each part's share is a run of that part
abbrev pub CompositionRuns : Machine → Machine → Machine → Type 0
CompositionRuns m n c = NoFault (CompositionFaulty m n) → RunsByShares m n c
