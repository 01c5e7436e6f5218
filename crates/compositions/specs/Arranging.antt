-- What each stage of the check leaves known.
use Rattle.std.specs.Prelude.{ℕ, ◌<◌, ◌≤◌, Option, Result, MatchOption, MatchResult}
use Rattle.systems.specs.Faults.{NoFault}
use Rattle.systems.specs.Machine.{Machine}
use Rattle.compositions.specs.CompositionFaults.{Clash, CompositionFaulty, FirstCompositionFault}
use Rattle.compositions.specs.Grids.{Spans}
use Rattle.compositions.specs.declared.composition.fault.CompositionFault.{CompositionFault}
use Rattle.compositions.specs.declared.composition.grid.Grid.{Grid}

-- the grid of two parts' states, or the first fault of the parts: that the states are too many
abbrev pub Gridded : Machine → Machine → Result Grid CompositionFault → Type 0
Gridded m n r = MatchResult r (Spans m n) (FirstCompositionFault m n)

-- the event's roles in the two parts clash
abbrev pub ClashAt : Machine → Machine → ℕ → Type 0
ClashAt m n e = Clash (m.role e) (n.role e)

-- the lowest event, of those from low up to high, at which the roles clash, if there is one
abbrev pub FirstClash : Machine → Machine → ℕ → ℕ → Option ℕ → Type 0
FirstClash m n low high r =
    MatchOption r ((k : ℕ) → low ≤ k → k < high → ClashAt m n k → ⊥)
    (λ e. (low ≤ e) × (e < high) × ClashAt m n e × ((k : ℕ) → low ≤ k → k < e → ClashAt m n k → ⊥))

-- the grid of two parts' states, where the parts have no fault, or their first fault
abbrev pub Arranged : Machine → Machine → Result Grid CompositionFault → Type 0
Arranged m n r = MatchResult r (λ g. Spans m n g × NoFault (CompositionFaulty m n)) (FirstCompositionFault m n)

-- the grid of two parts' states, exactly where the parts have no fault
abbrev pub Stands : Machine → Machine → Option Grid → Type 0
Stands m n o = MatchOption o (NoFault (CompositionFaulty m n) → ⊥) (λ g. Spans m n g × NoFault (CompositionFaulty m n))
