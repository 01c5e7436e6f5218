-- What is found in a bundle.
use Rattle.std.specs.Prelude.{◌≡◌, ℕ, ◌≤◌, List, length, Ok, Err, Result}
use Rattle.systems.specs.Machine.{Machine}
use Rattle.systems.specs.Runs.{Reached}
use Rattle.systems.specs.StoredTable.{Means}
use Rattle.unwinding.specs.Tallies.{Tally}
use Rattle.notices.specs.Bundles.{table_of, duty_of}
use Rattle.notices.specs.BundleFaults.{Faultless, FirstBundleFault}
use Rattle.notices.specs.declared.inspection.Counts.{Counts}
use Rattle.notices.specs.declared.inspection.InspectError.{InspectError}
use Rattle.notices.specs.declared.inspection.InspectError.TheVariants.{Fault, Duty}

-- the states of the machine, and how many of them are reached
pub record CountsOf (m : Machine) (c : Counts) : Type 0 where
  pub states : c.states ≡ m.count
  pub reached : Tally (Reached m) 256 c.reached

-- the counts of the machine that the bundle's table means
pub record Counted (bs : List ℕ) (c : Counts) : Type 0 where
  pub machine : Machine
  pub means : Means (table_of bs) machine
  pub counts : CountsOf machine c

-- What is found: of a bundle without fault which no bytes follow, the counts; else its first fault, or, where it has none, how many bytes
-- follow the table.
abbrev pub Inspected : List ℕ → Result Counts InspectError → Type 0
Inspected bs (Ok c) = Faultless bs × ((length (duty_of bs) ≡ 0) × Counted bs c)
Inspected bs (Err (Fault f)) = FirstBundleFault bs f
Inspected bs (Err (Duty n)) = Faultless bs × ((length (duty_of bs) ≡ n) × (1 ≤ n))
