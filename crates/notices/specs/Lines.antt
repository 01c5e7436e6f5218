-- The lines that tell what was found, without their line feed.
use Rattle.std.specs.Prelude.{ℕ, List, ◌++◌, codes, decimal}
use Rattle.notices.specs.BundleFaults.{fault_number, fault_part, fault_place}
use Rattle.notices.specs.declared.fault.BundleFault.{BundleFault}
use Rattle.notices.specs.declared.inspection.Counts.{Counts}
use Rattle.notices.specs.declared.inspection.InspectError.{InspectError}
use Rattle.notices.specs.declared.inspection.InspectError.TheVariants.{Fault, Duty}

-- the line of a bundle that is counted
abbrev pub counts_line : Counts → List ℕ
counts_line c = codes "states " ++ (decimal c.states ++ (codes " reached " ++ decimal c.reached))

-- the line of a bundle that is refused
abbrev pub fault_line : BundleFault → List ℕ
fault_line f =
    codes "refused " ++ (decimal (fault_number f) ++ (codes " part " ++ (decimal (fault_part f) ++ (codes " place " ++ decimal (fault_place f)))))

-- the line of a bundle that is not counted
abbrev pub error_line : InspectError → List ℕ
error_line (Fault f) = fault_line f
error_line (Duty n) = codes "duty bytes are not read yet: " ++ (decimal n ++ codes " after the table")
