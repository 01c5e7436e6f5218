-- Which fault of a bundle is the first.
use Rattle.std.proofs.Common.{ℕ, ◌<◌, ◌≤◌, List, length, arith}
use Rattle.std.proofs.lemmas.Bool.Decides.{nat_tests}
use Rattle.systems.specs.Faults.{stage}
use Rattle.systems.specs.TableFaults.{table_number, FirstTableFault}
use Rattle.systems.specs.declared.stored_table.fault.RecordFault.TheVariants.{Event, Target, Next}
use Rattle.systems.specs.declared.stored_table.fault.TableFault.{TableFault}
use Rattle.notices.specs.Bundles.{Classed, LettersKnown, Whole, table_of}
use Rattle.notices.specs.BundleFaults.{BundleFaulty, BundleBefore, FirstBundleFault}
use Rattle.notices.specs.declared.fault.BundleFault.{BundleFault}
use Rattle.notices.specs.declared.fault.BundleFault.TheVariants.{Short, Letter, LineFeed, Cut, Table}

-- a table's checks come after those of the bundle itself
late : (f : TableFault) → 5 ≤ stage (table_number f)
late TableFault.Short = omega arith
late TableFault.Count = omega arith
late TableFault.First = omega arith
late TableFault.Records = omega arith
late TableFault.Length = omega arith
late (TableFault.Role e) = omega arith
late (TableFault.Head s) = omega arith
late (TableFault.Record (Event k)) = omega arith
late (TableFault.Record (Target k)) = omega arith
late (TableFault.Record (Next k)) = omega arith

-- in bytes that are long enough, the first letter of no class is the first fault
pub first_of_letters : (bs : List ℕ) → 67 ≤ length bs → (e : ℕ) → e < 64 → (Classed bs e → ⊥) → LettersKnown bs e → FirstBundleFault bs (Letter e)
first_of_letters bs long e h wrong known = record { there = (h, wrong); none_before = none }
  where
    none : (g : BundleFault) → BundleBefore g (Letter e) → BundleFaulty bs g → ⊥
    none Short b t = omega (arith, long)
    none (Letter d) b (l, t) = t (known d (grind (arith, nat_tests)))
    none LineFeed b t = grind (arith, nat_tests)
    none Cut b t = grind (arith, nat_tests)
    none (Table g) b t = let l = late g in grind (arith, nat_tests)

-- in a bundle that is whole, the first fault of its table is its own
pub first_of_table : (bs : List ℕ) → Whole bs → (f : TableFault) → FirstTableFault (table_of bs) f → FirstBundleFault bs (Table f)
first_of_table bs w f first = record { there = first.there; none_before = none }
  where
    none : (g : BundleFault) → BundleBefore g (Table f) → BundleFaulty bs g → ⊥
    none Short b t = omega (arith, w.long)
    none (Letter e) b (h, t) = t (w.letters e h)
    none LineFeed b t = t w.line_feed
    none Cut b t = omega (arith, w.long)
    none (Table g) b t = first.none_before g b t
