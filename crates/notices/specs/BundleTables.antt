-- What parsing the table of a bundle gives.
use Rattle.std.specs.Prelude.{◌≡◌, ℕ, List, Result}
use Rattle.systems.specs.Faults.{Read}
use Rattle.systems.specs.declared.stored_table.checks.SoundTable.{SoundTable}
use Rattle.notices.specs.Bundles.{table_of}
use Rattle.notices.specs.BundleFaults.{BundleFaulty, BundleBefore}
use Rattle.notices.specs.declared.fault.BundleFault.{BundleFault}

-- the bundle's table, of a bundle without fault, or the bundle's first fault
abbrev pub BundleTable : List ℕ → Result SoundTable BundleFault → Type 0
BundleTable bs = Read (BundleFaulty bs) BundleBefore (λ t. t.table.bytes.now ≡ table_of bs)
