-- What reading a table gives.
use Rattle.std.specs.Prelude.{ℕ, List, Result}
use Rattle.systems.specs.Faults.{Read}
use Rattle.systems.specs.StoredTable.{Means}
use Rattle.systems.specs.TableFaults.{TableFaulty, TableBefore}
use Rattle.systems.specs.Charts.{chart_machine}
use Rattle.systems.specs.declared.chart.Chart.{Chart}
use Rattle.systems.specs.declared.stored_table.fault.TableFault.{TableFault}

-- a chart of the machine that the bytes mean, or their first fault
abbrev pub TableRead : List ℕ → Result Chart TableFault → Type 0
TableRead bs = Read (TableFaulty bs) TableBefore (λ chart. Means bs (chart_machine chart))
