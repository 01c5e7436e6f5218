use Rattle.std.proofs.Common.{◌-◌}
use Rattle.systems.specs.TableChecks.{RecordsSound}
use Rattle.systems.proofs.stored_table.table.Table.check_records.Given as goal

abbrev pub invariant-records : goal.invariant-records
invariant-records l = RecordsSound l.self.bytes.now (l.number - 1)
