use Rattle.systems.specs.TableChecks.{RowRead}
use Rattle.systems.proofs.Rows.{RowsDone}
use Rattle.systems.proofs.stored_table.checks.SoundTable.rows.Given as goal

abbrev pub invariant-states : goal.invariant-states
invariant-states l = RowsDone (RowRead l.self.table.bytes.now) l.state l.rows
