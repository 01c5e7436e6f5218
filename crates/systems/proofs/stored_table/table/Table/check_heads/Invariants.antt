use Rattle.std.proofs.Common.{ℕ, ◌<◌, ◌≤◌}
use Rattle.systems.specs.StoredTable.{head_of, records_of}
use Rattle.systems.proofs.stored_table.table.Table.check_heads.Given as goal

abbrev pub invariant-states : goal.invariant-states
invariant-states l = (k : ℕ) → k < l.s → head_of l.self.bytes.now k ≤ records_of l.self.bytes.now
