use Rattle.std.proofs.Common.{rules}
use Rattle.systems.specs.StoredTable.{place_of}
use Rattle.systems.proofs.stored_table.table.Table.record_at.Goals as goal

pub returns : goal.returns
unfolding place_of
returns c = search rules
