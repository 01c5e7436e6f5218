use Rattle.std.proofs.Common.{◌≡◌, ℕ, length}
use Rattle.systems.specs.StoredTable.{chain_begin}
use Rattle.systems.specs.TableChecks.{Linked}
use Rattle.systems.proofs.Chains.{Walked, left}
use Rattle.systems.proofs.stored_table.checks.SoundTable.fill_row.Given as goal

abbrev pub invariant-chain : goal.invariant-chain
invariant-chain l =
    (length l.row ≡ 64)
    × ((at : ℕ) × Linked at l.at × Walked l.self.table.bytes.now (chain_begin l.self.table.bytes.now l.state) at l.row)

abbrev pub decreases-chain : goal.decreases-chain
decreases-chain l = left l.self.table.bytes.now l.at
