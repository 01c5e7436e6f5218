use Rattle.std.proofs.Common.{arith, ◌%◌}
use Rattle.std.proofs.lemmas.Grind.{common_steps}
use Rattle.std.proofs.lemmas.Nat.Bits.{bit_at_ones}
use Rattle.unwinding.proofs.event_set.EventSet.all.Goals as goal

pub returns : goal.returns
returns c k = grind (arith, common_steps, bit_at_ones 64 (k % 64) (omega arith), c.filled.ensures k)
