-- Which events a set allows.
use Rattle.std.specs.Prelude.{ℕ, Bool}
use Rattle.unwinding.specs.BitSets.{member}
use Rattle.unwinding.specs.declared.bit_set.BitSet.{BitSet}

-- a set of events, whose numbers are below 64
abbrev pub EventSet : Type 0
EventSet = BitSet 1

-- event e is in the set; none above 63 is
abbrev pub allows : EventSet → ℕ → Bool
allows events e = member events e
