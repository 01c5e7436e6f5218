-- A system with some events shut: what it is, and which runs it has.
use Rattle.std.specs.Prelude.{◌≡◌, ℕ, Bool, false, cond, ◌↔◌, List, None}
use Rattle.std.specs.List.{AllByRecursion}
use Rattle.systems.specs.Machine.{Machine}
use Rattle.systems.specs.Runs.{Run}

-- the machine m in which the shut events are possible in no state; all else is as in m, the roles of shut events too
abbrev pub restricted : (ℕ → Bool) → Machine → Machine
restricted shut m = record {
  count = m.count;
  first = m.first;
  role = m.role;
  step = λ s e. cond (shut e) None (m.step s e);
}

-- the runs of c are exactly the runs of m that hold no shut event
abbrev pub RunsUnshut : (ℕ → Bool) → Machine → Machine → Type 0
RunsUnshut shut m c = (es : List ℕ) → Run c es ↔ (Run m es × AllByRecursion (λ e. shut e ≡ false) es)
