-- The first fault in the order of checks: what every check answers.
use Rattle.std.specs.Prelude.{◌≡◌, ℕ, ◌<◌, min, cond, ◌⊎◌, Ok, Err, Result, nat_lt}
use Rattle.systems.specs.Machine.{Machine, bare}

-- Checks run in the order of the refusals' numbers. But 12, 13 and 14 are one stage: they are the faults of a table's records, and the
-- records are checked one by one, each for all three.
abbrev pub stage : ℕ → ℕ
stage number = cond (nat_lt number 15) (min number 12) number

-- fault f is looked for before fault g: at an earlier stage, or at a lower place of the same stage, or there under a lower number
abbrev pub Before : {F : Type 0} → (F → ℕ) → (F → ℕ) → F → F → Type 0
Before number place f g =
    (stage (number f) < stage (number g))
    ⊎ ((stage (number f) ≡ stage (number g)) × ((place f < place g) ⊎ ((place f ≡ place g) × (number f < number g))))

-- f is there, and no fault that is looked for before it
pub record First {F : Type 0} (There : F → Type 0) (Earlier : F → F → Type 0) (f : F) : Type 0 where
  pub there : There f
  pub none_before : (g : F) → Earlier g f → There g → ⊥

-- no fault is there
abbrev pub NoFault : {F : Type 0} → (F → Type 0) → Type 0
NoFault There = (f : _) → There f → ⊥

-- what a check answers: that no fault is there, or the first one
abbrev pub Checked : {F : Type 0} → (F → Type 0) → (F → F → Type 0) → Result (Unit {0}) F → Type 0
Checked There Earlier (Ok _) = NoFault There
Checked There Earlier (Err f) = First There Earlier f

-- what reading gives: something of the meaning where no fault is there, and else the first fault
abbrev pub Read : {F T : Type 0} → (F → Type 0) → (F → F → Type 0) → (T → Type 0) → Result T F → Type 0
Read There Earlier Meaning (Ok x) = NoFault There × Meaning x
Read There Earlier Meaning (Err f) = First There Earlier f

-- what taking up gives: a machine of the meaning where no fault is there, and the bare machine where one is
pub record TakenUp {F : Type 0} (There : F → Type 0) (Meaning : Machine → Type 0) (m : Machine) : Type 0 where
  pub sound : NoFault There → Meaning m
  pub faulty : (f : F) → There f → m ≡ bare
