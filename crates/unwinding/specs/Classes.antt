-- The letters of the classes.
use Rattle.std.specs.Prelude.{◌≡◌, ℕ, Result, MatchResult, ◌≢◌}
use Rattle.unwinding.specs.declared.class.Class.{Class}
use Rattle.unwinding.specs.declared.class.Class.TheVariants.{Visible, Neutral, Confidential}
use Rattle.unwinding.specs.declared.class.UnknownLetter.{UnknownLetter}

-- the letters V, N and C
abbrev pub letter_of : Class → ℕ
letter_of Visible = 86
letter_of Neutral = 78
letter_of Confidential = 67

-- the class that a letter stands for, or that there is none
abbrev pub Lettered : ℕ → Result Class UnknownLetter → Type 0
Lettered letter r = MatchResult r (λ class. letter_of class ≡ letter) (λ e. (e.0 ≡ letter) × ((c : Class) → letter_of c ≢ letter))
