-- What the acts that duty bytes name mean.
use Rattle.std.proofs.Common.{◌≡◌, ℕ, ◌*◌, ◌^◌, ◌<◌, ◌≤◌, List, ◌∷◌, None, Option, length, slice_index, refl, sym, subst, ◌∙◌, arith}
use Rattle.std.proofs.lemmas.List.{get_or_past, get_or-drop}
use Rattle.std.proofs.lemmas.Bool.Decides.{nat_tests}
use Rattle.systems.specs.Machine.{Machine, Lawful}
use Rattle.systems.specs.declared.system.Role.TheVariants.{Absent}
use Rattle.components.specs.Duties.{entry_of, ActOf, Monitors, RunsSeparated}
use Rattle.components.specs.DutyFaults.{Sound}
use Rattle.components.specs.Acts.{ActNamed, act_at, ActsKnown}
use Rattle.components.specs.Reading.{Parts}
use Rattle.components.specs.Monitors.{marked, duty_machine}
use Rattle.components.specs.DutyMachines.{two, duty_lawful}
use Rattle.components.specs.declared.duty.act.Act.{Act}
use Rattle.components.proofs.Digits.{marked_acted, acted_marked}
use Rattle.components.proofs.SeparatedRuns.{runs_separated}

-- what the bytes and the acts that they name show
pub record Meant (bs : List ℕ) (users : ℕ) (acts : List (Option Act)) : Type 0 where
  pub sound : Sound bs
  pub known : ActsKnown users acts
  pub means : Monitors bs (duty_machine users (act_at acts))
  pub runs : RunsSeparated bs (duty_machine users (act_at acts))

module _ (all : List ℕ) (users : ℕ) (entries : List ℕ) (parts : Parts all users entries)
    (acts : List (Option Act)) (long : length acts ≡ 64) (read : (e : ℕ) → e < 64 → ActNamed (slice_index entries e) (act_at acts e)) where
  abbrev bs : List ℕ
  bs = users ∷ entries

  entry : (e : ℕ) → slice_index entries e ≡ entry_of bs e
  entry e = get_or-drop 1 bs e 0

  low : (e : ℕ) → entry_of bs e ≤ 2 * users
  low e = grind (arith, entry e, parts.known e, get_or_past entries e 0)

  sound : Sound bs
  sound = record { long = omega arith; some = parts.some; most = parts.most; entries = λ e h. low e }

  named : (e : ℕ) → ActNamed (entry_of bs e) (act_at acts e)
  named e = grind (arith, entry e, read e, get_or_past entries e 0, get_or_past acts e None)

  known : ActsKnown users acts
  known e a is = grind (arith, named e, low e)

  abbrev machine : Machine
  machine = duty_machine users (act_at acts)

  law : Lawful machine
  law = duty_lawful users parts.most acts (omega arith) known

  step_is : (s e u x : ℕ) → s < 3 ^ users → ActOf bs e u x → machine.step s e ≡ marked s u x
  step_is s e u x l a = grind (arith, nat_tests, two, named e, low e)

  absent : (e : ℕ) → entry_of bs e ≡ 0 → machine.role e ≡ Absent
  absent e h = grind (arith, named e)

  means : Monitors bs machine
  means =
      record {
        count = refl;
        first = refl;
        input = λ e h. grind (arith, named e, low e);
        absent = absent;
        step = λ s e u x t l a. (
          λ p. marked_acted s u x a.0 t (sym (step_is s e u x l a) ∙ p),
          λ p. step_is s e u x l a ∙ acted_marked s u x a.0 t p,
        );
        no_act = λ s e t h p. law.takes_part s e t p (absent e h);
        no_state = λ s e t h p. omega (arith, law.state_below s e t p);
      }

  pub meant : Meant all users acts
  meant =
      subst (λ (l : List ℕ). Meant l users acts) (sym parts.split.whole)
      (record { sound = sound; known = known; means = means; runs = runs_separated bs machine law means })
