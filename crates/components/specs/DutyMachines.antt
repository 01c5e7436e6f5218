-- The rules of a system, for the machine of a duty monitor.
use Rattle.std.specs.Prelude.{◌≡◌, ℕ, suc, ◌+◌, ◌-◌, ◌*◌, ◌/◌, ◌^◌, ◌<◌, ◌≤◌, ◌≢◌, List, Some, None, Option, length}
use Rattle.std.specs.Option.{ForSome}
use Rattle.std.proofs.Common.{ap, arith}
use Rattle.std.proofs.Math.Nat.{one-le-pow, pow-le-pow_right, add-mul-div_right, div-lt_iff_lt-mul}
use Rattle.std.proofs.lemmas.Nat.{pow-add}
use Rattle.std.proofs.lemmas.List.{get_or_past}
use Rattle.std.proofs.lemmas.Bool.Decides.{nat_tests}
use Rattle.systems.specs.Machine.{Lawful}
use Rattle.systems.specs.declared.system.Role.TheVariants.{Absent}
use Rattle.components.specs.Duties.{digit}
use Rattle.components.specs.Acts.{activity_number, act_at, ActsKnown}
use Rattle.components.specs.Monitors.{marked, act_role, act_step, duty_machine}
use Rattle.components.specs.declared.duty.act.Activity.{Activity}
use Rattle.components.specs.declared.duty.act.Activity.TheVariants.{First, Second}
use Rattle.components.specs.declared.duty.act.Act.{Act}

pub some_states : (n : ℕ) → 1 ≤ 3 ^ n
some_states n = one-le-pow n 3 (omega arith)

-- five users have 243 states, and fewer users no more
pub few_states : (n : ℕ) → n ≤ 5 → 3 ^ n ≤ 243
few_states n h = pow-le-pow_right {n = 3} (omega arith) {i = n} {j = 5} h

-- the weights of a higher place and of a lower one
pub place : (k u : ℕ) → u < k → 3 ^ k ≡ 3 ^ (k - suc u) * 3 * 3 ^ u
place k u h = grind (arith, pow-add 3 (k - suc u + 1) u, pow-add 3 (k - suc u) 1)

-- a number keeps below a power of 3 where its digit of a lower weight is 0 and becomes c
pub added_below : (c k u s : ℕ) → c < 3 → u < k → digit s u ≡ 0 → s < 3 ^ k → s + c * 3 ^ u < 3 ^ k
added_below c k u s small h z l =
    let e = place k u h in
    let q : s / 3 ^ u < 3 ^ (k - suc u) * 3 = (div-lt_iff_lt-mul (some_states u)).1 (omega arith) in
    let d = add-mul-div_right s c (some_states u) in
    let r : s + c * 3 ^ u < 3 ^ (k - suc u) * 3 * 3 ^ u = (div-lt_iff_lt-mul (some_states u)).0 (omega arith) in
    omega arith

-- the same where five users have the states
pub room : (s c u : ℕ) → c < 3 → u < 5 → digit s u ≡ 0 → s < 243 → s + c * 3 ^ u < 243
room s c u small h z l = added_below c 5 u s small h z l

-- there are two activities
pub two : (x : Activity) → activity_number x < 2
two First = omega arith
two Second = omega arith

pub marked_below : (s u x k t : ℕ) → x < 2 → u < k → s < 3 ^ k → marked s u x ≡ Some t → t < 3 ^ k
marked_below s u x k t small h l p =
    let b : digit s u ≡ 0 → s + (1 + x) * 3 ^ u < 3 ^ k = λ z. added_below (1 + x) k u s (omega arith) h z l in
    grind (arith, nat_tests)

-- a step leads from a state to a state, by an event
step_rules : (users s t : ℕ) (o : Option Act) → ForSome o (λ a. a.user < users) → act_step users s o ≡ Some t
    → (s < 3 ^ users) × (t < 3 ^ users) × (act_role o ≢ Absent)
step_rules users s t o known p = grind (arith, nat_tests, two, marked_below)

module _ (users : ℕ) (few : users ≤ 5) (acts : List (Option Act)) (long : length acts ≤ 64) (known : ActsKnown users acts) where
  pub duty_lawful : Lawful (duty_machine users (act_at acts))
  duty_lawful =
      let p = few_states users few in
      let q = some_states users in
      record {
        count_least = q;
        count_most = omega arith;
        first_below = omega arith;
        event_below = λ e h. ap act_role (get_or_past acts e None (omega arith));
        next_below = λ s e t h. (step_rules users s t (act_at acts e) (known e) h).1;
        state_below = λ s e t h. (step_rules users s t (act_at acts e) (known e) h).0;
        takes_part = λ s e t h. (step_rules users s t (act_at acts e) (known e) h).2;
      }
