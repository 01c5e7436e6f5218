-- The machine of a duty monitor.
use Rattle.std.specs.Prelude.{ℕ, ◌+◌, ◌*◌, ◌^◌, cond, Some, None, Option, ◌==◌, nat_lt}
use Rattle.systems.specs.Machine.{Machine}
use Rattle.systems.specs.declared.system.Role.{Role}
use Rattle.systems.specs.declared.system.Role.TheVariants.{Absent, Input}
use Rattle.components.specs.Duties.{digit}
use Rattle.components.specs.Acts.{activity_number, act_at}
use Rattle.components.specs.declared.duty.act.Act.{Act}
use Rattle.components.specs.declared.duty.monitor.DutyMonitor.{DutyMonitor}

-- where an act of user u in activity x leads from state s
abbrev pub marked : ℕ → ℕ → ℕ → Option ℕ
marked s u x = cond (digit s u == 0) (Some (s + (1 + x) * 3 ^ u)) (cond (digit s u == 1 + x) (Some s) None)

-- where an event leads from state s, of the states of so many users
abbrev pub act_step : ℕ → ℕ → Option Act → Option ℕ
act_step users s None = None
act_step users s (Some a) = cond (nat_lt s (3 ^ users)) (marked s a.user (activity_number a.activity)) None

abbrev pub act_role : Option Act → Role
act_role None = Absent
act_role (Some a) = Input

-- the machine of so many users in which event e is `act e`
abbrev pub duty_machine : ℕ → (ℕ → Option Act) → Machine
duty_machine users act = record {
  count = 3 ^ users;
  first = 0;
  role = λ e. act_role (act e);
  step = λ s e. act_step users s (act e);
}

abbrev pub monitor_machine : DutyMonitor → Machine
monitor_machine d = duty_machine d.users (act_at d.acts)
