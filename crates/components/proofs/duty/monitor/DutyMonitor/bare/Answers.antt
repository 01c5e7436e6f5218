use Rattle.std.proofs.Common.{◌≡◌, ℕ, get_or, replicate, Option, None, refl, ap, arith}
use Rattle.std.proofs.lemmas.List.{get_or-replicate}
use Rattle.std.proofs.lemmas.Grind.{common_steps}
use Rattle.systems.proofs.Machines.{same_machine}
use Rattle.components.specs.declared.duty.act.Act.{Act}
use Rattle.components.specs.Monitors.{act_role, act_step}
use Rattle.components.proofs.duty.monitor.DutyMonitor.bare.Goals as goal

-- a list of none has none at any place
none_at : (n e : ℕ) → get_or (replicate {A = Option Act} n None) e None ≡ None
none_at n e = grind (arith, common_steps, get_or-replicate)

pub invariant_of-result-clause-known : goal.invariant_of-result-clause-known
invariant_of-result-clause-known c = λ e a h. grind (arith, none_at 64 e)

pub returns : goal.returns
returns c = same_machine _ _ refl refl (λ e. ap act_role (none_at 64 e)) (λ s e. ap (act_step 0 s) (none_at 64 e))
