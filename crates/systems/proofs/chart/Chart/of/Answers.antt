use Rattle.std.proofs.Common.{ℕ, get_or, None, sym, subst, arith}
use Rattle.systems.specs.Flat.{step_at, StepsLawful}
use Rattle.systems.specs.declared.system.Role.TheVariants.{Absent}
use Rattle.systems.proofs.Machines.{same_machine, no_event, upto_is, lists_lawful}
use Rattle.systems.proofs.chart.Chart.of.Goals as goal

pub invariant_of-result : goal.invariant_of-result
invariant_of-result g c =
    let m = g.S.System.machine c.args.system.now in
    let w = g.met.S.System.lawful c.args.system.now in
    record {
      some = omega (arith, w.count_least);
      most = omega (arith, w.count_most);
      begins = omega (arith, w.first_below);
      goes =
          subst (λ (n : ℕ). StepsLawful n c.ask_roles.result c.ask_steps.result) (sym c.count.ensures)
          (lists_lawful m w _ _ c.ask_roles.ensures c.ask_steps.ensures);
    }

pub returns : goal.returns
returns g c =
    let m = g.S.System.machine c.args.system.now in
    let w = g.met.S.System.lawful c.args.system.now in
    same_machine _ _ c.count.ensures c.first.ensures
    (upto_is 64 (λ e. get_or c.ask_roles.result e Absent) m.role Absent c.ask_roles.ensures w.event_below)
    (λ s. upto_is 64 (λ e. step_at c.ask_steps.result s e) (m.step s) None (c.ask_steps.ensures s) (no_event m w s))
