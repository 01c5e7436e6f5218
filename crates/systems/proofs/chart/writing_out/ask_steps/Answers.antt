use Rattle.std.proofs.Common.{sym, ◌∙◌, inl, inr, arith}
use Rattle.std.proofs.lemmas.Bool.{cases_lt}
use Rattle.systems.proofs.Machines.{no_state}
use Rattle.systems.proofs.Rows.{rows_none, rows_more}
use Rattle.systems.proofs.chart.writing_out.ask_steps.Goals as goal

pub states-init : goal.states-init
states-init g c = rows_none _

pub states-preserved : goal.states-preserved
states-preserved g c = rows_more _ _ _ _ _ c.from.ensures (omega (arith, (g.met.S.System.lawful c.args.system.now).count_most)) c.states.invariant c.ask_steps_of.ensures

pub returns : goal.returns
returns g c s e h =
    elim (cases_lt s c.states.state) [
      | inl l ↦ c.states.invariant.done s l e h
      | inr k ↦
          c.states.invariant.rest s e k
          ∙ sym (no_state (g.S.System.machine c.args.system.now) (g.met.S.System.lawful c.args.system.now) s e (omega arith))
    ]
