use Rattle.systems.specs.Flat.{ListsStepsOf}
use Rattle.systems.proofs.Rows.{RowsDone}
use Rattle.systems.proofs.chart.writing_out.ask_steps.Given as goal

abbrev pub invariant-states : goal.invariant-states
invariant-states g l = RowsDone (ListsStepsOf (g.S.System.machine l.system)) l.state l.steps
