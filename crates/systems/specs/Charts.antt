-- The machine of a chart.
use Rattle.std.specs.Prelude.{cond, None, nat_lt, slice_index_or}
use Rattle.systems.specs.Machine.{Machine}
use Rattle.systems.specs.Flat.{step_at}
use Rattle.systems.specs.declared.system.Role.TheVariants.{Absent}
use Rattle.systems.specs.declared.chart.Chart.{Chart}

-- each event below 64 as the chart's lists have it, and no other
abbrev pub chart_machine : Chart → Machine
chart_machine c = record {
  count = c.count;
  first = c.first;
  role = λ e. cond (nat_lt e 64) (slice_index_or c.roles e Absent) Absent;
  step = λ s e. cond (nat_lt e 64) (step_at c.steps s e) None;
}
