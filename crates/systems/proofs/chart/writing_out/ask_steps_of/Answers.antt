use Rattle.std.proofs.Common.{◌≡◌, None, rules}
use Rattle.systems.proofs.Filling.{made}
use Rattle.systems.proofs.chart.writing_out.ask_steps_of.Goals as goal

pub returns : goal.returns
returns g c =
    made _ _ (λ e r. r ≡ (g.S.System.machine c.args.system.now).step c.args.state e) (λ i y q h. search rules) _ None 64 c.from_fn.ensures.items
