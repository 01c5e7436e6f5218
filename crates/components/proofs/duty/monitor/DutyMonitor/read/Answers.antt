use Rattle.std.proofs.Common.{rules, ℕ, ◌<◌, get_or, None}
use Rattle.components.specs.Acts.{ActNamed, act_at}
use Rattle.components.proofs.Meanings.{Meant, meant}
use Rattle.components.proofs.duty.monitor.DutyMonitor.read.Goals as goal
use Rattle.components.proofs.duty.monitor.DutyMonitor.read.Goals.{After-map-acts}

read : (c : After-map-acts) → Meant c.args.bytes.now c.in_ok-users.users c.map-acts.result
read c =
    let entries = c.in_ok-users.entries.now in
    let acts = c.map-acts.result in
    let named : (e : ℕ) → e < 64 → ActNamed (get_or entries e 0) (act_at acts e) =
    λ e h. let w = c.map-acts.ensures.items.at e 0 None h in search rules in
    meant c.args.bytes.now c.in_ok-users.users entries c.in_ok-users.ensures.value acts c.map-acts.ensures.items.long named

pub returns : goal.returns
returns c = let m = read (goal.at.returns c).After-map-acts in record { checked = m.sound; means = m.means; runs = m.runs }

pub invariant_of-result-clause-known : goal.invariant_of-result-clause-known
invariant_of-result-clause-known c = (read (goal.at.invariant_of-result-clause-known c).After-map-acts).known
