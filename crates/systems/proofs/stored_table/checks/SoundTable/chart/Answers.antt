use Rattle.std.proofs.Common.{ℕ, sym, subst, arith}
use Rattle.systems.specs.Flat.{StepsLawful}
use Rattle.systems.proofs.TakenUps.{read_lawful, read_means}
use Rattle.systems.proofs.stored_table.checks.SoundTable.chart.Goals as goal

pub invariant_of-result : goal.invariant_of-result
invariant_of-result c =
    let t = c.args.self.now in
    let sized = t.table.sized in
    record {
      some = omega (arith, sized.some);
      most = omega (arith, sized.most);
      begins = omega (arith, sized.begins);
      goes =
          subst (λ (n : ℕ). StepsLawful n c.roles.result c.rows.result) (sym c.count.ensures)
          (read_lawful t.table.bytes.now t.sound _ c.roles.ensures _ c.rows.ensures);
    }

pub returns : goal.returns
returns c =
    let t = c.args.self.now in
    read_means t.table.bytes.now t.sound _ c.roles.ensures _ c.rows.ensures _ _ c.count.ensures c.first.ensures
