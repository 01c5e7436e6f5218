use Rattle.std.proofs.Common.{sym, ◌∙◌, inl, inr, arith}
use Rattle.std.proofs.lemmas.Bool.{cases_lt}
use Rattle.std.proofs.lemmas.Option.{none-some}
use Rattle.systems.proofs.Rows.{rows_none, rows_more}
use Rattle.systems.proofs.stored_table.checks.SoundTable.rows.Goals as goal

pub fill_row-requires : goal.fill_row-requires
fill_row-requires c e = c.states.invariant.rest _ e (omega (arith, c.from.ensures))

pub states-init : goal.states-init
states-init c = rows_none _

pub states-preserved : goal.states-preserved
states-preserved c = rows_more _ _ _ _ _ c.from.ensures (omega (arith, c.args.self.now.table.sized.most)) c.states.invariant c.fill_row.ensures

pub returns : goal.returns
returns c s =
    elim (cases_lt s c.states.state) [
      | inl l ↦ c.states.invariant.done s l
      | inr k ↦ λ e h t. (
        λ p. absurd (none-some t (sym (c.states.invariant.rest s e k) ∙ p)),
        λ p. absurd (omega (arith, p.0)),
      )
    ]
