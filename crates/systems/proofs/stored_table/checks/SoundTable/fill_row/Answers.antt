use Rattle.std.proofs.Common.{ℕ, length-set, sym, subst, arith, rules}
use Rattle.systems.specs.StoredTable.{chain_begin, next_of}
use Rattle.systems.proofs.Chains.{Walked, walk_none, walk_more, begin_most, row_read}
use Rattle.systems.proofs.stored_table.checks.SoundTable.fill_row.Goals as goal

pub chain-init : goal.chain-init
chain-init c =
    let t = c.args.self.now in
    let bs = t.table.bytes.now in
    let b = chain_begin bs c.args.state in
    (omega (arith, c.told-row), (b, c.head-at.ensures, walk_none bs b _ (begin_most bs t.sound c.args.state) c.requires))

pub chain-preserved : goal.chain-preserved
chain-preserved c =
    let t = c.args.self.now in
    let bs = t.table.bytes.now in
    let b = chain_begin bs c.args.state in
    let number = c.in-Some.number in
    let fields = c.record_at-record.ensures in
    let (long, (at, linked, walked)) = c.chain.invariant in
    let (same, low) = rw c.in-Some.is at linked in
    let here : Walked bs b number c.chain.row = subst (λ (n : ℕ). Walked bs b n c.chain.row) (sym same) walked in (
      simp length-set long,
      (next_of bs number, search rules, walk_more bs t.sound b number c.chain.row long here (omega (arith, same, low)) _ _ (omega (arith, fields.event)) (omega (arith, fields.target))),
    )

pub returns : goal.returns
returns c =
    let t = c.args.self.now in
    let (long, (at, linked, walked)) = c.chain.invariant in
    let zero = rw c.in_default.is at linked in
    row_read t.table.bytes.now t.sound c.args.state at c.chain.row walked (λ n. omega (arith, zero, n.0))
