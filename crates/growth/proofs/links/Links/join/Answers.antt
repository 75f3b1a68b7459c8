-- `join` meets its contract. The invariant: r is joined with the rows before q. Assumes nothing.
use Rattle.std.proofs.Common.{refl, ◌∙◌, arith}
use Rattle.growth.proofs.Begun.{column_at}
use Rattle.growth.proofs.Filled.{joining_first, joining_next}
use Rattle.growth.proofs.links.Links.join.Goals as goal

pub loop-q-init : goal.loop-q-init
loop-q-init c = (joining_first, refl, refl)

pub loop-q-preserved : goal.loop-q-preserved
loop-q-preserved c =
    let I = c.loop-q.invariant in
    let n = c.loop-q.q-index in
    let e = column_at c.args.rows.now c.args.p n c.requires.before.0 (omega arith) in
    (joining_next I.0 c.from.result (c.from.ensures ∙ e) c.join.ensures, I.1, I.2)

pub returns-clause-edges : goal.returns-clause-edges
returns-clause-edges c = rw c.loop-q.invariant.2
