-- `new` meets its contract. The invariant: the rows before q are filled in. Assumes nothing.
use Rattle.std.proofs.Common.{length-set, ◌∙◌, arith}
use Rattle.growth.proofs.Filled.{filled_near, filled_degree}
use Rattle.growth.proofs.links.Links.new.Goals as goal

pub loop-q-preserved : goal.loop-q-preserved
loop-q-preserved c =
    let I = c.loop-q.invariant in
    let q = c.loop-q.q in (
      length-set c.loop-q.near q c.beside.result ∙ I.0,
      length-set c.loop-q.degree q c.parity_edges.result ∙ I.1,
      filled_near c.args.base.m_b c.loop-q.near q c.beside.result (omega arith) I.2 c.beside.ensures,
      filled_degree c.args.base.m_b c.loop-q.degree q c.parity_edges.result (omega arith) I.3 c.parity_edges.ensures,
    )
