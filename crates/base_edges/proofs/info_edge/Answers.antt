-- `info_edge` meets its contract. Assumes nothing.
use Rattle.base_edges.proofs.Edges.{info_is}
use Rattle.base_edges.proofs.info_edge.Goals as goal

pub returns : goal.returns
returns c = rw (c.from.ensures, c.from-2.ensures) (info_is c.args.g.now c.args.b c.requires.1)
