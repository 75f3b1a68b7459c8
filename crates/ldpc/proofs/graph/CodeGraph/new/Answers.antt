-- `new` meets its contract: the four facts of the graph. Assumes nothing.
use Rattle.ldpc.proofs.Made.{parity_fills, info_fits}
use Rattle.ldpc.proofs.graph.CodeGraph.new.Goals as goal

pub invariant_of-result : goal.invariant_of-result
invariant_of-result c =
    let v = c.args.code in
    let is = c.graph.ensures.value in record {
      of_code = is;
      bounds = c.graph.ensures.bounds;
      parity = parity_fills v.code v.made c.graph.result is;
      info = info_fits v.code v.made c.graph.result is;
    }
