-- `add_next` meets its contract. Assumes nothing.
use Rattle.std.proofs.Common.{sym, subst}
use Rattle.bits.specs.Sums.{Bits}
use Rattle.edge_sums.proofs.Summed.{sums_bits, edge_added, row_fits}
use Rattle.edge_sums.proofs.add_next.Goals as goal

pub add_edge-requires-clause-row : goal.add_edge-requires-clause-row
add_edge-requires-clause-row c =
    let g = c.args.g.now in
    let word = c.args.word.bytes.now in (
      row_fits g.code.code word c.args.b g.graph c.edge-e.result.row c.args.sums.now g.of_code c.edge-e.ensures.row c.requires.1,
      subst Bits (sym c.requires.1) (sums_bits g.code.code word c.args.b),
    )

pub returns : goal.returns
returns c =
    let g = c.args.g.now in
    edge_added g.code.code c.args.word.bytes.now c.args.b g.graph c.edge-e.result c.column_part-part.result.bytes.now c.args.sums.now
    c.add_edge.new.sums g.of_code g.code.sized.0 c.column_part-part.result.each c.edge-e.ensures.value c.column_part-part.ensures c.requires.1
    c.add_edge.ensures
