-- `column_part` meets its contract: the column is one of the information, or of the parity. Assumes nothing.
use Rattle.std.proofs.Common.{ap}
use Rattle.edge_sums.proofs.Parts.{info_part, parity_part}
use Rattle.edge_sums.proofs.column_part.Goals as goal

pub returns-then-column-k_b : goal.returns-then-column-k_b
returns-then-column-k_b c =
    let g = c.args.g.now in
    info_part g.code.code c.args.word.bytes.now c.args.column g.graph.shape.k_b (ap (λ x. x.shape.k_b) g.of_code) c.min.result _ c.min.ensures
    c.if-column-k_b.true c.clipped.ensures

pub returns : goal.returns
returns c =
    let g = c.args.g.now in
    parity_part g.code.code c.args.word.bytes.now c.args.column g.graph.shape.k_b (ap (λ x. x.shape.k_b) g.of_code) _ g.info
    c.if-column-k_b.false c.clipped-2.ensures
