-- `add_column` meets its contract. Assumes nothing.
use Rattle.std.proofs.Common.{◌≡◌, ℕ, ◌/◌, sym, subst, ◌∙◌, arith}
use Rattle.bits.specs.Sums.{Bits}
use Rattle.edge_sums.specs.Sums.{PartOf}
use Rattle.edge_sums.proofs.Summed.{sums_bits, edge_added, row_fits}
use Rattle.edge_sums.proofs.add_column.Goals as goal

pub add_edge-requires-clause-row : goal.add_edge-requires-clause-row
add_edge-requires-clause-row c =
    let g = c.args.g.now in
    let word = c.args.word.bytes.now in
    let before = c.loop-b.invariant.1 in (
      row_fits g.code.code word c.loop-b.b g.graph c.info_edge-e.result.row c.loop-b.sums g.of_code c.info_edge-e.ensures.row before,
      subst Bits (sym before) (sums_bits g.code.code word c.loop-b.b),
    )

pub loop-b-preserved : goal.loop-b-preserved
loop-b-preserved c =
    let g = c.args.g.now in
    let word = c.args.word.bytes.now in
    let column : c.args.column ≡ c.loop-b.b / 3 = omega (arith, c.loop-b.invariant.0, c.loop-b-test.true) in (
      omega (arith, c.loop-b.invariant.0),
      edge_added g.code.code word c.loop-b.b g.graph c.info_edge-e.result c.column_part-part.result.bytes.now c.loop-b.sums c.add_edge.new.sums
          g.of_code g.code.sized.0 c.column_part-part.result.each c.info_edge-e.ensures.value
          (subst (λ (x : ℕ). PartOf g.code.code word x c.column_part-part.result.bytes.now) (column ∙ sym c.info_edge-e.ensures.column)
          c.column_part-part.ensures) c.loop-b.invariant.1 c.add_edge.ensures,
    )
