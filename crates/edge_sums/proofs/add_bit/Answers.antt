-- `add_bit` meets its contract. Assumes nothing.
use Rattle.std.proofs.Common.{◌≡◌, ap, ◌∙◌, set, arith}
use Rattle.edge_sums.proofs.Single.{bit_added, bit_fits}
use Rattle.edge_sums.proofs.add_bit.Goals as goal

pub bounds-sums-e : goal.bounds-sums-e
bounds-sums-e c =
    let g = c.args.g.now in
    bit_fits g.code.code c.args.word.bytes.now c.loop-b.b g.graph c.info_edge-e.result.row c.loop-b.sums g.of_code c.requires.lift
    c.info_edge-e.ensures.row c.loop-b.invariant.1

pub loop-b-preserved : goal.loop-b-preserved
loop-b-preserved c =
    let g = c.args.g.now in
    let word = c.args.word.bytes.now in
    let e = c.info_edge-e.result in
    let sums = c.loop-b.sums in
    let column : e.column ≡ c.args.column = omega (arith, c.info_edge-e.ensures.column, c.loop-b.invariant.0, c.loop-b-test.true) in (
      omega (arith, c.loop-b.invariant.0),
      ap (set sums e.row) c.differ.ensures
          ∙ bit_added g.code.code word c.loop-b.b c.args.column g.graph e sums g.of_code c.requires.lift c.args.word.each c.info_edge-e.ensures.value
          column c.requires.column.1 c.info_edge-e.ensures.row c.loop-b.invariant.1,
    )
