-- `staircase` meets its contract: the sums, T, p_0, and row by row the rest. Assumes nothing.
use Rattle.std.proofs.Common.{◌≡◌, ℕ, ◌+◌, ◌*◌, ◌-◌, ◌/◌, ap, sym, subst, ◌∙◌, arith, replicate, eqb}
use Rattle.matrix.specs.Edges.{edges}
use Rattle.bits.specs.Sums.{Bits}
use Rattle.ldpc.specs.Code.{code_graph, checks_of}
use Rattle.edge_sums.specs.Sums.{sums_of}
use Rattle.edge_sums.proofs.Summed.{sums_bits}
use Rattle.stairs.specs.Stairs.{stairs}
use Rattle.stairs.proofs.Staired.{no_stairs, total_is, first_is, row_stepped, rows_more, next_more, zeros, row_lies}
use Rattle.stairs.proofs.staircase.Goals as goal

pub row_sums-requires : goal.row_sums-requires
unfolding edges
row_sums-requires c = (omega arith, omega arith, c.requires)

pub invariant_of-total_of : goal.invariant_of-total_of
invariant_of-total_of c =
    record { each = subst Bits (sym c.row_sums.ensures) (sums_bits c.args.g.now.code.code c.args.info.bytes.now (3 * c.args.g.now.graph.shape.k_b)) }

pub total_of-requires : goal.total_of-requires
unfolding checks_of
total_of-requires c =
    let g = c.args.g.now in
    let z = g.code.code.z in
    let all : g.graph.shape.m_b * z ≡ checks_of g.code.code = ap (λ x. x.shape.m_b * z) g.of_code in
    (omega (arith, all, c.row_sums.auto.sums, c.requires), g.code.sized.1, zeros z g.code.sized.1)

pub slice_bounds-step_row-end : goal.slice_bounds-step_row-end
slice_bounds-step_row-end c =
    let g = c.args.g.now in
    row_lies g.code.code c.args.info.bytes.now c.loop-i.i g.graph.shape.m_b c.loop-i.parity (ap (λ x. x.shape.m_b) g.of_code) c.loop-i-test.true
    c.loop-i.invariant.0

pub loop-i-init : goal.loop-i-init
loop-i-init c =
    let g = c.args.g.now in
    let code = g.code.code in
    let info = c.args.info.bytes.now in
    let lift = g.code.sized.0 in
    let sums : c.row_sums.new.sums ≡ sums_of code info (3 * (code_graph code).shape.k_b) =
    c.row_sums.ensures ∙ ap (λ x. sums_of code info (3 * x.shape.k_b)) g.of_code in
    let T = total_is code info lift c.row_sums.new.sums c.total_of.new.total sums (rw (g.of_code) at c.total_of.ensures) in (
      sums ∙ no_stairs code info,
      c.turn_back.auto.first,
      first_is code info lift c.total_of.new.total (replicate {A = ℕ} 324 0) c.turn_back.new.first g.code.sized.1 T c.turn_back.ensures,
    )

pub loop-i-preserved : goal.loop-i-preserved
loop-i-preserved c =
    let g = c.args.g.now in
    let code = g.code.code in
    let z = code.z in
    let info = c.args.info.bytes.now in
    let lift = g.code.sized.0 in
    let i = c.loop-i.i in
    let rows : g.graph.shape.m_b ≡ (code_graph code).shape.m_b = ap (λ x. x.shape.m_b) g.of_code in
    let (parity, long, next) = c.loop-i.invariant in
    let sums : c.row_sums.new.sums ≡ sums_of code info (3 * (code_graph code).shape.k_b) =
    c.row_sums.ensures ∙ ap (λ x. sums_of code info (3 * x.shape.k_b)) g.of_code in
    let T = total_is code info lift c.row_sums.new.sums c.total_of.new.total sums (rw (g.of_code) at c.total_of.ensures) in
    let S = row_stepped (i * z) z (i * z + z - i * z) (eqb i (g.graph.shape.m_b / 2)) c.loop-i.parity c.loop-i.next c.total_of.new.total
    c.step_row.new.row c.step_row.new.next (omega arith) (row_lies code info i g.graph.shape.m_b c.loop-i.parity rows c.loop-i-test.true parity)
    c.step_row.auto.row c.step_row.ensures in
    let h = rw rows at c.loop-i-test.true in
    let M = rw rows at S.1 in (
      rows_more code info i c.loop-i.parity c.loop-i.next c.total_of.new.total _ c.step_row.new.next lift h parity next T S.0 M,
      c.step_row.auto.next ∙ long,
      next_more code info i c.loop-i.parity c.loop-i.next c.total_of.new.total _ c.step_row.new.next lift h parity next T S.0 M,
    )

pub returns : goal.returns
returns c = c.loop-i.invariant.0 ∙ ap (λ i. stairs c.args.g.now.code.code c.args.info.bytes.now i) (omega arith)
