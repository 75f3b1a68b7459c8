-- `member_at` meets its contract: the edge's row, and where its bit stands, say which case holds. Assumes nothing.
use Rattle.std.specs.Prelude.{Some, None}
use mathlib.Core.Path.{◌≡◌, ap, subst, ◌∙◌}
use Prim.Native.Nat.{ℕ, ◌+◌, ◌*◌, ◌/◌, ◌%◌, ◌-◌, ◌<◌, ◌≤◌}
use native.Mathlib.Omega.{arith}
use native.Mathlib.Nat.{mod-lt, mul-le-mul}
use borrow.Author.Tests.{lt-ltb, le-ltb, le-leb, lt-leb, eq-eqb, ne_eqb}
use Rattle.tables.specs.declared.BaseGraph.{BaseGraph}
use Rattle.matrix.specs.Edges.{edges, bit_at}
use Rattle.matrix.specs.Checks.{is_sent, place_of}
use Rattle.base_edges.specs.declared.Edge.{Edge}
use Rattle.base_edges.specs.Edge.{edge_of}
use Rattle.ldpc.specs.declared.choice.Code.{Code}
use Rattle.ldpc.specs.Code.{code_graph, info_end}
use Rattle.ldpc.proofs.CodeEdges.{Edged, edged}
use Rattle.check_lists.specs.Members.{is_member, member_place, member_at}
use Rattle.check_lists.proofs.member_at.Goals as goal

-- the cases of the answer, e being the edge
module _ (c : Code) (check b : ℕ) {e : Edge} (E : Edged c b e) where
  other_row : (e.row ≡ check / c.z → ⊥) → None ≡ member_at c check b
  unfolding member_at is_member
  other_row h = rw (← E.row_is, ne_eqb e.row (check / c.z) h)

  module _ {turn : ℕ} (row : e.row ≡ check / c.z) (turned : turn ≡ (check % c.z + e.shift) % c.z) where
    abbrev v : ℕ
    v = e.column * c.z + turn

    is : bit_at (code_graph c) c.z b (check % c.z) ≡ v
    unfolding bit_at
    is = rw (turned, E.column_is, E.shift_is)

    info-bit : v < c.k → Some v ≡ member_at c check b
    unfolding member_at is_member member_place is_sent place_of
    info-bit h = rw (← E.row_is, eq-eqb e.row (check / c.z) row, is, lt-ltb v c.k h)

    module _ {info : ℕ} (end : info ≡ info_end c) (h : c.k ≤ v) where
      shortened-bit : v < info → None ≡ member_at c check b
      unfolding member_at is_member is_sent
      shortened-bit l = rw (← E.row_is, eq-eqb e.row (check / c.z) row, is, ← end, le-ltb v c.k h, lt-leb info v l)

      parity-bit : info ≤ v → Some (c.k + (v - info)) ≡ member_at c check b
      unfolding member_at is_member member_place is_sent place_of
      parity-bit l = rw (← E.row_is, eq-eqb e.row (check / c.z) row, is, ← end, le-ltb v c.k h, le-leb info v l)

is_edged : (c : Code) (g : BaseGraph) (b : ℕ) (e : Edge) → g ≡ code_graph c → b < edges g → e ≡ edge_of g b → Edged c b e
is_edged c g b e is h q = edged c b (subst (λ x. b < edges x) is h) (q ∙ ap (λ x. edge_of x b) is)

pub returns-then-e-check : goal.returns-then-e-check
returns-then-e-check c =
    let g = c.args.g.now in
    let edge = is_edged g.code.code g.graph c.args.b c.edge-e.result g.of_code c.requires c.edge-e.ensures.value in
    other_row _ _ _ edge c.if-e-check.true

pub overflow_mul-v : goal.overflow_mul-v
overflow_mul-v c =
    let g = c.args.g.now in
    let h : c.edge-e.result.column ≤ 60 = omega (arith, c.edge-e.ensures.column, g.bounds) in
    let column-low : c.edge-e.result.column * g.code.code.z ≤ 19440 = omega (arith, mul-le-mul h g.code.sized.1) in
    omega (arith, column-low)

pub overflow_add-v : goal.overflow_add-v
overflow_add-v c =
    let g = c.args.g.now in
    let h : c.edge-e.result.column ≤ 60 = omega (arith, c.edge-e.ensures.column, g.bounds) in
    let column-low : c.edge-e.result.column * g.code.code.z ≤ 19440 = omega (arith, mul-le-mul h g.code.sized.1) in
    let bit-low : c.rotated.result < g.code.code.z = rw c.rotated.ensures (mod-lt _ g.code.sized.0) in
    omega (arith, column-low, bit-low, g.code.sized.1)

pub returns-then-v-c : goal.returns-then-v-c
returns-then-v-c c =
    let g = c.args.g.now in
    let edge = is_edged g.code.code g.graph c.args.b c.edge-e.result g.of_code c.requires c.edge-e.ensures.value in
    info-bit _ _ _ edge c.if-e-check.false c.rotated.ensures c.if-v-c.true

pub overflow_mul-info : goal.overflow_mul-info
overflow_mul-info c =
    let g = c.args.g.now in
    let h : g.graph.shape.k_b ≤ 51 = g.bounds.1 in
    omega (arith, mul-le-mul h g.code.sized.1)

pub returns-then-v-info : goal.returns-then-v-info
unfolding info_end
returns-then-v-info c =
    let g = c.args.g.now in
    let edge = is_edged g.code.code g.graph c.args.b c.edge-e.result g.of_code c.requires c.edge-e.ensures.value in
    let info-is : g.graph.shape.k_b * g.code.code.z ≡ info_end g.code.code = ap (λ x. x.shape.k_b * g.code.code.z) g.of_code in
    shortened-bit _ _ _ edge c.if-e-check.false c.rotated.ensures info-is c.if-v-c.false c.if-v-info.true

pub overflow_add-result : goal.overflow_add-result
overflow_add-result c =
    let g = c.args.g.now in
    let h : c.edge-e.result.column ≤ 60 = omega (arith, c.edge-e.ensures.column, g.bounds) in
    let column-low : c.edge-e.result.column * g.code.code.z ≤ 19440 = omega (arith, mul-le-mul h g.code.sized.1) in
    let bit-low : c.rotated.result < g.code.code.z = rw c.rotated.ensures (mod-lt _ g.code.sized.0) in
    omega (arith, column-low, bit-low, g.code.sized)

pub returns : goal.returns
unfolding info_end
returns c =
    let g = c.args.g.now in
    let edge = is_edged g.code.code g.graph c.args.b c.edge-e.result g.of_code c.requires c.edge-e.ensures.value in
    let info-is : g.graph.shape.k_b * g.code.code.z ≡ info_end g.code.code = ap (λ x. x.shape.k_b * g.code.code.z) g.of_code in
    parity-bit _ _ _ edge c.if-e-check.false c.rotated.ensures info-is c.if-v-c.false c.if-v-info.false
