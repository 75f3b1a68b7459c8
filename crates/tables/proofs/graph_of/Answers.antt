-- `tables::graph_of` meets its contract: the flat lists hold the graph's entries. Assumes nothing.
use mathlib.Core.Path.{◌≡◌}
use Prim.Native.Nat.{◌*◌, ◌<◌, ◌≤◌}
use native.Mathlib.Omega.{arith}
use lib.ListN.{replicate}
use Rattle.laws.proofs.Written.{upto_none}
use Rattle.tables.specs.Flat.{row_list, shift_list}
use Rattle.tables.specs.Graph.{info_columns, first_column, row_at, shift_at, graph_of}
use Rattle.tables.proofs.graph_of.Goals as goal
use Rattle.tables.proofs.graph_of.Invariants.{turn, whole}

pub loop-i-init : goal.loop-i-init
loop-i-init c = (upto_none, upto_none)

pub loop-i-preserved : goal.loop-i-preserved
unfolding row_list shift_list
loop-i-preserved c =
    let g = c.graph_number-g.result in
    let at = 3 * c.first_column-at.result in
    let first : at ≡ 3 * first_column g = omega (arith, c.first_column-at.ensures.value) in
    let h : c.loop-i.i < 3 * info_columns g = omega (arith, c.shape_at-shape.ensures.columns, c.loop-i-test.true) in
    let k : c.loop-i.i < 153 = omega (arith, c.shape_at-shape.ensures.bounds, c.loop-i-test.true) in (
      turn row_list g at c.loop-i.i (replicate 153 0) c.loop-i.rows first h k c.loop-i.invariant.0,
      turn shift_list g at c.loop-i.i (replicate 153 0) c.loop-i.shifts first h k c.loop-i.invariant.1,
    )

pub returns : goal.returns
unfolding graph_of row_at shift_at
returns c =
    let g = c.graph_number-g.result in
    let h : 3 * info_columns g ≤ c.loop-i.i = omega (arith, c.shape_at-shape.ensures.columns, c.loop-i-test.false) in
    rw (
      c.shape_at-shape.ensures.value,
      whole row_list g c.loop-i.rows c.loop-i.i h c.loop-i.invariant.0,
      whole shift_list g c.loop-i.shifts c.loop-i.i h c.loop-i.invariant.1,
      c.graph_number-g.ensures.value,
    )
