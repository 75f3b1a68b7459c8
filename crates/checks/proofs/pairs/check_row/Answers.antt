-- `check_row` meets its contract. Assumes nothing.
use Prim.Native.Nat.{◌+◌, ◌*◌}
use native.Mathlib.Omega.{arith}
use Rattle.checks.proofs.Sent.{pair_more}
use Rattle.checks.proofs.pairs.check_row.Goals as goal

pub loop-pair-preserved : goal.loop-pair-preserved
loop-pair-preserved c =
    let t = c.min-t.ensures in
    let u = c.min-u.ensures in
    pair_more c.args.row.z c.args.row.list.now (8 * c.loop-pair.pair) c.min-t.result c.min-u.result (8 * (c.loop-pair.pair + 1)) _ _ _
    c.loop-pair.invariant c.check_blocks.ensures c.args.row.lift.0 (omega arith) (omega (arith, t)) (omega (arith, t, u)) (omega (arith, t, u))
    (omega (arith, u)) (λ x l k. omega (arith, u, l, k))
