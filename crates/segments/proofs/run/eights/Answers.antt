-- `eights` meets its contract. Assumes nothing.
use Rattle.std.proofs.Common.{◌*◌, ◌+◌, ◌-◌, refl, length, arith}
use Rattle.segments.proofs.Runs.{upto_block, upto_all}
use Rattle.segments.proofs.run.eights.Goals as goal

pub loop-i-preserved : goal.loop-i-preserved
loop-i-preserved g c =
    let i = c.loop-i.i in
    upto_block _ _ _ _ (8 * i) 8 (8 * i) (8 * (i + 1)) _ _ _ _ c.loop-i.invariant c.block-block.ensures c.store.ensures (λ k l. c.loop-i.invariant.rest k l)
    (omega arith) (omega arith) (omega arith)

pub returns : goal.returns
returns g c =
    let n = length c.args.to.now in
    upto_all _ _ _ _ n _
    (upto_block _ _ _ _ (n - 8) 8 (8 * c.loop-i.i) n _ _ _ _ c.loop-i.invariant c.block-last.ensures c.store-2.ensures (λ k l. refl) (omega arith) (omega arith)
    (omega arith))
    (omega arith)
