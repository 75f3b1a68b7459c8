-- `fours` meets its contract. Assumes nothing.
use Rattle.std.proofs.Common.{◌-◌, refl, length, arith}
use Rattle.segments.proofs.Runs.{upto_none, upto_block, upto_all}
use Rattle.segments.proofs.run.fours.Goals as goal

pub returns : goal.returns
returns g c =
    let n = length c.args.to.now in
    upto_all _ _ _ _ n _
    (upto_block _ _ _ _ (n - 4) 4 4 n _ _ _ _
    (upto_block _ _ _ _ 0 4 0 4 _ _ _ _ (upto_none _ _ _ _) c.block-first.ensures c.store.ensures (λ k l. refl) (omega arith) (omega arith) (omega arith))
    c.block-last.ensures c.store-2.ensures (λ k l. refl) (omega arith) (omega arith) (omega arith))
    (omega arith)
