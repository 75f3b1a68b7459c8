-- `copy_info` meets its contract. Assumes nothing.
use Rattle.std.proofs.Common.{length, get_or, arith}
use Rattle.bits.proofs.Row.{front_rewritten}
use Rattle.bits.proofs.rows.copy_info.Goals as goal

pub returns : goal.returns
returns c =
    let (long, copied, kept) = c.loop-i.invariant in
    front_rewritten (length c.args.info.now) (λ i. get_or c.args.info.now i 0) c.args.out.now c.loop-i.out long c.requires
    (λ k h. copied k (omega arith)) (λ k h. kept k (omega arith))
