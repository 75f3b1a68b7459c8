-- `turn_back` meets its contract. Assumes nothing.
use Rattle.std.proofs.Common.{◌+◌, ◌-◌, ◌%◌, get_or, arith}
use Rattle.bits.proofs.Row.{front_rewritten, turned_back}
use Rattle.bits.proofs.rows.turn_back.Goals as goal

pub returns : goal.returns
returns c =
    let (long, first, copied, kept) = c.loop-t.invariant in
    let total = c.args.total.now in
    let z = c.args.z in
    front_rewritten z (λ t. get_or total ((t + z - 1) % z) 0) c.args.first.now c.loop-t.first long (omega (arith, c.requires))
    (λ k h. turned_back total c.loop-t.first z k h first (λ j a b. copied j a (omega arith))) (λ k h. kept k (omega arith))
