-- `rule::signed` meets its contract. Assumes nothing.
use lib.Ieee as Ieee
use Rattle.rule.proofs.signed.Goals as goal

pub returns-then-negative : goal.returns-then-negative
unfolding Ieee.of_bits Ieee.neg
returns-then-negative c = rw c.if-negative.true
