-- `rule::Least::found` meets its contract. Assumes nothing.
use mathlib.Core.Path.{refl}
use lib.Ieee as Ieee
use Rattle.rule.proofs.Least.found.Goals as goal

pub returns : goal.returns
unfolding Ieee.of_bits
returns c = refl
