-- `rule::Least::message` meets its contract. Assumes nothing.
use mathlib.Core.Path.{refl}
use Rattle.rule.specs.Rule.{answered}
use Rattle.rule.proofs.Least.message.Goals as goal

pub returns : goal.returns
unfolding answered
returns c = rw (c.weight.ensures, c.negative.ensures, c.select.ensures) refl
