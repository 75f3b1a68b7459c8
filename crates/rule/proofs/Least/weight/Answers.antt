-- `rule::Least::weight` meets its contract. Assumes nothing.
use mathlib.Core.Path.{ap, ◌∙◌}
use lib.Ieee.{binary32, mul}
use Rattle.laws.specs.Floats.{signed}
use Rattle.laws.proofs.Parity.{unlike_xor}
use Rattle.rule.proofs.Least.weight.Goals as goal

pub returns : goal.returns
returns c = ap (mul binary32 c.args.factor) (c.signed.ensures ∙ ap signed (unlike_xor c.args.self.sign c.args.negative))
