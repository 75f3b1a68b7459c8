-- `message` meets its contract. Assumes nothing.
use mathlib.Core.Path.{◌∙◌}
use lib.Ieee as Ieee
use lib.Ieee.{nan}
use Rattle.rule.specs.Rule.{answered}
use Rattle.slots.specs.Row.{past}
use Rattle.lanes.proofs.Lanewise.{zip2_tabulated}
use Rattle.checks.proofs.Lanewise.{sent}
use Rattle.checks.proofs.vectors.Four.message.Goals as goal

pub returns : goal.returns
unfolding Ieee.of_bits Ieee.neg
returns c rs long s =
    sent c.args.factor c.args.place rs c.args.m long c.fits-m.0 c.args.self s
    ∙ zip2_tabulated past nan (λ r m. answered c.args.factor r m c.args.place) 4 rs c.args.m long c.fits-m.0
