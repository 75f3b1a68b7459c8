-- `with` meets its contract. Assumes nothing.
use mathlib.Core.Path.{subst}
use lib.Ieee as Ieee
use lib.Ieee.{lt, nan}
use Rattle.rule.specs.Rule.{taken}
use Rattle.slots.specs.Row.{past}
use Rattle.checks.specs.Lanes.{Shows}
use Rattle.lanes.proofs.Lanewise.{zip2_tabulated}
use Rattle.checks.proofs.Lanewise.{shows_more}
use Rattle.checks.proofs.vectors.Four.with.Goals as goal

pub returns : goal.returns
unfolding Ieee.of_bits
returns c rs long s =
    subst (Shows _) (zip2_tabulated past nan (λ r m. taken r m c.args.place) 4 rs c.args.m long c.fits-m.0)
    (shows_more c.args.place rs c.args.m long c.fits-m.0 c.args.self s c.magnitude-a.result c.magnitude-a.ensures)
