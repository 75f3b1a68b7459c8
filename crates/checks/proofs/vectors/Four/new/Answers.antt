-- `new` meets its contract: the literal is an infinity, by computation. Assumes nothing.
use mathlib.Core.Path.{refl}
use lib.Ieee as Ieee
use Rattle.laws.specs.Written.{tabulate}
use Rattle.rule.specs.Rule.{started}
use Rattle.checks.proofs.vectors.Four.new.Goals as goal

pub returns : goal.returns
unfolding Ieee.of_bits tabulate started
returns c = record { least = refl; second = refl; place = refl; sign = refl }
