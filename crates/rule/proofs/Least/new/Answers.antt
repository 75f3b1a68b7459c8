-- `new` meets its contract. Assumes nothing.
use mathlib.Core.Path.{refl}
use lib.Ieee.{of_bits}
use Rattle.rule.specs.Rule.{started}
use Rattle.rule.proofs.Ordered.{started_ordered}
use Rattle.rule.proofs.Least.new.Goals as goal

pub returns-clause-value : goal.returns-clause-value
unfolding started of_bits
returns-clause-value c = refl

pub returns-clause-ordered : goal.returns-clause-ordered
unfolding started of_bits
returns-clause-ordered c = started_ordered
