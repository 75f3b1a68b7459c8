-- `rule::Least::with` meets its contract. Assumes nothing.
use mathlib.Core.Path.{refl, sym, subst}
use Rattle.laws.proofs.Parity.{unlike_xor}
use Rattle.rule.specs.Rule.{Ordered, taken}
use Rattle.rule.proofs.Ordered.{taken_ordered}
use Rattle.rule.proofs.Least.with.Goals as goal

pub returns-clause-value : goal.returns-clause-value
unfolding taken
returns-clause-value c =
    rw (
      c.select.ensures,
      c.select-2.ensures,
      c.select-3.ensures,
      c.select-second.ensures,
      unlike_xor c.args.self.sign c.negative.result,
      c.negative.ensures,
      c.magnitude-a.ensures,
    ) refl

pub returns-clause-ordered : goal.returns-clause-ordered
returns-clause-ordered c O =
    subst Ordered (sym (returns-clause-value c))
    (taken_ordered c.args.self c.args.m c.args.place c.well_formed.0.1.1.0.1 c.well_formed.1.0.1 O)
