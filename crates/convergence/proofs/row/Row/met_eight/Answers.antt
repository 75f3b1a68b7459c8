-- `met_eight` meets its contract. Assumes nothing.
use Rattle.std.proofs.Common.{◌+◌, not, refl, ap, ◌∙◌}
use lib.Ieee as Ieee
use Rattle.laws.specs.Range.{folded}
use Rattle.laws.specs.Written.{tabulate}
use Rattle.laws.proofs.Range.{every_ext}
use Rattle.convergence.specs.Decided.{odd_of}
use Rattle.convergence.proofs.Lanewise.{parities_more, none_odd}
use Rattle.convergence.proofs.Rows.{odd_before, odd_more, odd_all}
use Rattle.convergence.proofs.row.Row.met_eight.Goals as goal

pub loop-b-init : goal.loop-b-init
unfolding tabulate odd_before odd_of folded
loop-b-init c = refl

pub loop-b-preserved : goal.loop-b-preserved
unfolding Ieee.of_bits
loop-b-preserved c =
    let r = c.args.self.now in
    let i = c.loop-b.b-index in
    parities_more _ _ _ c.loop-b.invariant c.eight.ensures (λ j. odd_more r (c.args.t + j) i c.loop-b-test.true)

pub returns : goal.returns
returns c =
    none_odd _ c.loop-b.invariant
    ∙ every_ext _ _ 8 (λ j h. ap not (odd_all c.args.self.now (c.args.t + j) c.loop-b.b-index c.loop-b-test.false))
