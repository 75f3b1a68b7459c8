-- `penalty` meets its contract. Assumes nothing.
use Rattle.std.proofs.Common.{◌≡◌, ◌+◌, ◌<◌, get_or, ◌∙◌, arith}
use lib.Seq.{get_or-take}
use Rattle.std.proofs.lemmas.List.{length-take}
use Rattle.shifts.proofs.Searched.{summing_first, summing_next}
use Rattle.shifts.proofs.biases.BiasList.penalty.Goals as goal

pub loop-bias-init : goal.loop-bias-init
loop-bias-init c = summing_first

pub loop-bias-preserved : goal.loop-bias-preserved
loop-bias-preserved c =
    let list = c.args.self.now in
    let i = c.loop-bias.bias-index in
    let inside : i < list.count = omega (arith, c.loop-bias-test.true, length-take list.count list.biases) in
    let bias : c.from.result ≡ get_or list.biases i 0 = c.from.ensures ∙ get_or-take list.count list.biases i 0 inside in
    let low : c.args.x + c.from.result < 2045 = omega (arith, bias, list.held.low i inside) in
    summing_next c.loop-bias.invariant inside bias (c.from-sum.ensures ∙ c.from-weights.ensures.costs c.from.result low)
