-- `add_biases` meets its contract. The invariant: the biases of the columns before c are added. Assumes nothing.
use Rattle.std.proofs.Common.{◌<◌, ◌∙◌, sym, arith}
use Rattle.shifts.proofs.Biased.{adding_first, adding_skip, adding_more, adding_all}
use Rattle.shifts.proofs.placed.Placed.add_biases.Goals as goal
use Rattle.shifts.proofs.placed.Placed.add_biases.Goals.{then-has_both, else-has_both}

pub loop-c-init : goal.loop-c-init
loop-c-init c = adding_first c.args.biases.now.held

pub bias_of-requires : goal.bias_of-requires
bias_of-requires c = (c.loop-c-test.true, rw c.shift_at-there.ensures.0 (c.args.self.now.partly.low _))

pub push-requires : goal.push-requires
push-requires c =
    let room : c.loop-c.biases.count < 183 = omega (arith, c.loop-c-test.true, c.args.self.now.partly.most, c.requires.1, c.loop-c.invariant.most) in
    (room, c.bias_of.ensures.upper_bound)

pub loop-c-preserved : goal.loop-c-preserved
loop-c-preserved c =
    let room : c.loop-c.biases.count < 183 = omega (arith, c.loop-c-test.true, c.args.self.now.partly.most, c.requires.1, c.loop-c.invariant.most) in
    let I = c.loop-c.invariant in
    let there = c.shift_at-there.ensures.0 in
    elim c.if-has_both.branch [
      | then-has_both w ↦ rw (w.biases-is, w.push.ensures.0, w.push.ensures.1)
          (adding_more w.bias_of.result I c.loop-c-test.true room (sym c.has_both.ensures ∙ w.if-has_both.true)
          (w.bias_of.ensures.upper_bound, rw there at w.bias_of.ensures.there_value))
      | else-has_both w ↦ rw w.biases-is (adding_skip I c.loop-c-test.true (sym c.has_both.ensures ∙ w.if-has_both.false))
    ]

pub returns : goal.returns
returns c =
    let all_of = adding_all c.loop-c.invariant c.loop-c-test.false c.args.self.now.partly.most in record { costs = all_of.0; upper_bound = all_of.1 }
