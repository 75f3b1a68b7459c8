-- `count_ones` meets its contract. Assumes nothing.
use Rattle.std.proofs.Common.{◌≡◌, refl, ap, ◌∙◌, arith, length, get_or}
use borrow.Author.Tests.{eq-eqb, ne_eqb}
use Rattle.laws.specs.Range.{count as counted}
use Rattle.laws.proofs.Collect.{count_more, count_skip}
use Rattle.bits.specs.Words.{ones_in}
use Rattle.bits.proofs.words.count_ones.Goals as goal
use Rattle.bits.proofs.words.count_ones.Goals.{else-bits-i-eq1, then-bits-i-eq1}
use Rattle.bits.proofs.words.count_ones.Invariants.{is_one}

pub loop-i-init : goal.loop-i-init
unfolding counted
loop-i-init c = (omega arith, refl)

pub loop-i-preserved : goal.loop-i-preserved
loop-i-preserved c =
    let i = c.loop-i.i in
    let bits = c.args.bits.now in
    elim c.if-bits-i-eq1.branch [
      | then-bits-i-eq1 w ↦ omega (arith, count_more (is_one bits) i (eq-eqb (get_or bits i 0) 1 w.if-bits-i-eq1.true))
      | else-bits-i-eq1 w ↦ omega (arith, count_skip (is_one bits) i (ne_eqb (get_or bits i 0) 1 w.if-bits-i-eq1.false))
    ]

pub returns : goal.returns
unfolding ones_in
returns c =
    let e : c.loop-i.i ≡ length c.args.bits.now = omega arith in
    c.loop-i.invariant.1 ∙ ap (counted _) e
