-- `farthest` meets its contract. The invariant: the steps so far lead to no unreached row, and one more to the next. Assumes nothing.
use Rattle.std.proofs.Common.{sym, ◌∙◌, arith}
use Rattle.std.proofs.lemmas.Bool.{eqb-true, eqb-false, le-leb}
use mathlib.Core.Logic.{inl, inr}
use Rattle.growth.proofs.Words.{no_row, row_as}
use Rattle.growth.proofs.Reached.{next_some, left_some, searching_first, searching_less, searching_next, searching_end}
use Rattle.growth.proofs.search.farthest.Goals as goal

pub steps-init : goal.steps-init
steps-init c =
    searching_first c.args.base.sizes.1 (omega (arith, c.args.base.sizes)) c.requires
    (λ r. c.without-unreached.ensures r ∙ rw (c.between.ensures r, le-leb 0 r (omega arith)))
    c.reached_from-next.ensures

pub steps-smaller : goal.steps-smaller
steps-smaller c =
    let S = c.steps.invariant in
    let empty = eqb-false c.steps.next.bits 0 (sym c.is_empty.ensures ∙ c.steps-test.true) in
    let some = next_some c.steps.unreached c.steps.next S (omega arith) empty in
    omega (arith, searching_less c.args.base.sizes.1 S c.without-unreached-in-steps.ensures c.reached_from-next-in-steps.ensures some)

pub steps-preserved : goal.steps-preserved
steps-preserved c =
    let S = c.steps.invariant in
    let empty = eqb-false c.steps.next.bits 0 (sym c.is_empty.ensures ∙ c.steps-test.true) in
    let some = next_some c.steps.unreached c.steps.next S (omega arith) empty in
    let left = left_some c.steps.unreached c.steps.next S (omega arith) c.without-unreached-in-steps.ensures c.if-next-unreached.true in
    searching_next c.args.base.sizes.1 S c.without-unreached-in-steps.ensures c.reached_from-next-in-steps.ensures some left

pub returns-else-next-unreached : goal.returns-else-next-unreached
returns-else-next-unreached c = searching_end c.args.base.sizes.1 c.steps.invariant (inr (λ r t. row_as c.steps.next c.steps.unreached c.if-next-unreached.false r ∙ t))

pub returns-after-steps : goal.returns-after-steps
returns-after-steps c = searching_end c.args.base.sizes.1 c.steps.invariant (inl (no_row c.steps.next (eqb-true c.steps.next.bits 0 (sym c.is_empty.ensures ∙ c.steps-test.false))))
