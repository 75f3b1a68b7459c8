-- `search` meets its contract. The invariant: of the draws so far the first of least penalty is kept. It is said of all rows and
-- shifts whose penalties the biases give. Assumes nothing.
use Rattle.std.proofs.Common.{ap, ◌∙◌}
use Rattle.shifts.specs.Shifts.{penalty}
use Rattle.shifts.proofs.Drawn.{draw_lt}
use Rattle.shifts.proofs.Searched.{searching_first, drawn, search_take, search_keep, search_free, search_all}
use Rattle.shifts.proofs.search.search.Goals as goal
use Rattle.shifts.proofs.search.search.Goals.{else-p-best, then-p-best}

pub draws-init : goal.draws-init
draws-init c rows shifts e = searching_first rows shifts _

pub penalty-p-requires : goal.penalty-p-requires
penalty-p-requires c = rw (c.from.ensures, c.draw_of-x.ensures) (draw_lt _)

pub returns-then-p-eq0 : goal.returns-then-p-eq0
returns-then-p-eq0 c rows shifts e =
    let S = c.draws.invariant rows shifts e in
    let D = drawn rows shifts _ S c.draws-test.true c.next_state-state.ensures c.draw_of-x.ensures (c.penalty-p.ensures.0 ∙ e c.from.result ∙ ap (penalty rows shifts) c.from.ensures) c.penalty-p.ensures.1 in
    search_free rows shifts _ S D c.if-p-eq0.true

pub draws-preserved : goal.draws-preserved
draws-preserved c rows shifts e =
    let S = c.draws.invariant rows shifts e in
    let D = drawn rows shifts _ S c.draws-test.true c.next_state-state.ensures c.draw_of-x.ensures (c.penalty-p.ensures.0 ∙ e c.from.result ∙ ap (penalty rows shifts) c.from.ensures) c.penalty-p.ensures.1 in
    elim c.if-p-best.branch [
      | then-p-best w ↦ rw (w.best-is, w.shift-is) (search_take rows shifts _ S D c.if-p-eq0.false w.if-p-best.true)
      | else-p-best w ↦ rw (w.best-is, w.shift-is) (search_keep rows shifts _ S D c.if-p-eq0.false w.if-p-best.false)
    ]

pub returns : goal.returns
returns c rows shifts e = search_all rows shifts _ (c.draws.invariant rows shifts e) c.draws-test.false
