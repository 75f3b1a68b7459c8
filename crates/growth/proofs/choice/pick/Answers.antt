-- `pick` meets its contract. The invariant: of the rows that were taken out the best is kept. Assumes nothing.
use Rattle.std.proofs.Common.{ℕ, sym, ◌∙◌, get_or}
use Rattle.laws.proofs.Foremost.{by_key}
use Rattle.growth.specs.Rows.{has}
use Rattle.growth.specs.Search.{fewer}
use Rattle.growth.proofs.Kept.{picking_first, picking_low, picking_take, picking_keep, picking_end}
use Rattle.growth.proofs.choice.pick.Goals as goal

pub loop-r-init : goal.loop-r-init
loop-r-init c = picking_first (has c.args.rows) (fewer (λ q. get_or c.args.degree.now q 0))

pub takes_over-requires-clause-best : goal.takes_over-requires-clause-best
takes_over-requires-clause-best c =
    rw c.requires (picking_low (has c.args.rows) (fewer (λ q. get_or c.args.degree.now q 0)) c.loop-r.best c.loop-r.invariant)

pub loop-r-preserved-then-takes_over : goal.loop-r-preserved-then-takes_over
loop-r-preserved-then-takes_over c =
    let edges : ℕ → ℕ = λ q. get_or c.args.degree.now q 0 in
    let L = c.in-Some.ensures in
    picking_take (has c.args.rows) (fewer edges) c.loop-r.invariant c.in-Some.r L.low L.had L.first L.others (by_key edges)
    (sym c.takes_over.ensures ∙ c.if-takes_over.true)

pub loop-r-preserved : goal.loop-r-preserved
loop-r-preserved c =
    let L = c.in-Some.ensures in
    picking_keep (has c.args.rows) (fewer (λ q. get_or c.args.degree.now q 0)) c.loop-r.invariant c.in-Some.r L.low L.had L.first L.others
    (sym c.takes_over.ensures ∙ c.if-takes_over.false)

pub returns : goal.returns
returns c = picking_end (has c.args.rows) (fewer (λ q. get_or c.args.degree.now q 0)) c.loop-r.invariant c.in_default.ensures
