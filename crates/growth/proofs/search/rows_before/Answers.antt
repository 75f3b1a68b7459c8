-- `rows_before` meets its contract. The invariant: the rows before r are in the set. Assumes nothing.
use Rattle.std.proofs.Common.{◌≡◌, ℕ, ◌+◌, ◌*◌, ◌/◌, ◌%◌, eqb, get_or, ap, ◌∙◌, arith}
use native.Mathlib.Numerals.{add-one}
use Rattle.laws.specs.Range.{some}
use Rattle.laws.proofs.Parity.{eqb_comm}
use Rattle.growth.specs.Search.{begun}
use Rattle.growth.proofs.Begun.{column_at}
use Rattle.growth.proofs.search.rows_before.Goals as goal

pub loop-r-init : goal.loop-r-init
unfolding some
loop-r-init c s = c.empty-taken.ensures s

pub loop-r-preserved : goal.loop-r-preserved
unfolding some
loop-r-preserved c s =
    let n = c.loop-r.r-index in
    let row : ℕ = get_or c.args.rows.now (3 * (c.args.p / 3) + n) 0 in
    let e : c.from.result ≡ row = c.from.ensures ∙ column_at c.args.rows.now c.args.p n c.requires.0 (omega arith) in
    c.with-taken.ensures s ∙ rw (c.loop-r.invariant s, e, eqb_comm s row, add-one n)

pub returns : goal.returns
unfolding begun
returns c s =
    let e : c.loop-r.r-index ≡ c.args.p % 3 = omega arith in
    c.loop-r.invariant s ∙ ap (some (λ e. eqb (get_or c.args.rows.now (3 * (c.args.p / 3) + e) 0) s)) e
