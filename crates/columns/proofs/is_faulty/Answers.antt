-- `is_faulty` meets its contract. Assumes nothing.
use Rattle.std.proofs.Common.{◌∙◌, ◌*◌, ◌/◌, ◌%◌, ◌<◌, arith, get_or, nat_eq}
use borrow.Author.Tests.{le-leb, lt-leb}
use Rattle.laws.specs.Columns.{faulty}
use Rattle.columns.proofs.Found.{any_part}
use Rattle.columns.proofs.is_faulty.Goals as goal

pub returns-then-m_b-from : goal.returns-then-m_b-from
unfolding faulty
returns-then-m_b-from c =
    let row = get_or c.args.rows.now c.args.p 0 in
    rw (c.from.ensures, le-leb c.args.m_b row (omega (arith, c.from.ensures, c.if-m_b-from.true)))

pub returns-else-m_b-from : goal.returns-else-m_b-from
unfolding faulty
returns-else-m_b-from c =
    let row = get_or c.args.rows.now c.args.p 0 in
    let low : row < c.args.m_b = omega (arith, c.from.ensures, c.if-m_b-from.false) in
    rw (lt-leb _ _ low)
    (c.contains.ensures.value
    ∙ any_part (λ r. nat_eq r row) c.args.rows.now (3 * (c.args.p / 3)) (c.args.p % 3) (omega arith))
