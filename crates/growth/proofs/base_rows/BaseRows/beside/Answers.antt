-- `beside` meets its contract. Assumes nothing.
use Rattle.std.proofs.Common.{sym, ◌∙◌}
use mathlib.Core.Bool.{or-false}
use Rattle.growth.specs.Search.{beside}
use Rattle.growth.proofs.Words.{neighbours}
use Rattle.growth.proofs.base_rows.BaseRows.beside.Goals as goal

pub returns-then-is_end : goal.returns-then-is_end
unfolding beside
returns-then-is_end c r h =
    let m = c.args.self.now.m_b in
    c.or.ensures r
    ∙ rw (c.between-rows.ensures r, neighbours m c.args.q r h c.saturating_sub.ensures c.min.ensures, c.ends.ensures r, sym c.is_end.ensures ∙ c.if-is_end.true)

pub returns-else-is_end : goal.returns-else-is_end
unfolding beside
returns-else-is_end c r h =
    let m = c.args.self.now.m_b in
    c.between-rows.ensures r
    ∙ rw (neighbours m c.args.q r h c.saturating_sub.ensures c.min.ensures, sym c.is_end.ensures ∙ c.if-is_end.false) (sym (or-false _))
