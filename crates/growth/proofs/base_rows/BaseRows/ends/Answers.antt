-- `ends` meets its contract. Assumes nothing.
use Rattle.growth.specs.Search.{ends}
use Rattle.growth.proofs.base_rows.BaseRows.ends.Goals as goal

pub returns : goal.returns
unfolding ends
returns c r = rw (c.with-3.ensures r, c.with-2.ensures r, c.with.ensures r, c.empty.ensures r)
