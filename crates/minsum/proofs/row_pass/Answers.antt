-- `row_pass` meets its contract. Assumes nothing.
use Rattle.sizes.proofs.Lent.{lift}
use Rattle.minsum.proofs.Rows.{row_told}
use Rattle.minsum.proofs.row_pass.Goals as goal

pub returns : goal.returns
returns c =
    row_told _ _ (lift c.args.l.now).0 _ _ _ _ _ _ _ c.row_slots.ensures.listed c.row_slots.ensures.sized.0 c.check_row.ensures
