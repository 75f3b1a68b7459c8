-- `has_row` meets its contract. Assumes nothing.
use Rattle.std.proofs.Common.{◌∙◌, ◌*◌, sym, nat_eq}
use Rattle.columns.proofs.Found.{any_part}
use Rattle.columns.proofs.Places.{has_some}
use Rattle.columns.proofs.has_row.Goals as goal

pub returns : goal.returns
returns c =
    c.contains.ensures.value ∙ any_part (λ r. nat_eq r c.args.row) c.args.rows.now (3 * c.args.c) 3 c.requires
    ∙ sym (has_some c.args.rows.now c.args.c c.requires c.args.row)
