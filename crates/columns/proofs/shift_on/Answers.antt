-- `shift_on` meets its contract. Assumes nothing.
use Rattle.std.proofs.Common.{◌∙◌, ◌*◌, ap, unwrap_or, nat_eq}
use Rattle.laws.specs.Columns.{shift_on}
use Rattle.columns.proofs.Found.{place_part}
use Rattle.columns.proofs.shift_on.Goals as goal

pub returns : goal.returns
unfolding shift_on
returns c =
    let place = c.unwrap_or-place.ensures ∙ ap (λ o. unwrap_or o 3) c.place_of.ensures
    ∙ place_part (λ r. nat_eq r c.args.row) c.args.rows.now (3 * c.args.c) 3 c.requires in
    (rw place at c.shift_at.ensures.0, c.shift_at.ensures.1)
