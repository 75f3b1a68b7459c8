-- `four_cycles` meets its contract: past its tests the count by places is the count by rows. Assumes nothing.
use Rattle.std.proofs.Common.{sym, ap, ◌∙◌}
use Rattle.std.specs.Prelude.{Ok}
use Rattle.graph.proofs.Tested.{counted}
use Rattle.graph.proofs.count.four_cycles.Goals as goal

pub returns : goal.returns
returns c =
    ap Ok c.count_cycles.ensures
    ∙ counted c.args.n_b c.args.k_b c.args.z c.args.rows.now c.args.shifts.now (sym c.in_ok-lifted.ensures) (sym c.in_ok-input.ensures)
    (sym c.in_ok-input-2.ensures) (sym c.in_ok-sound.ensures)
