-- `decode` meets its contract: what Choice gives is a valid code. Assumes nothing.
use mathlib.Core.Path.{sym, ap, ◌∙◌}
use Rattle.refusals.specs.Outcome.{outcome}
use Rattle.ldpc.proofs.Made.{bounds}
use Rattle.ldpc.proofs.Theorems.{given_made}
use Rattle.decoder.proofs.call.decode.Goals as goal

pub invariant_of-decode_by : goal.invariant_of-decode_by
invariant_of-decode_by c =
    let m = given_made c.args.rate c.args.n_tx c.in-Ok.code (sym c.new-choice.ensures ∙ ap outcome c.in-Ok.is) in
    record { made = m; sized = bounds c.in-Ok.code m }
