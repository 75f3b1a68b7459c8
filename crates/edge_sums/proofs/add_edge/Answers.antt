-- `add_edge` meets its contract: the row of sums is lent, and put back. Assumes nothing.
use Rattle.std.proofs.Common.{ap, ◌∙◌, ◌+◌, ◌*◌, ◌-◌, ◌%◌, arith}
use native.Mathlib.Nat.{zero-add}
use Rattle.edge_sums.proofs.Summed.{row_put}
use Rattle.edge_sums.proofs.add_edge.Goals as goal

pub returns : goal.returns
returns c =
    let e = c.args.e in
    let z = c.args.z in
    let at = e.row * z in
    row_put at z c.rotated-turn.result (e.shift % z) (at + z - at) c.args.sums.now c.add_turned.new.sums c.args.part.bytes.now (omega arith)
    c.requires.row.0 c.add_turned.auto.sums (c.rotated-turn.ensures ∙ ap (λ x. x % z) (zero-add e.shift)) c.add_turned.ensures
