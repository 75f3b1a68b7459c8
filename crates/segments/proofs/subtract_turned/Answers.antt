-- `subtract_turned` meets its contract. Assumes nothing.
use Rattle.std.proofs.Common.{ap, ap₂, ◌∙◌, ℕ, ◌+◌, ◌++◌, length, arith}
use lib.Ieee.{nan, sub, binary32}
use Rattle.laws.proofs.Slots.{turned_low, turned_high}
use Rattle.messages.specs.Memory.{number}
use Rattle.segments.specs.Combined.{combined}
use Rattle.segments.proofs.Runs.{joined}
use Rattle.segments.proofs.subtract_turned.Goals as goal

pub returns : goal.returns
unfolding combined
returns c =
    let s = c.args.s in
    let z = length c.args.to.now in
    let total = λ (k : ℕ). number c.args.totals.now k in
    let totals = c.split_at.ensures.by_index in
    let messages = c.split_at-2.ensures.by_index in
    ap₂ ◌++◌ c.run.ensures c.run-2.ensures
    ∙ joined _ _ _ _ _ z
    (λ i l.
    ap₂ (sub binary32) (totals.2 i nan ∙ ap total (omega (arith, turned_low i s z (omega arith)))) (messages.1 i nan (omega arith)))
    (λ i l.
    let k = length c.split_at_mut-low.result.0.now + i in
    ap₂ (sub binary32) (totals.1 i nan (omega arith) ∙ ap total (omega (arith, turned_high k s z (omega arith) c.requires.0 (omega arith))))
    (messages.2 i nan ∙ ap (λ (x : ℕ). number c.args.messages.now x) (omega arith)))
    (omega arith)
