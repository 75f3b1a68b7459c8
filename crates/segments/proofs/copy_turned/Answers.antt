-- `copy_turned` meets its contract. Assumes nothing.
use Rattle.std.proofs.Common.{◌≡◌, ap, ap₂, ◌∙◌, ℕ, ◌+◌, ◌++◌, ◌<◌, length, arith}
use native.Mathlib.Nat.{mod-lt}
use lib.Ieee.{nan}
use lib.ListN.{length-set}
use lib.Seq.{get_or-set_same}
use Rattle.laws.proofs.Slots.{turned_low, turned_high}
use Rattle.laws.proofs.Written.{tabulated}
use Rattle.messages.specs.Memory.{number}
use Rattle.segments.proofs.Runs.{joined, by_number}
use Rattle.segments.proofs.copy_turned.Goals as goal

pub returns-then-from-eq1 : goal.returns-then-from-eq1
returns-then-from-eq1 c =
    let z = length c.args.to.now in
    let from = λ (k : ℕ). number c.args.from.now k in
    tabulated nan _ z _ (length-set c.args.to.now 0 _)
    (λ t l.
    let first : t ≡ 0 = omega (arith, c.if-from-eq1.true) in
    let lift : 0 < z = omega arith in
    rw first
    (get_or-set_same c.args.to.now 0 _ nan (omega arith) ∙ ap from (omega (arith, c.if-from-eq1.true, mod-lt (0 + c.args.s) lift))))

pub returns : goal.returns
returns c =
    let s = c.args.s in
    let z = length c.args.to.now in
    let from = λ (k : ℕ). number c.args.from.now k in
    let parts = c.split_at.ensures.by_index in
    ap₂ ◌++◌ (c.copy_run.ensures ∙ by_number _) (c.copy_run-2.ensures ∙ by_number _)
    ∙ joined _ _ _ _ _ z
    (λ i l. parts.2 i nan ∙ ap from (omega (arith, turned_low i s z (omega arith))))
    (λ i l.
    let k = length c.split_at.result.1.now + i in
    parts.1 i nan (omega arith) ∙ ap from (omega (arith, turned_high k s z (omega arith) c.requires.0 (omega arith))))
    (omega arith)
