-- `fill_columns` meets its contract: each place is written. Assumes nothing.
use Rattle.std.proofs.Common.{arith}
use Rattle.laws.proofs.Written.{tabulated}
use Rattle.designs.proofs.inputs.Computed.fill_columns.Goals as goal

pub returns-clause-rows_after : goal.returns-clause-rows_after
returns-clause-rows_after c =
    let kept = c.loop-p.invariant in tabulated 0 _ _ _ kept.0 (λ s h. kept.2 s (omega (arith, kept.0, c.requires)))

pub returns-clause-shifts_after : goal.returns-clause-shifts_after
returns-clause-shifts_after c =
    let kept = c.loop-p.invariant in tabulated 0 _ _ _ kept.1 (λ s h. kept.3 s (omega (arith, kept.0, c.requires)))
