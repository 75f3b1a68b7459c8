-- `column` meets its contract. Assumes nothing.
use native.Mathlib.Omega.{arith}
use Rattle.by_columns.proofs.Lent.{totals_told, sent_told}
use Rattle.by_columns.proofs.column.Goals as goal

pub returns-clause-totals_after : goal.returns-clause-totals_after
returns-clause-totals_after g c =
    totals_told c.args.l.now c.args.v c.requires.there _ c.column.ensures c.args.channel.now c.args.to_bits.now _ _ (omega arith)
    c.column_pass.ensures.totals_after c.args.totals.now c.requires.bits.1

pub returns-clause-checks_after : goal.returns-clause-checks_after
returns-clause-checks_after g c =
    sent_told c.args.l.now c.args.v c.requires.there _ c.column.ensures c.args.channel.now c.args.to_bits.now _ _ (omega arith)
    c.column_pass.ensures.totals_after _ _ c.column_pass.ensures.checks_after
