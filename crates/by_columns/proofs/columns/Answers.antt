-- `columns` meets its contract. Assumes nothing.
use mathlib.Core.Path.{refl}
use native.Mathlib.Omega.{arith}
use Rattle.laws.proofs.Written.{upto_run}
use Rattle.by_columns.proofs.Lent.{totals_end, sent_end}
use Rattle.by_columns.proofs.columns.Goals as goal

pub loop-v-preserved : goal.loop-v-preserved
loop-v-preserved g c =
    (upto_run c.loop-v.invariant.0 c.column.ensures.totals_after (λ s p. refl), upto_run c.loop-v.invariant.1 c.column.ensures.checks_after (λ s p. refl))

pub returns-clause-totals_after : goal.returns-clause-totals_after
returns-clause-totals_after g c =
    totals_end c.args.l.now c.loop-v.v (omega (arith, c.loop-v-test.false)) c.args.channel.now c.args.to_bits.now c.args.totals.now _
    c.requires.bits.1 c.loop-v.invariant.0

pub returns-clause-checks_after : goal.returns-clause-checks_after
returns-clause-checks_after g c =
    sent_end c.args.l.now c.loop-v.v (omega (arith, c.loop-v-test.false)) c.args.channel.now c.args.to_bits.now c.args.to_checks.now _
    c.requires.slots.0 c.loop-v.invariant.1
