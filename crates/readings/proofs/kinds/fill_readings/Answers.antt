-- `fill_readings` meets its contract. Assumes nothing.
use borrow.Author.Rules.{rules}
use Rattle.readings.specs.Kinds.{readings_of}
use Rattle.readings.proofs.Filling.{begun, turn, ended}
use Rattle.readings.proofs.kinds.fill_readings.Goals as goal

pub loop-i-init : goal.loop-i-init
loop-i-init c = begun

pub loop-i-preserved : goal.loop-i-preserved
loop-i-preserved c = turn _ _ c.loop-i.invariant (search rules) c.next_state-state.ensures (search rules)

pub returns : goal.returns
unfolding readings_of
returns c = ended c.loop-i.invariant (search rules)
