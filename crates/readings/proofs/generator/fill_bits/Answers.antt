-- `fill_bits` meets its contract. Assumes nothing.
use mathlib.Core.Path.{refl}
use borrow.Author.Rules.{rules}
use Rattle.readings.specs.Generator.{random_bits}
use Rattle.readings.proofs.Filling.{begun, turn, ended}
use Rattle.readings.proofs.generator.fill_bits.Goals as goal

pub loop-bit-init : goal.loop-bit-init
loop-bit-init c = begun

pub loop-bit-preserved : goal.loop-bit-preserved
loop-bit-preserved c = turn _ _ c.loop-bit.invariant (search rules) c.next_state-state.ensures refl

pub returns : goal.returns
unfolding random_bits
returns c = ended c.loop-bit.invariant (search rules)
