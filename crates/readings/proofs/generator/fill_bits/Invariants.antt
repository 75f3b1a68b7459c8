-- `fill_bits` meets its contract. Assumes nothing.
use Prim.Native.Nat.{◌%◌}
use Rattle.readings.proofs.Filling.{Filling}
use Rattle.readings.proofs.generator.fill_bits.Given as goal

abbrev pub invariant-loop-bit : goal.invariant-loop-bit
invariant-loop-bit l = Filling 0 (λ s x. x % 2) l.seed l.initial.word l.word l.state l.bit-index
