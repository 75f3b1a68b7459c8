-- `wrapping_mul` meets its contract. Assumes nothing.
use Rattle.std.proofs.Common.{◌∙◌, arith}
use Rattle.shifts.proofs.Wrapping.{halves_fit, wrapped}
use Rattle.shifts.proofs.generator.wrapping_mul.Goals as goal

pub overflow_mul-cross : goal.overflow_mul-cross
overflow_mul-cross c = record { fits = halves_fit _ _ (omega arith) (omega arith) }

pub overflow_mul-cross-2 : goal.overflow_mul-cross-2
overflow_mul-cross-2 c = record { fits = halves_fit _ _ (omega arith) (omega arith) }

pub overflow_mul-a_low : goal.overflow_mul-a_low
overflow_mul-a_low c = record { fits = halves_fit _ _ (omega arith) (omega arith) }

pub returns : goal.returns
returns c = c.wrapping_add_u64.ensures.value ∙ wrapped c.args.a c.args.b 4294967296
