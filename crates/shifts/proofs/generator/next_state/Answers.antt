-- `next_state` meets its contract. Assumes nothing.
use native.Mathlib.Nat.{mod-add-mod}
use Rattle.shifts.specs.Generator.{next_state}
use Rattle.shifts.proofs.generator.next_state.Goals as goal

pub returns : goal.returns
unfolding next_state
returns c = rw (c.wrapping_add_u64.ensures.value, c.wrapping_mul.ensures, mod-add-mod)
