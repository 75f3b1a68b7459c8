-- `draw_of` meets its contract. Assumes nothing.
use Rattle.std.proofs.Common.{refl}
use Rattle.shifts.specs.Generator.{draw_of}
use Rattle.shifts.proofs.generator.draw_of.Goals as goal

pub returns : goal.returns
unfolding draw_of
returns c = refl
