-- `rotated` meets its contract: modulo 1 every number is 0. Assumes nothing.
use mathlib.Core.Path.{sym}
use native.Mathlib.Nat.{mod-one}
use Rattle.base_edges.proofs.rotated.Goals as goal

pub returns-then-z-eq1 : goal.returns-then-z-eq1
returns-then-z-eq1 c = rw c.if-z-eq1.true (sym (mod-one _))
