-- `store_some` meets its contract. Assumes nothing.
use mathlib.Core.Path.{refl}
use native.Mathlib.Omega.{arith}
use lib.Ieee.{nan}
use Rattle.laws.proofs.Written.{same}
use Rattle.lanes.proofs.Blocks.{one_more}
use Rattle.lanes.proofs.store_some.Goals as goal

pub loop-j-preserved : goal.loop-j-preserved
loop-j-preserved g c =
    one_more nan c.loop-j.j _ c.loop-j.invariant (omega (arith, c.requires.0, c.loop-j-test.true)) refl

pub returns : goal.returns
returns g c = same c.loop-j.invariant (λ s p. omega (arith, c.loop-j.auto.j-end)) (λ s p. omega (arith, c.loop-j-test.false)) (λ s q. refl)
