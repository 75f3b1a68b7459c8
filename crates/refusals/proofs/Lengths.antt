-- The test of refusals 5 and 9, passed and not. Assumes nothing.
use mathlib.Core.Path.{◌≡◌}
use Prim.Native.Nat.{ℕ}
use borrow.Author.Tests.{eq-eqb}
use Rattle.refusals.specs.Outcome.{Outcome, if_length}

module _ {A : Type 0} (rest : Outcome A) (number given wanted : ℕ) where
  pub length_passed : given ≡ wanted → if_length number given wanted rest ≡ rest
  unfolding if_length
  length_passed h = rw (eq-eqb given wanted h)
