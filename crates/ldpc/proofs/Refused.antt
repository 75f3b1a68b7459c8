-- Refusal 11's test, passed and not. Assumes nothing.
use mathlib.Core.Path.{◌≡◌}
use mathlib.Core.Bool.{true, false}
use Rattle.refusals.specs.Outcome.{Outcome, refused}
use Rattle.ldpc.specs.declared.choice.Code.{Code}
use Rattle.ldpc.specs.Choice.{made, if_made}

module _ {A : Type 0} (rest : Outcome A) (c : Code) where
  pub made_passed : made c ≡ true → if_made c rest ≡ rest
  unfolding if_made
  made_passed h = rw h

  pub made_refused : made c ≡ false → if_made c rest ≡ refused 11 c.rate c.n_tx
  unfolding if_made
  made_refused h = rw h
