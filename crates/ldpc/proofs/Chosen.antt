-- The laws of Choice's definition: a family that serves is taken, one that does not is passed over. Assumes nothing.
use Rattle.std.specs.Prelude.{Option, Some, None, Ok}
use mathlib.Core.Path.{◌≡◌, refl}
use Prim.Native.Nat.{ℕ, ◌<◌, ◌≤◌, min}
use borrow.Author.Tests.{le-ltb, lt-ltb}
use Rattle.refusals.specs.Outcome.{Outcome, refused}
use Rattle.ldpc.specs.declared.choice.Code.{Code}
use Rattle.ldpc.specs.Choice.{given_else, family_code, tried_from, chosen}

module _ (n : ℕ) (rest : Outcome Code) where
  else_gave : (o : Option Code) (c : Code) → Ok c ≡ given_else (refused 1 1 n) o → Ok c ≡ given_else rest o
  else_gave (Some x) c e = e
  else_gave None c e = cc

  else_refused : (o : Option Code) (a p q : ℕ) → refused a p q ≡ given_else (refused 1 1 n) o → given_else rest o ≡ rest
  else_refused (Some x) a p q e = cc
  else_refused None a p q e = refl

module _ (rate family n : ℕ) (rest : Outcome Code) where
  pub tried_gave : {c : Code} → Ok c ≡ tried_from rate family n (refused 1 1 n) → Ok c ≡ tried_from rate family n rest
  unfolding tried_from
  tried_gave {c} e = else_gave n rest (family_code rate family n) c e

  pub tried_refused : {a p q : ℕ} → refused a p q ≡ tried_from rate family n (refused 1 1 n) → tried_from rate family n rest ≡ rest
  unfolding tried_from
  tried_refused {a} {p} {q} e = else_refused n rest (family_code rate family n) a p q e

pub chosen_long : (rate n : ℕ) → 19440 < n → chosen rate n ≡ refused 2 n 19440
unfolding chosen
chosen_long rate n h = rw (lt-ltb 19440 n h)

pub chosen_short : (rate n : ℕ) → n ≤ 19440
    → chosen rate n ≡ tried_from (min rate 5) 0 n (tried_from (min rate 5) 1 n (tried_from (min rate 5) 2 n (refused 1 1 n)))
unfolding chosen
chosen_short rate n h = rw (le-ltb 19440 n h)
