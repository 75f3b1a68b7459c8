-- An answer is a refusal, or the rest where a test is passed: what holds of both holds of it. Assumes nothing.
use Rattle.std.specs.Prelude.{Ok, Err}
use mathlib.Core.Path.{◌≡◌, refl}
use mathlib.Core.Bool.{Bool, true, false, cond}
use Prim.Native.Nat.{ℕ, ◌≤◌}
use native.Mathlib.Omega.{arith}
use borrow.Author.Tests.{ltb-false, eqb-true}
use lib.Dec.{ltb, eqb}
use Rattle.refusals.specs.Outcome.{Outcome, refused, and_then, if_length}
use Rattle.refusals.specs.declared.Numbers.{Numbers}
use Rattle.ldpc.specs.declared.choice.Code.{Code}
use Rattle.ldpc.specs.Choice.{made, if_made}
use Rattle.ldpc.specs.Code.{work_of}
use Rattle.decoder.specs.Calls.{if_work, if_sum}

-- a refusal gives nothing
pub never : {A B : Type 0} {x : A} (n : Numbers) → ◌≡◌ {A = Outcome A} (Err n) (Ok x) → B
never n e = let z : ◌≡◌ {A = ℕ} 0 1 = cc in absurd (omega arith)

-- a test, with what its outcome says
by : (Q : Bool → Type 0) (t : Bool) → (t ≡ true → Q true) → (t ≡ false → Q false) → Q t
by Q true p q = p refl
by Q false p q = q refl

module _ {A : Type 0} (P : Outcome A → Type 0) (refusal : (n : Numbers) → P (Err n)) {rest : Outcome A} where
  pub made_cases : (c : Code) → (made c ≡ true → P rest) → P (if_made c rest)
  unfolding if_made
  made_cases c p = by (λ t. P (cond t rest (refused 11 c.rate c.n_tx))) (made c) p (λ e. refusal _)

  pub length_cases : (number given wanted : ℕ) → (given ≡ wanted → P rest) → P (if_length number given wanted rest)
  unfolding if_length
  length_cases number given wanted p =
      by (λ t. P (and_then (cond t (Ok tt) (refused number given wanted)) (λ _. rest))) (eqb given wanted) (λ e. p (eqb-true given wanted e)) (λ e. refusal _)

  pub work_cases : (c : Code) (given : ℕ) → (work_of c ≤ given → P rest) → P (if_work c given rest)
  unfolding if_work
  work_cases c given p =
      by (λ t. P (and_then (cond t (refused 8 given (work_of c)) (Ok tt)) (λ _. rest))) (ltb given (work_of c)) (λ e. refusal _)
      (λ e. p (ltb-false given (work_of c) e))

  pub sum_cases : (all : ℕ) → P rest → P (if_sum all rest)
  unfolding if_sum
  sum_cases all p = by (λ t. P (and_then (cond t (refused 10 all 65535) (Ok tt)) (λ _. rest))) (ltb 65535 all) (λ e. refusal _) (λ e. p)

-- two answers behind one test are the same if they are where it is passed
pub work_same : {A : Type 0} (c : Code) (given : ℕ) (rest rest' : Outcome A) → (work_of c ≤ given → rest ≡ rest')
    → if_work c given rest ≡ if_work c given rest'
unfolding if_work
work_same c given rest rest' p =
    by (λ t. and_then (cond t (refused 8 given (work_of c)) (Ok tt)) (λ _. rest) ≡ and_then (cond t (refused 8 given (work_of c)) (Ok tt)) (λ _. rest')) (ltb given (work_of c)) (λ e. refl)
    (λ e. p (ltb-false given (work_of c) e))
