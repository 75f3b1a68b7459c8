-- The tests of the refusals 12 to 19, passed and by cases; their numbers. Assumes nothing.
use Rattle.std.specs.Prelude.{Ok, Err, Option, Some, None}
use mathlib.Core.Path.{◌≡◌, refl, ap}
use mathlib.Core.Bool.{Bool, true, false, cond}
use Prim.Native.Nat.{ℕ, ◌≤◌}
use lib.Dec.{ltb, eqb}
use borrow.Author.Tests.{le-ltb, ltb-false, lt-ltb, eqb-true}
use Rattle.refusals.specs.Outcome.{Outcome, refused, and_then, if_length}
use Rattle.refusals.specs.declared.Numbers.{Numbers}
use Rattle.ahead.specs.Refused.{if_eighths, if_new_eighths, RangeTested, PairNumbered, range_test, if_slice}
use Rattle.ldpc.specs.declared.choice.Code.{Code}
use Rattle.ldpc.specs.Choice.{made, if_made}
use Rattle.ldpc.specs.Code.{work_of}
use Rattle.decoder.specs.Calls.{if_work, if_sum}

-- a test, with what its outcome says
either_way : (Q : Bool → Type 0) (t : Bool) → (t ≡ true → Q true) → (t ≡ false → Q false) → Q t
either_way Q true p q = p refl
either_way Q false p q = q refl

-- ---- tests passed
module _ {A : Type 0} where
  pub eighths_refused : (e : ℕ) (t : Numbers) → range_test 13 e 1 8 ≡ Err t → (rest : Outcome A)
      → if_eighths e rest ≡ Err t
  unfolding if_eighths
  eighths_refused e t h rest = ap (λ x. and_then x (λ _. rest)) h

  pub eighths_passed : (e : ℕ) (rest : Outcome A) → 1 ≤ e → e ≤ 8 → if_eighths e rest ≡ rest
  unfolding if_eighths
  eighths_passed e rest h k = rw (le-ltb e 1 h, le-ltb 8 e k) refl

  pub work_passed : (c : Code) (n : ℕ) → work_of c ≤ n → (rest : Outcome A) → if_work c n rest ≡ rest
  unfolding if_work
  work_passed c n h rest = rw (le-ltb n (work_of c) h) refl

  pub sum_passed : (n : ℕ) → n ≤ 65535 → (rest : Outcome A) → if_sum n rest ≡ rest
  unfolding if_sum
  sum_passed n h rest = rw (le-ltb 65535 n h) refl

-- ---- two answers behind the same tests are related where they are behind tests that are passed
abbrev tested : {A B : Type 0} → (Outcome A → Outcome B → Type 0) → Outcome A → Outcome B → Outcome (Unit {0})
    → Type 0
tested R rest rest' t = R (and_then t (λ _. rest)) (and_then t (λ _. rest'))

-- a slice that a call may bring has the length that is wanted
abbrev pub Fits : Option ℕ → ℕ → Type 0
Fits None wanted = Unit {0}
Fits (Some n) wanted = n ≡ wanted

module _ {A B : Type 0} (R : Outcome A → Outcome B → Type 0) (refusals : (n : Numbers) → R (Err n) (Err n))
    {rest : Outcome A}
    {rest' : Outcome B} where
  pub made_both : (c : Code) → (made c ≡ true → R rest rest') → R (if_made c rest) (if_made c rest')
  unfolding if_made
  made_both c p =
      either_way (λ t. R (cond t rest (refused 11 c.rate c.n_tx)) (cond t rest' (refused 11 c.rate c.n_tx)))
      (made c) p (λ e. refusals _)

  pub length_both : (number given wanted : ℕ) → (given ≡ wanted → R rest rest')
      → R (if_length number given wanted rest) (if_length number given wanted rest')
  unfolding if_length
  length_both number given wanted p =
      either_way (λ t. tested R rest rest' (cond t (Ok tt) (refused number given wanted))) (eqb given wanted)
      (λ e. p (eqb-true given wanted e)) (λ e. refusals _)

  pub slice_both : (room : Option ℕ) (wanted : ℕ) → (Fits room wanted → R rest rest')
      → R (if_slice room wanted rest) (if_slice room wanted rest')
  unfolding if_slice
  slice_both None wanted p = p tt
  slice_both (Some n) wanted p = length_both 9 n wanted p

  pub eighths_both : (e : ℕ) → ((1 ≤ e) × (e ≤ 8) → R rest rest') → R (if_eighths e rest) (if_eighths e rest')
  unfolding if_eighths
  eighths_both e p =
      either_way (λ s. tested R rest rest' (cond s (refused 13 e 1) (cond (ltb 8 e) (refused 13 e 8) (Ok tt))))
      (ltb e 1) (λ a. refusals _)
      (λ a. either_way (λ t. tested R rest rest' (cond t (refused 13 e 8) (Ok tt))) (ltb 8 e) (λ b. refusals _)
      (λ b. p (ltb-false e 1 a, ltb-false 8 e b)))

  pub work_both : (c : Code) (given : ℕ) → (work_of c ≤ given → R rest rest')
      → R (if_work c given rest) (if_work c given rest')
  unfolding if_work
  work_both c given p =
      either_way (λ t. tested R rest rest' (cond t (refused 8 given (work_of c)) (Ok tt)))
      (ltb given (work_of c)) (λ e. refusals _)
      (λ e. p (ltb-false given (work_of c) e))

  pub sum_both : (all : ℕ) → R rest rest' → R (if_sum all rest) (if_sum all rest')
  unfolding if_sum
  sum_both all p =
      either_way (λ t. tested R rest rest' (cond t (refused 10 all 65535) (Ok tt))) (ltb 65535 all)
      (λ e. refusals _) (λ e. p)

-- ---- the eighths of a record or of choices, and those that a call may bring, by cases
abbrev pub Brought : Option ℕ → Type 0
Brought None = Unit {0}
Brought (Some e) = (1 ≤ e) × (e ≤ 8)

module _ {A : Type 0} where
  pub eighths_cases : (P : Outcome A → Type 0) → ((n : Numbers) → P (Err n)) → (e : ℕ) (rest : Outcome A)
      → ((1 ≤ e) × (e ≤ 8) → P rest) → P (if_eighths e rest)
  eighths_cases P refusal e rest p = eighths_both (λ t u. P t) refusal {rest = rest} {rest' = rest} e p

  pub slice_cases : (P : Outcome A → Type 0) → ((n : Numbers) → P (Err n))
      → (room : Option ℕ) (wanted : ℕ) (rest : Outcome A)
      → (Fits room wanted → P rest) → P (if_slice room wanted rest)
  slice_cases P refusal room wanted rest p =
      slice_both (λ t u. P t) refusal {rest = rest} {rest' = rest} room wanted p

  pub brought_cases : (P : Outcome A → Type 0) → ((n : Numbers) → P (Err n))
      → (brought : Option ℕ) (rest : Outcome A) → (Brought brought → P rest) → P (if_new_eighths brought rest)
  unfolding if_new_eighths
  brought_cases P refusal None rest p = p tt
  brought_cases P refusal (Some e) rest p = eighths_cases P refusal e rest p

-- ---- ranges, and the numbers of the refusals
pub range_tested : RangeTested
range_tested number value low high = (
  λ h. rw (lt-ltb value low h) refl,
  λ h k. rw (le-ltb value low h, lt-ltb high value k) refl,
  λ h k. rw (le-ltb value low h, le-ltb high value k) refl,
)

pub pair_numbered : PairNumbered
pair_numbered p q = (refl, refl, refl, refl, refl, refl, refl, refl)
