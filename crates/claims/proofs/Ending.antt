-- The noiseless block, over lists: where no reading is NaN and the negative ones are exactly the ones of a codeword, every accepted
-- read after a list whose accepted grants sum to 1 or more gives that word, 1 iteration, converged and clean. Assumes nothing.
use Rattle.std.specs.Prelude.{Ok}
use mathlib.Core.Path.{◌≡◌, sym, ap, ◌∙◌}
use mathlib.Core.Bool.{true}
use mathlib.Core.List.{List}
use Prim.Native.Nat.{ℕ, ◌<◌, ◌≤◌, min}
use native.Mathlib.Omega.{arith}
use lib.Dec.{eqb}
use lib.ListN.{length, take, get_or, length-take}
use lib.Ieee.{Float, nan}
use Rattle.refusals.specs.Outcome.{Outcome, after}
use Rattle.laws.proofs.Floats.{Sided}
use Rattle.bits.specs.Sums.{Bits}
use Rattle.ldpc.specs.declared.choice.Code.{Code}
use Rattle.ldpc.specs.Code.{work_of}
use Rattle.coder.specs.Calls.{encoding_of}
use Rattle.decoder.specs.declared.record.Decode.{Decode}
use Rattle.decoder.specs.declared.record.DecodeResult.{DecodeResult}
use Rattle.word.specs.Word.{word_of}
use Rattle.runs.specs.Runs.{alpha, unbroken}
use Rattle.decoder.specs.Decoding.{result_of}
use Rattle.decoder.specs.Calls.{start_told}
use Rattle.claims.specs.Claim.{Call, read, read_out, begun, answer_of, after_all, owed_read, owed_answer, sum_of}
use Rattle.claims.proofs.Cases.{length_cases, work_cases, never}
use Rattle.claims.proofs.Claim.{accepted, reads_after}
use Rattle.claims.proofs.Noiseless.{alpha_positive, one_iteration, that_word}

-- what an accepted read gives is the unbroken decode's
module _ (c : Code) (rx w : List Float) (sum lent : ℕ) (out : List ℕ) (x : DecodeResult) where
  pub gives : owed_read c rx w sum lent (length out) ≡ Ok x → result_of c (unbroken alpha c rx w sum) ≡ x
  unfolding owed_read
  gives =
      length_cases P never 9 (length out) c.n_tx
      (λ e. work_cases P never c (min lent (length w)) (λ h k. cc))
    where
      P : Outcome DecodeResult → Type 0
      P t = t ≡ Ok x → result_of c (unbroken alpha c rx w sum) ≡ x

module _ (c : Code) (rx w : List Float) (lent : ℕ) (d : Decode) (start : start_told c rx (length (take lent w)) ≡ Ok d)
    (info : List ℕ) (length_info : length info ≡ c.k) (bits : Bits info)
    (readings : (i : ℕ) → i < c.n_tx → Sided (eqb (get_or (encoding_of c info) i 0) 1) (get_or rx i nan)) where
  pub ends_at_once : (calls : List Call) → 1 ≤ sum_of c rx w 0 calls → (lent' : ℕ) (out : List ℕ) (x : DecodeResult) (word : List ℕ)
      → answer_of (after_all (begun d c rx w lent) calls) (read lent' out) ≡ read_out (Ok x) word
      → (x ≡ record { iterations = 1; converged = true; clean = true }) × (word ≡ encoding_of c info)
  unfolding owed_answer
  ends_at_once calls h lent' out x word e =
      let A = accepted c rx (length (take lent w)) d start in
      let room : work_of c ≤ length w = omega (arith, A.enough, length-take lent w) in
      let sum : ℕ = sum_of c rx w 0 calls in
      let k : read_out (owed_read c rx w sum lent' (length out)) (after (owed_read c rx w sum lent' (length out)) (λ _. word_of c (unbroken alpha c rx w sum).memory) out)
      ≡ read_out (Ok x) word
      = sym (reads_after c rx w lent d start calls (read lent' out)) ∙ e in
      let told : owed_read c rx w sum lent' (length out) ≡ Ok x = cc in
      let wrote : after (owed_read c rx w sum lent' (length out)) (λ _. word_of c (unbroken alpha c rx w sum).memory) out ≡ word = cc in (
        sym (gives c rx w sum lent' out x told)
            ∙ one_iteration alpha alpha_positive c A.code_made rx w room info length_info bits readings sum h,
        sym wrote ∙ ap (λ t. after t (λ _. word_of c (unbroken alpha c rx w sum).memory) out) told
            ∙ that_word alpha alpha_positive c A.code_made rx w room info length_info bits readings sum h,
      )
