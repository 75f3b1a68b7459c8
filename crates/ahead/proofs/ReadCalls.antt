-- A read of what is held after a list of calls, and what clean says of it. Assumes nothing.
use Rattle.std.specs.Prelude.{Ok}
use mathlib.Core.Path.{◌≡◌, refl, sym, ap, ◌∙◌, subst}
use mathlib.Core.Bool.{true}
use mathlib.Core.List.{List}
use Prim.Native.Nat.{ℕ, ◌≤◌, min}
use lib.ListN.{length, take}
use lib.Ieee.{Float}
use Rattle.refusals.specs.Outcome.{Outcome, after, if_length}
use Rattle.ldpc.specs.declared.choice.Code.{Code}
use Rattle.ldpc.specs.Choice.{made, if_made}
use Rattle.ldpc.proofs.Refused.{made_passed}
use Rattle.decoder.specs.declared.record.DecodeResult.{DecodeResult}
use Rattle.word.specs.Word.{word_of}
use Rattle.coder.specs.Calls.{encoding_of}
use Rattle.decoder.specs.Decoding as B
use Rattle.decoder.specs.Decoding.{result_of}
use Rattle.decoder.specs.Calls as D
use Rattle.decoder.specs.Calls.{if_work}
use Rattle.claims.proofs.Whole.{word_lent}
use Rattle.claims.proofs.Cases.{made_cases, length_cases, work_cases, work_same, never}
use Rattle.ahead.specs.Decoder.{Choices, Decode, record_of, progress_of, read_outcome, word_after_read, Lowest, grant_outcome, preview_outcome, start_outcome}
use Rattle.ahead.specs.Claim.{Accepted, run_so_far, owed_read, owed_word, RecordTested, ChoicesTested}
use mathlib.Core.Logic.{◌↔◌}
use Rattle.ahead.specs.OneCall.{CleanIsEncoded, PlainRead}
use Rattle.ahead.proofs.Tests.{eighths_passed, eighths_cases, eighths_refused}
use Rattle.refusals.proofs.Lengths.{length_passed}
use Rattle.ahead.specs.Refused.{if_slice}
use Rattle.claims.proofs.Clean.{clean}

-- ---- a read, of the record that is held: whatever its lowest count
module _ (c : Code) (m : made c ≡ true) (ch : Choices) (rx w : List Float) (l : List Accepted) (e lent : ℕ)
    (low : 1 ≤ e) (high : e ≤ 8)
    (given : length (take lent (run_so_far c ch rx w l).memory) ≡ min lent (length w)) (x : Lowest) where
  pub read_told : (room : ℕ)
      → read_outcome (record_of c ch.schedule e x (run_so_far c ch rx w l))
      (take lent (run_so_far c ch rx w l).memory) room
      ≡ owed_read c ch rx w l lent room
  unfolding read_outcome owed_read record_of progress_of result_of
  read_told room =
      made_passed _ c m
      ∙ ap (if_length 9 room c.n_tx)
      (eighths_passed e _ low high
      ∙ work_same c (length (take lent (run_so_far c ch rx w l).memory)) _ _
      (λ h. rw (word_lent c m lent (run_so_far c ch rx w l).memory h))
      ∙ ap (λ n. if_work c n (Ok (result_of c (run_so_far c ch rx w l)))) given)

  pub read_word : (out : List ℕ)
      → word_after_read (record_of c ch.schedule e x (run_so_far c ch rx w l))
      (take lent (run_so_far c ch rx w l).memory) out
      ≡ owed_word c ch rx w l lent out
  unfolding word_after_read owed_word owed_read record_of
  read_word out =
      ap (λ t. after t (λ _. word_of c (take lent (run_so_far c ch rx w l).memory)) out)
      (read_told (length out))
      ∙ length_cases same (λ n. refl) 9 (length out) c.n_tx
      (λ e. work_cases same (λ n. refl) c (min lent (length w))
      (λ h. word_lent c m lent (run_so_far c ch rx w l).memory (rw given h)))
    where
      same : Outcome DecodeResult → Type 0
      same t =
          after t (λ _. word_of c (take lent (run_so_far c ch rx w l).memory)) out
          ≡ after t (λ _. word_of c (run_so_far c ch rx w l).memory) out

-- what an accepted one gives
module _ (c : Code) (ch : Choices) (rx w : List Float) (l : List Accepted) (lent : ℕ) (out : List ℕ)
    (r : DecodeResult) (word : List ℕ) where
  gives : (room : ℕ) → owed_read c ch rx w l lent room ≡ Ok r → result_of c (run_so_far c ch rx w l) ≡ r
  unfolding owed_read
  gives room = length_cases P never 9 room c.n_tx (λ e. work_cases P never c (min lent (length w)) (λ h k. cc))
    where
      P : Outcome DecodeResult → Type 0
      P t = t ≡ Ok r → result_of c (run_so_far c ch rx w l) ≡ r

  pub read_gives : owed_read c ch rx w l lent (length out) ≡ Ok r → owed_word c ch rx w l lent out ≡ word
      → (r ≡ result_of c (run_so_far c ch rx w l)) × (word ≡ word_of c (run_so_far c ch rx w l).memory)
  unfolding owed_word
  read_gives told wrote = (
    sym (gives (length out) told),
    sym wrote
        ∙ ap (λ t. after t (λ _. word_of c (run_so_far c ch rx w l).memory) out) told,
  )

-- ---- the read of a decoder without eighths
pub plain_read : PlainRead
unfolding read_outcome word_after_read D.read_told D.read_written progress_of B.progress_of
plain_read d low high w out =
    let same : read_outcome d w (length out)
    ≡ D.read_told (record { code = d.code; iterations = d.iterations; converged = d.converged }) w (length out)
    = ap (λ t. if_made d.code (if_length 9 (length out) d.code.n_tx t)) (eighths_passed d.eighths _ low high) in
    (same, ap (λ t. after t (λ _. word_of d.code w) out) same)

-- so what clean says of it is what it says of that
read_eighths : (d : Decode) (w : List Float) (room : ℕ) (x : DecodeResult) → read_outcome d w room ≡ Ok x
    → (1 ≤ d.eighths) × (d.eighths ≤ 8)
unfolding read_outcome
read_eighths d w room x =
    made_cases P never d.code (λ m.
    length_cases P never 9 room d.code.n_tx (λ l.
    eighths_cases P never d.eighths _ (λ b e. b)))
  where
    P : Outcome DecodeResult → Type 0
    P t = t ≡ Ok x → (1 ≤ d.eighths) × (d.eighths ≤ 8)

pub clean_is_encoded : CleanIsEncoded
clean_is_encoded d w out x e =
    let b = read_eighths d w (length out) x e in
    let (told, wrote) = plain_read d b.0 b.1 w out in
    subst
    (λ (word : List ℕ). (x.clean ≡ true) ↔ ((x.converged ≡ true) × (word ≡ encoding_of d.code (take d.code.k word))))
    (sym wrote)
    (clean (record { code = d.code; iterations = d.iterations; converged = d.converged }) w out x (sym told ∙ e))

-- ---- the eighths of a record and of choices are tested first
pub record_tested : RecordTested
unfolding grant_outcome read_outcome preview_outcome if_slice
record_tested d t m e = (
  λ g brought word w long. (
    made_passed _ d.code m ∙ eighths_refused d.eighths t e _,
    made_passed _ d.code m ∙ length_passed _ 9 (length word) d.code.n_tx long ∙ eighths_refused d.eighths t e _,
  ),
  λ w. made_passed _ d.code m ∙ length_passed _ 9 d.code.n_tx d.code.n_tx refl
      ∙ eighths_refused d.eighths t e _,
  λ g w copy. made_passed _ d.code m ∙ length_passed _ 9 d.code.n_tx d.code.n_tx refl
      ∙ eighths_refused d.eighths t e _,
)

pub choices_tested : ChoicesTested
unfolding start_outcome if_slice
choices_tested c ch rx w t m long e =
    made_passed _ c m ∙ length_passed _ 5 (length rx) c.n_tx long ∙ eighths_refused ch.eighths t e _
