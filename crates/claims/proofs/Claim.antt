-- The claim of grants as one theorem on every list of calls: `broken_off`. Beside it, that what lies past the needed numbers is untouched, and
-- that the one call is a start, a grant and a read. Assumes nothing.
use Rattle.std.specs.Prelude.{Ok, Err}
use mathlib.Core.Path.{◌≡◌, refl, sym, ap, ap₂, ◌∙◌}
use mathlib.Core.Bool.{true, false}
use mathlib.Core.List.{List, [], ◌∷◌, ◌++◌}
use Prim.Native.Nat.{ℕ, ◌+◌, ◌≤◌, min}
use native.Mathlib.Omega.{arith}
use native.Mathlib.Nat.{zero-add}
use lib.ListN.{length, take, drop, get_or, length-take, take-append-drop}
use lib.Seq.{take-length}
use lib.Ieee.{Float, nan}
use borrow.Author.Tests.{le-ltb}
use Rattle.refusals.specs.Outcome.{Outcome, after, if_length}
use Rattle.refusals.specs.declared.Numbers.{Numbers}
use Rattle.laws.specs.Run.{Progress, run}
use Rattle.laws.proofs.Front.{front_lent, front_past}
use Rattle.laws.proofs.Run.{seen}
use Rattle.ldpc.specs.declared.choice.Code.{Code}
use Rattle.ldpc.specs.Choice.{chosen, made}
use Rattle.ldpc.specs.Code.{work_of}
use Rattle.refusals.proofs.Lengths.{length_passed}
use Rattle.ldpc.proofs.Refused.{made_passed}
use Rattle.decoder.specs.declared.record.Decode.{Decode}
use Rattle.decoder.specs.declared.record.DecodeResult.{DecodeResult}
use Rattle.channel.specs.Channel.{start_memory}
use Rattle.word.specs.Word.{word_of}
use Rattle.runs.specs.Runs.{alpha, iterated, unbroken}
use Rattle.decoder.specs.Decoding.{record_of, progress_of, result_of}
use Rattle.decoder.specs.Calls.{if_work, if_sum, start_told, start_written, grant_told, grant_written, read_told, read_written, decoded_by, memory_by, written_by, decode_told, decode_memory, decode_written}
use Rattle.claims.specs.Claim.{Call, grant, read, granted, read_out, Held, returned, begun, answer_of, held_after, answers, after_all, owed_grant, owed_read, owed_answer, sum_after, owed, sum_of, held_at}
use Rattle.claims.proofs.Whole.{start_front, unbroken_add, unbroken_front, iterated_lent, word_lent}
use Rattle.claims.proofs.Cases.{made_cases, length_cases, work_cases, sum_cases, work_same, never}

-- ---- one call of what is held at a running sum
module _ (c : Code) (m : made c ≡ true) (rx w : List Float) (enough : work_of c ≤ length w) (sum : ℕ) where
  -- how far the unbroken decode has got, and how far it gets by g iterations more
  abbrev now : Progress (List Float)
  now = unbroken alpha c rx w sum

  abbrev later : ℕ → Progress (List Float)
  later g = unbroken alpha c rx w (sum + g)

  given : (lent : ℕ) → length (take lent now.memory) ≡ min lent (length w)
  given lent = length-take lent now.memory ∙ ap (min lent) ((unbroken_front c m alpha sum rx).long w enough)

  module _ (g lent : ℕ) where
    abbrev granted_now : Progress (List Float)
    granted_now = iterated alpha c g (progress_of (record_of c now) (take lent now.memory))

    -- a grant that is lent enough goes on where the unbroken decode is
    goes_on : work_of c ≤ length (take lent now.memory) → seen (λ v. v ++ drop lent now.memory) granted_now ≡ later g
    unfolding progress_of record_of
    goes_on h = iterated_lent c m alpha g now lent h ∙ sym (unbroken_add c alpha rx w sum g)

    grant_told_lem : grant_told (record_of c now) g (take lent now.memory) ≡ owed_grant c rx w sum g lent
    unfolding grant_told owed_grant record_of
    grant_told_lem =
        made_passed _ c m
        ∙ work_same c (length (take lent now.memory)) _ _ (λ h. ap (λ p. if_sum (now.iterations + g) (Ok (record_of c p))) (goes_on h))
        ∙ ap (λ n. if_work c n (if_sum (now.iterations + g) (Ok (record_of c (later g))))) (given lent)

    -- what is held after the answer t
    left : Outcome Decode → Held
    left t =
        record {
          decode = returned t (record_of c now);
          memory = after t (λ _. granted_now.memory) (take lent now.memory) ++ drop lent now.memory;
        }

    refusal_left : (n : Numbers) → left (Err n) ≡ held_at c rx w sum
    unfolding left held_at
    refusal_left n = ap (λ v. record { decode = record_of c now; memory = v }) (take-append-drop lent now.memory)

    grant_held : held_after (held_at c rx w sum) (grant g lent) ≡ held_at c rx w (sum_after c rx w sum (grant g lent))
    unfolding held_after held_at sum_after grant_written owed_grant left record_of
    grant_held =
        ap left grant_told_lem
        ∙ work_cases (λ t. left t ≡ held_at c rx w (after t (λ _. sum + g) sum)) refusal_left c (min lent (length w))
        (λ h. sum_cases (λ t. left t ≡ held_at c rx w (after t (λ _. sum + g) sum)) refusal_left (now.iterations + g)
        (ap (λ (p : Progress (List Float)). record { decode = record_of c (later g); memory = p.memory }) (goes_on (rw (given lent) h))))

  module _ (lent : ℕ) where
    read_told_lem : (room : ℕ) → read_told (record_of c now) (take lent now.memory) room ≡ owed_read c rx w sum lent room
    unfolding read_told owed_read record_of progress_of result_of
    read_told_lem room =
        made_passed _ c m
        ∙ ap (if_length 9 room c.n_tx)
        (work_same c (length (take lent now.memory)) _ _ (λ h. rw (word_lent c m lent now.memory h))
        ∙ ap (λ n. if_work c n (Ok (result_of c now))) (given lent))

    read_written_lem : (out : List ℕ) → read_written (record_of c now) (take lent now.memory) out
        ≡ after (owed_read c rx w sum lent (length out)) (λ _. word_of c now.memory) out
    unfolding read_written owed_read record_of
    read_written_lem out =
        ap (λ t. after t (λ _. word_of c (take lent now.memory)) out) (read_told_lem (length out))
        ∙ length_cases same (λ n. refl) 9 (length out) c.n_tx
        (λ e. work_cases same (λ n. refl) c (min lent (length w)) (λ h. word_lent c m lent now.memory (rw (given lent) h)))
      where
        same : Outcome DecodeResult → Type 0
        same t = after t (λ _. word_of c (take lent now.memory)) out ≡ after t (λ _. word_of c now.memory) out

  answers_one : (call : Call) → answer_of (held_at c rx w sum) call ≡ owed_answer c rx w sum call
  unfolding answer_of held_at owed_answer
  answers_one (grant g lent) = ap granted (grant_told_lem g lent)
  answers_one (read lent out) = ap₂ read_out (read_told_lem lent (length out)) (read_written_lem lent out)

  holds_one : (call : Call) → held_after (held_at c rx w sum) call ≡ held_at c rx w (sum_after c rx w sum call)
  unfolding held_after held_at sum_after
  holds_one (grant g lent) = grant_held g lent
  holds_one (read lent out) = refl

-- ---- a list of them
module _ (c : Code) (m : made c ≡ true) (rx w : List Float) (enough : work_of c ≤ length w) where
  answers_all : (sum : ℕ) (calls : List Call) → answers (held_at c rx w sum) calls ≡ owed c rx w sum calls
  unfolding answers owed
  answers_all sum [] = refl
  answers_all sum (call ∷ calls) =
      ap₂ ◌∷◌ (answers_one c m rx w enough sum call)
      (ap (λ h. answers h calls) (holds_one c m rx w enough sum call) ∙ answers_all (sum_after c rx w sum call) calls)

  holds_all : (sum : ℕ) (calls : List Call) → after_all (held_at c rx w sum) calls ≡ held_at c rx w (sum_of c rx w sum calls)
  unfolding after_all sum_of
  holds_all sum [] = refl
  holds_all sum (call ∷ calls) =
      ap (λ h. after_all h calls) (holds_one c m rx w enough sum call) ∙ holds_all (sum_after c rx w sum call) calls

-- ---- after a start
-- what an accepted start had, and the record that it returned
pub record Accepted (c : Code) (rx : List Float) (room : ℕ) (d : Decode) : Type 0 where
  pub code_made : made c ≡ true
  pub heard : length rx ≡ c.n_tx
  pub enough : work_of c ≤ room
  pub is : d ≡ record { code = c; iterations = 0; converged = false }

pub accepted : (c : Code) (rx : List Float) (room : ℕ) (d : Decode) → start_told c rx room ≡ Ok d → Accepted c rx room d
unfolding start_told
accepted c rx room d =
    made_cases P never c
    (λ m. length_cases P never 5 (length rx) c.n_tx
    (λ l. work_cases P never c room (λ h e. record { code_made = m; heard = l; enough = h; is = (cc) })))
  where
    P : Outcome Decode → Type 0
    P t = t ≡ Ok d → Accepted c rx room d

-- and such a start is accepted
pub starts : (c : Code) (rx : List Float) (room : ℕ) → made c ≡ true → length rx ≡ c.n_tx → work_of c ≤ room
    → start_told c rx room ≡ Ok (record { code = c; iterations = 0; converged = false })
unfolding start_told if_work
starts c rx room m l h = made_passed _ c m ∙ length_passed _ 5 (length rx) c.n_tx l ∙ (rw (le-ltb room (work_of c) h))

-- for every list of calls after an accepted start, the answers are those owed, and what is held is the unbroken decode
-- limited to the running sum
module _ (c : Code) (rx w : List Float) (lent : ℕ) (d : Decode) (start : start_told c rx (length (take lent w)) ≡ Ok d) where
  given_start : Accepted c rx (length (take lent w)) d
  given_start = accepted c rx (length (take lent w)) d start

  begins : begun d c rx w lent ≡ held_at c rx w 0
  unfolding begun start_written held_at unbroken iterated run record_of
  begins =
      ap₂ (λ (e : Decode) (v : List Float). record { decode = e; memory = v }) given_start.is
      (ap (λ t. after t (λ _. start_memory c rx (take lent w)) (take lent w) ++ drop lent w) start
      ∙ front_lent (start_front c rx) lent w given_start.enough)

  pub broken_off : (calls : List Call)
      → (answers (begun d c rx w lent) calls ≡ owed c rx w 0 calls)
      × (after_all (begun d c rx w lent) calls ≡ held_at c rx w (sum_of c rx w 0 calls))
  broken_off calls =
      let l : work_of c ≤ length w = omega (arith, given_start.enough, length-take lent w) in (
        ap (λ h. answers h calls) begins ∙ answers_all c given_start.code_made rx w l 0 calls,
        ap (λ h. after_all h calls) begins ∙ holds_all c given_start.code_made rx w l 0 calls,
      )

  -- and so a call after the list is answered as owed at the running sum
  pub reads_after : (calls : List Call) (call : Call)
      → answer_of (after_all (begun d c rx w lent) calls) call ≡ owed_answer c rx w (sum_of c rx w 0 calls) call
  reads_after calls call =
      let l : work_of c ≤ length w = omega (arith, given_start.enough, length-take lent w) in
      ap (λ h. answer_of h call) (broken_off calls).1 ∙ answers_one c given_start.code_made rx w l (sum_of c rx w 0 calls) call

-- the memory keeps its length, and what lies past the needed numbers
module _ (c : Code) (m : made c ≡ true) (factor : Float) (rx w : List Float) (enough : work_of c ≤ length w) (n : ℕ) where
  pub same_length : length (unbroken factor c rx w n).memory ≡ length w
  same_length = (unbroken_front c m factor n rx).long w enough

  pub untouched : (i : ℕ) → work_of c ≤ i → get_or (unbroken factor c rx w n).memory i nan ≡ get_or w i nan
  untouched = front_past (unbroken_front c m factor n rx) nan w enough

-- ---- the one call
module _ (rate n : ℕ) (c : Code) (choice : chosen rate n ≡ Ok c) (rx w : List Float) (d : Decode)
    (start : start_told c rx (length w) ≡ Ok d) (limit : ℕ) (small : limit ≤ 65535) (out : List ℕ) where
  had : Accepted c rx (length w) d
  had = accepted c rx (length w) d start

  all : min (length w) (length w) ≡ length w
  all = omega arith

  grant_owed : owed_grant c rx w 0 limit (length w) ≡ Ok (record_of c (unbroken alpha c rx w limit))
  unfolding owed_grant if_work if_sum unbroken iterated run
  grant_owed = rw (all, le-ltb (length w) (work_of c) had.enough, zero-add, le-ltb 65535 limit small)

  sum_is : sum_after c rx w 0 (grant limit (length w)) ≡ limit
  unfolding sum_after
  sum_is = rw grant_owed (zero-add limit)

  read_owed : owed_read c rx w limit (length w) (length out) ≡ decoded_by c rx limit w (length out)
  unfolding owed_read decoded_by
  read_owed = rw (length_passed _ 5 (length rx) c.n_tx had.heard, all)

  -- it tells and writes what a read does after a start and a grant of the limit, in the same memory
  abbrev calls : List Call
  calls = grant limit (length w) ∷ read (length w) out ∷ []

  pub one_call : answers (begun d c rx w (length w)) calls
      ≡ granted (Ok (record_of c (unbroken alpha c rx w limit)))
      ∷ read_out (decode_told rate n rx limit w (length out)) (decode_written rate n rx limit w out)
      ∷ []
  unfolding owed owed_answer decode_told decode_written written_by
  one_call =
      (broken_off c rx w (length w) d (rw (take-length w) start) calls).0 ∙ (rw (sum_is, grant_owed, read_owed, choice))

  -- and leaves the memory that they leave; an output of the wrong size it refuses before it starts
  pub one_call_leaves : length out ≡ c.n_tx
      → decode_memory rate n rx limit w (length out) ≡ (after_all (begun d c rx w (length w)) calls).memory
  unfolding decode_memory memory_by decoded_by if_work sum_of sum_after held_at
  one_call_leaves room =
      (rw (
        choice,
        length_passed _ 5 (length rx) c.n_tx had.heard,
        length_passed _ 9 (length out) c.n_tx room,
        le-ltb (length w) (work_of c) had.enough,
      ))
      ∙ ap (λ k. (unbroken alpha c rx w k).memory) (sym sum_is)
      ∙ ap (λ h. h.memory) (sym (broken_off c rx w (length w) d (rw (take-length w) start) calls).1)
