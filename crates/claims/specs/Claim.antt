-- The claim of grants over a list of calls: what the calls do, and what is owed of them. Assumes nothing.
use Rattle.std.specs.Prelude.{Ok, Err, List, [], ◌∷◌, ◌++◌, ℕ, ◌+◌, min, length, take, drop, Float}
use Rattle.refusals.specs.Outcome.{Outcome, after, if_length}
use Rattle.ldpc.specs.declared.choice.Code.{Code}
use Rattle.decoder.specs.declared.record.Decode.{Decode}
use Rattle.decoder.specs.declared.record.DecodeResult.{DecodeResult}
use Rattle.word.specs.Word.{word_of}
use Rattle.runs.specs.Runs.{alpha, unbroken}
use Rattle.decoder.specs.Decoding.{record_of, result_of}
use Rattle.decoder.specs.Calls.{if_work, if_sum, start_written, grant_told, grant_written, read_told, read_written}

-- a grant of g, or a read into an output, lent the first numbers of the work memory
pub data Call : Type 0 where
  grant : (g lent : ℕ) → Call
  read : (lent : ℕ) → (out : List ℕ) → Call

-- what a call tells, and what a read leaves in its output
pub data Answer : Type 0 where
  granted : Outcome Decode → Answer
  read_out : Outcome DecodeResult → List ℕ → Answer

-- ---- what the calls do
-- the record that Start or the last accepted grant returned, and the whole work memory as last left
pub record Held : Type 0 where
  pub decode : Decode
  pub memory : List Float

-- the record that a call returned, or the one from before where it refused
abbrev pub returned : Outcome Decode → Decode → Decode
returned (Ok d) before = d
returned (Err e) before = before

-- after a start that returned d, lent the first numbers of the memory w
unfoldable pub begun : Decode → Code → List Float → List Float → ℕ → Held
begun d c rx w lent = record { decode = d; memory = start_written c rx (take lent w) ++ drop lent w }

-- each call gets that record, and that memory from its first number, in any length
unfoldable pub answer_of : Held → Call → Answer
answer_of h (grant g lent) = granted (grant_told h.decode g (take lent h.memory))
answer_of h (read lent out) =
    read_out (read_told h.decode (take lent h.memory) (length out)) (read_written h.decode (take lent h.memory) out)

-- what a grant leaves stands in front of what it was not lent; a read only reads
unfoldable pub held_after : Held → Call → Held
held_after h (grant g lent) =
    record {
      decode = returned (grant_told h.decode g (take lent h.memory)) h.decode;
      memory = grant_written h.decode g (take lent h.memory) ++ drop lent h.memory;
    }
held_after h (read lent out) = h

-- the answers to a list of calls, and what is held after it
unfoldable pub answers : Held → List Call → List Answer
answers h [] = []
answers h (call ∷ calls) = answer_of h call ∷ answers (held_after h call) calls

unfoldable pub after_all : Held → List Call → Held
after_all h [] = h
after_all h (call ∷ calls) = after_all (held_after h call) calls

-- ---- what is owed, from the calls alone: of a code and readings, in the memory w as it was before Start
module _ (c : Code) (rx w : List Float) where
  -- refusal 8, then 10 by the iterations of the unbroken decode limited to the running sum; any other grant adds its g
  unfoldable pub owed_grant : ℕ → ℕ → ℕ → Outcome Decode
  owed_grant sum g lent =
      if_work c (min lent (length w))
      (if_sum ((unbroken alpha c rx w sum).iterations + g) (Ok (record_of c (unbroken alpha c rx w (sum + g)))))

  -- refusal 9, then 8; an accepted read gives what the unbroken decode gives
  unfoldable pub owed_read : ℕ → ℕ → ℕ → Outcome DecodeResult
  owed_read sum lent room =
      if_length 9 room c.n_tx (if_work c (min lent (length w)) (Ok (result_of c (unbroken alpha c rx w sum))))

  unfoldable pub owed_answer : ℕ → Call → Answer
  owed_answer sum (grant g lent) = granted (owed_grant sum g lent)
  owed_answer sum (read lent out) =
      read_out (owed_read sum lent (length out)) (after (owed_read sum lent (length out)) (λ _. word_of c (unbroken alpha c rx w sum).memory) out)

  -- a read leaves the running sum, and so does a refused grant
  unfoldable pub sum_after : ℕ → Call → ℕ
  sum_after sum (grant g lent) = after (owed_grant sum g lent) (λ _. sum + g) sum
  sum_after sum (read lent out) = sum

  -- what is owed of a list of calls, and its running sum
  unfoldable pub owed : ℕ → List Call → List Answer
  owed sum [] = []
  owed sum (call ∷ calls) = owed_answer sum call ∷ owed (sum_after sum call) calls

  unfoldable pub sum_of : ℕ → List Call → ℕ
  sum_of sum [] = sum
  sum_of sum (call ∷ calls) = sum_of (sum_after sum call) calls

  -- after every list, the unbroken decode limited to the running sum
  unfoldable pub held_at : ℕ → Held
  held_at sum = record { decode = record_of c (unbroken alpha c rx w sum); memory = (unbroken alpha c rx w sum).memory }
