-- What the calls of the C boundary tell: the tests of the slices of fixed size, then what the call of the library tells of the
-- record in the numbers. `a` is the size of the answer. Assumes nothing.
use Rattle.std.specs.Prelude.{cond, List, ℕ, eqb, Float}
use Rattle.refusals.specs.Outcome.{Outcome, and_then, exact}
use Rattle.ldpc.specs.declared.choice.Code.{Code}
use Rattle.ldpc.specs.Choice.{chosen}
use Rattle.coder.specs.Calls.{listed, unsatisfied_told, encode_told}
use Rattle.decoder.specs.declared.record.Decode.{Decode}
use Rattle.decoder.specs.declared.record.DecodeResult.{DecodeResult}
use Rattle.decoder.specs.Calls.{start_told, grant_told, read_told, decode_told, decode_memory, decode_written}
use Rattle.runs.specs.Runs.{alpha, iterated}
use Rattle.decoder.specs.Decoding.{progress_of}
use Rattle.boundary.specs.Answers.{work_told, put_told, if_answer, if_code, if_decode}

-- the code's record is written to `room` numbers
unfoldable pub code_at : ℕ → ℕ → ℕ → ℕ → Outcome Code
code_at rate n room a = if_answer a (and_then (exact 9 room 6) (λ _. chosen rate n))

unfoldable pub work_at : List ℕ → ℕ → Outcome ℕ
work_at code a = if_answer a (if_code code work_told)

-- the rate is written to one number
unfoldable pub rate_at : List ℕ → ℕ → ℕ → Outcome (Unit {0})
rate_at code room a = if_answer a (if_code code (λ c. put_told c room))

unfoldable pub members_at : List ℕ → ℕ → ℕ → ℕ → Outcome ℕ
members_at code check room a = if_answer a (if_code code (λ c. listed c check room))

unfoldable pub unsatisfied_at : List ℕ → List ℕ → ℕ → Outcome ℕ
unsatisfied_at code word a = if_answer a (if_code code (λ c. unsatisfied_told c word))

unfoldable pub encode_at : List ℕ → List ℕ → ℕ → ℕ → Outcome (Unit {0})
encode_at code info room a = if_answer a (if_code code (λ c. encode_told c info room))

-- the decode's record is written to `room` numbers
unfoldable pub start_at : List ℕ → List Float → ℕ → ℕ → ℕ → Outcome Decode
start_at code rx work room a = if_answer a (if_code code (λ c. and_then (exact 9 room 8) (λ _. start_told c rx work)))

unfoldable pub grant_at : List ℕ → ℕ → List Float → ℕ → Outcome Decode
grant_at decode g w a = if_answer a (if_decode decode (λ d. grant_told d g w))

-- the work memory after it
unfoldable pub granted_memory : Decode → ℕ → List Float → List Float
granted_memory d g w = (iterated alpha d.code g (progress_of d w)).memory

unfoldable pub read_at : List ℕ → List Float → ℕ → ℕ → Outcome DecodeResult
read_at decode w room a = if_answer a (if_decode decode (λ d. read_told d w room))

unfoldable pub decode_at : ℕ → ℕ → List Float → ℕ → List Float → ℕ → ℕ → Outcome DecodeResult
decode_at rate n rx limit w room a = if_answer a (decode_told rate n rx limit w room)

-- the work memory and the word after it: as the one call leaves them, where the answer has its size
unfoldable pub decoded_memory : ℕ → ℕ → List Float → ℕ → List Float → ℕ → ℕ → List Float
decoded_memory rate n rx limit w room a = cond (eqb a 3) (decode_memory rate n rx limit w room) w

unfoldable pub decoded_word : ℕ → ℕ → List Float → ℕ → List Float → List ℕ → ℕ → List ℕ
decoded_word rate n rx limit w out a = cond (eqb a 3) (decode_written rate n rx limit w out) out
