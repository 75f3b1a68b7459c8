-- What the calls tell, and what they write, with the refusals in their order. Assumes nothing.
use Rattle.std.specs.Prelude.{Ok, false, List, ℕ, ◌+◌, length, Float}
use Rattle.refusals.specs.Outcome.{Outcome, and_then, after, at_least, countable, if_length}
use Rattle.ldpc.specs.declared.choice.Code.{Code}
use Rattle.ldpc.specs.Choice.{chosen, if_made}
use Rattle.ldpc.specs.Code.{work_of}
use Rattle.decoder.specs.declared.record.Decode.{Decode}
use Rattle.decoder.specs.declared.record.DecodeResult.{DecodeResult}
use Rattle.channel.specs.Channel.{start_memory}
use Rattle.word.specs.Word.{word_of}
use Rattle.runs.specs.Runs.{alpha, iterated, unbroken}
use Rattle.decoder.specs.Decoding.{record_of, progress_of, result_of}

-- refusal 8: the work memory's length, given and needed
unfoldable pub if_work : {A : Type 0} → Code → ℕ → Outcome A → Outcome A
if_work c given rest = and_then (at_least 8 given (work_of c)) (λ _. rest)

-- refusal 10: iterations and g together
unfoldable pub if_sum : {A : Type 0} → ℕ → Outcome A → Outcome A
if_sum all rest = and_then (countable all) (λ _. rest)

-- start: 11, 5, 8
unfoldable pub start_told : Code → List Float → ℕ → Outcome Decode
start_told c rx room =
    if_made c (if_length 5 (length rx) c.n_tx (if_work c room (Ok (record { code = c; iterations = 0; converged = false }))))

unfoldable pub start_written : Code → List Float → List Float → List Float
start_written c rx w = after (start_told c rx (length w)) (λ _. start_memory c rx w) w

-- grant: 11, 8, 10
unfoldable pub grant_told : Decode → ℕ → List Float → Outcome Decode
grant_told d g w =
    if_made d.code (if_work d.code (length w) (if_sum (d.iterations + g) (Ok (record_of d.code (iterated alpha d.code g (progress_of d w))))))

unfoldable pub grant_written : Decode → ℕ → List Float → List Float
grant_written d g w = after (grant_told d g w) (λ _. (iterated alpha d.code g (progress_of d w)).memory) w

-- read: 11, 9, 8
unfoldable pub read_told : Decode → List Float → ℕ → Outcome DecodeResult
read_told d w room =
    if_made d.code (if_length 9 room d.code.n_tx (if_work d.code (length w) (Ok (result_of d.code (progress_of d w)))))

unfoldable pub read_written : Decode → List Float → List ℕ → List ℕ
read_written d w out = after (read_told d w (length out)) (λ _. word_of d.code w) out

-- the one call with a code: 5, 9, 8
unfoldable pub decoded_by : Code → List Float → ℕ → List Float → ℕ → Outcome DecodeResult
decoded_by c rx limit w room =
    if_length 5 (length rx) c.n_tx (if_length 9 room c.n_tx (if_work c (length w) (Ok (result_of c (unbroken alpha c rx w limit)))))

unfoldable pub memory_by : Code → List Float → ℕ → List Float → ℕ → List Float
memory_by c rx limit w room = after (decoded_by c rx limit w room) (λ _. (unbroken alpha c rx w limit).memory) w

unfoldable pub written_by : Code → List Float → ℕ → List Float → List ℕ → List ℕ
written_by c rx limit w out = after (decoded_by c rx limit w (length out)) (λ _. word_of c (unbroken alpha c rx w limit).memory) out

-- the one call: 2, 1, and then those; a code that cannot be made ends it
unfoldable pub decode_told : ℕ → ℕ → List Float → ℕ → List Float → ℕ → Outcome DecodeResult
decode_told rate n rx limit w room = and_then (chosen rate n) (λ c. decoded_by c rx limit w room)

unfoldable pub decode_memory : ℕ → ℕ → List Float → ℕ → List Float → ℕ → List Float
decode_memory rate n rx limit w room = after (chosen rate n) (λ c. memory_by c rx limit w room) w

unfoldable pub decode_written : ℕ → ℕ → List Float → ℕ → List Float → List ℕ → List ℕ
decode_written rate n rx limit w out = after (chosen rate n) (λ c. written_by c rx limit w out) out
