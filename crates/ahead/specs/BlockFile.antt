-- Block file: a payload as a file of coded bits, its writer and its reader. Left open: that with readings of ±1
-- and 50 iterations a block that converged is clean is not shown, and needs no statement here. Assumes nothing.
use Rattle.std.specs.Prelude.{◌≡◌, Bool, true, false, not, cond, ◌&&◌, List, [], ◌∷◌, ◌++◌, ℕ, ◌+◌, ◌-◌, ◌*◌, ◌/◌, ◌%◌, ◌^◌, ◌<◌, ◌≤◌, eqb, ltb, leb, length, get_or, take, drop, Ok, Err, Float}
use Rattle.std.specs.List.{Contains}
use Rattle.laws.specs.Range.{sum, first, every}
use Rattle.laws.specs.Floats.{signed}
use Rattle.laws.specs.Run.{Progress}
use Rattle.laws.specs.Written.{tabulate}
use Rattle.refusals.specs.Outcome.{Outcome, refused, and_then, after, if_length}
use Rattle.refusals.specs.declared.Numbers.{Numbers}
use Rattle.ldpc.specs.declared.choice.Code.{Code}
use Rattle.ldpc.specs.Choice.{chosen}
use Rattle.coder.specs.Calls.{encoding_of, unsatisfied_of}
use Rattle.word.specs.Word.{word_of}
use Rattle.decoder.specs.Calls.{if_work}
use Rattle.decoder.specs.declared.record.DecodeResult.{DecodeResult}
use Rattle.decoder.specs.Decoding.{result_of}
use Rattle.ahead.specs.Schedules.{flooding}
use Rattle.ahead.specs.Decoder.{unbroken}

-- class 0 (alarms) takes rate index 4, class 1 (trends) index 1
abbrev pub class_rate : ℕ → ℕ
class_rate class = cond (eqb class 0) 4 1

-- whether the block of n_tx bits has a k of at least the payload's bits
unfoldable pub is_long_enough : ℕ → ℕ → ℕ → Bool
is_long_enough class bytes n = after (chosen (class_rate class) n) (λ c. leb (8 * bytes) c.k) false

-- the shortest such n_tx, or 19,441 where there is none
unfoldable pub block_of : ℕ → ℕ → ℕ
block_of class bytes = first (is_long_enough class bytes) 19441

-- bit i of some bytes, high bit first
unfoldable pub bit_in : List ℕ → ℕ → ℕ
bit_in bytes i = get_or bytes (i / 8) 0 / 2 ^ (7 - i % 8) % 2

-- the bytes that hold some bits, high bit first, spare bits 0
unfoldable pub bytes_of : List ℕ → List ℕ
bytes_of bits = tabulate (λ j. sum (λ b. get_or bits (8 * j + b) 0 * 2 ^ (7 - b)) 8) ((length bits + 7) / 8)

-- mark, version, class and length, each number low byte first
unfoldable pub head_of : ℕ → ℕ → List ℕ
head_of class bytes = 71 ∷ 80 ∷ 66 ∷ 1 ∷ 0 ∷ class ∷ bytes % 256 ∷ bytes / 256 ∷ []

-- the payload's bits, high bit first; the rest, the fill, is 0
unfoldable pub info_of : Code → List ℕ → List ℕ
info_of c payload = tabulate (λ i. cond (ltb i (8 * length payload)) (bit_in payload i) 0) c.k

unfoldable pub file_of : Code → ℕ → List ℕ → List ℕ
file_of c class payload = head_of class (length payload) ++ bytes_of (encoding_of c (info_of c payload))

abbrev pub file_length : ℕ → ℕ
file_length n = 8 + (n + 7) / 8

-- whether a payload has a block; one of 0 bytes has none
abbrev pub has_block : ℕ → ℕ → Bool
has_block class bytes = not (eqb bytes 0) && ltb (block_of class bytes) 19441

-- 17 (given, 0): a payload of 0 bytes or with no block; given is the writer's payload's length, the reader's
-- file's length
unfoldable pub if_block : {A : Type 0} → ℕ → ℕ → ℕ → (Code → Outcome A) → Outcome A
if_block class bytes given rest =
    cond (has_block class bytes) (and_then (chosen (class_rate class) (block_of class bytes)) rest)
    (refused 17 given 0)

-- the writer: 16 (5, class), 17, 9; it gives the block's code
unfoldable pub write_outcome : ℕ → List ℕ → ℕ → Outcome Code
write_outcome class payload room =
    cond (ltb 1 class) (refused 16 5 class)
    (if_block class (length payload) (length payload) (λ c. if_length 9 room (file_length c.n_tx) (Ok c)))

-- what the call tells of that
unfoldable pub write_told : ℕ → List ℕ → ℕ → Outcome (Unit {0})
write_told class payload room = and_then (write_outcome class payload room) (λ _. Ok tt)

unfoldable pub file_after_write : ℕ → List ℕ → List ℕ → List ℕ
file_after_write class payload out =
    after (write_outcome class payload (length out)) (λ c. file_of c class payload) out

-- 16: byte i is not that of mark and version, or the class is above 1
abbrev pub wrong_byte : List ℕ → ℕ → Bool
wrong_byte file i =
    cond (eqb i 5) (ltb 1 (get_or file 5 0)) (not (eqb (get_or file i 0) (get_or (head_of 0 0) i 0)))

-- 16 (the first such place, its byte)
unfoldable pub if_known : {A : Type 0} → List ℕ → Outcome A → Outcome A
if_known file rest =
    let p = first (wrong_byte file) 6 in cond (ltb p 6) (refused 16 p (get_or file p 0)) rest

-- low byte first
abbrev pub payload_length : List ℕ → ℕ
payload_length file = get_or file 6 0 + 256 * get_or file 7 0

-- 17: not the block's file length, or a spare bit that is 1; both with the length given and the length wanted
unfoldable pub if_length_and_spares : {A : Type 0} → Code → List ℕ → Outcome A → Outcome A
if_length_and_spares c file rest =
    let wanted = file_length c.n_tx in
    if_length 17 (length file) wanted
    (cond (every (λ j. eqb (bit_in (drop 8 file) (c.n_tx + j)) 0) ((8 - c.n_tx % 8) % 8)) rest
    (refused 17 (length file) wanted))

-- the reader: 17 (under 8 bytes), 16, 17 (no block), 17 (length), 17 (a spare bit), 9, 8, all before the
-- decode, and 18 after it
unfoldable pub file_tests : List ℕ → ℕ → List Float → Outcome Code
file_tests file room w =
    cond (ltb (length file) 8) (refused 17 (length file) 8)
    (if_known file
    (if_block (get_or file 5 0) (payload_length file) (length file) (λ c.
    if_length_and_spares c file (if_length 9 room (payload_length file) (if_work c (length w) (Ok c))))))

-- what is heard: 1 as −1 and 0 as +1
unfoldable pub heard_file : Code → List ℕ → List Float
heard_file c file = tabulate (λ i. signed (eqb (bit_in (drop 8 file) i) 1)) c.n_tx

-- the decode: 50 iterations of the first schedule, flooding, at 6 eighths
unfoldable pub file_run : Code → List ℕ → List Float → Progress (List Float)
file_run c file w = unbroken flooding (λ i. 6) c (heard_file c file) w 50

-- what an accepted file tells
pub record FileAnswer : Type 0 where
  pub class : ℕ
  pub iterations : ℕ

-- 18 (iterations, unsatisfied): a block that is not clean, or whose fill is not 0
unfoldable pub if_clean : Code → ℕ → List ℕ → DecodeResult → ℕ → Outcome FileAnswer
if_clean c bytes word r class =
    cond (r.clean && every (λ i. eqb (get_or word (8 * bytes + i) 0) 0) (c.k - 8 * bytes))
    (Ok (record { class = class; iterations = r.iterations })) (refused 18 r.iterations (unsatisfied_of c word))

unfoldable pub read_file_outcome : List ℕ → ℕ → List Float → Outcome FileAnswer
read_file_outcome file room w =
    and_then (file_tests file room w) (λ c.
    let u = file_run c file w in
    if_clean c (payload_length file) (word_of c u.memory) (result_of c u) (get_or file 5 0))

-- the payload that a word carries
unfoldable pub payload_of : ℕ → List ℕ → List ℕ
payload_of bytes word = bytes_of (take (8 * bytes) word)

-- what the reader leaves in the payload's slice: a refusal leaves it unchanged
unfoldable pub payload_after_read_file : List ℕ → List ℕ → List Float → List ℕ
payload_after_read_file file out w =
    after (read_file_outcome file (length out) w) (λ _.
    after (file_tests file (length out) w) (λ c.
    payload_of (payload_length file) (word_of c (file_run c file w).memory)) out) out

-- of the refusals 18 alone leaves the work memory as the decode left it; so does an accepted file
unfoldable pub memory_after_read_file : List ℕ → ℕ → List Float → List Float
memory_after_read_file file room w = after (file_tests file room w) (λ c. (file_run c file w).memory) w

-- ---- the statements
-- a byte is below 256
abbrev pub Bytes : List ℕ → Type 0
Bytes l = (i : ℕ) → i < length l → get_or l i 0 < 256

-- for every payload k is its bits exactly, so that the fill is empty
abbrev pub NoFill : Type 0
NoFill =
    (class bytes : ℕ) → class ≤ 1 → 1 ≤ bytes
    → (c : Code) → chosen (class_rate class) (block_of class bytes) ≡ Ok c → c.k ≡ 8 * bytes

-- the most bytes of a payload with a block
abbrev pub payload_most : ℕ → ℕ
payload_most class = cond (eqb class 0) 1093 1822

-- a payload has a block from 1 byte to 1,093 in class 0, to 1,822 in class 1
abbrev pub PayloadsWithBlock : Type 0
PayloadsWithBlock =
    (class bytes : ℕ) → class ≤ 1
    → (has_block class bytes ≡ (ltb 0 bytes && leb bytes (payload_most class)))
    × (has_block class bytes ≡ true → (c : Code) × (chosen (class_rate class) (block_of class bytes) ≡ Ok c))

-- the tests before the decode refuse with 16, 17, 9 or 8 alone: 18 comes last, and 1 and 2 never
abbrev pub BeforeDecode : Type 0
BeforeDecode =
    (file : List ℕ) (room : ℕ) (w : List Float) (e : Numbers) → file_tests file room w ≡ Err e
    → Contains (16 ∷ 17 ∷ 9 ∷ 8 ∷ []) e.number

-- a written file reads back as its payload and class in 1 iteration
abbrev pub ReadsBack : Type 0
ReadsBack =
    (class : ℕ) (payload room : List ℕ) (c : Code) → Bytes payload
    → write_outcome class payload (length room) ≡ Ok c
    → (w : List Float) (out : List ℕ) → length out ≡ length payload
    → let file = file_after_write class payload room in
    let told = if_work c (length w) (Ok (record { class = class; iterations = 1 })) in
    (read_file_outcome file (length out) w ≡ told)
    × (payload_after_read_file file out w ≡ after told (λ _. payload) out)

-- an accepted file whose coded bits are a codeword is the one written for the payload and class that it gives;
-- the payload is that word's, after 1 iteration
abbrev pub OnlyFile : Type 0
OnlyFile =
    (file out : List ℕ) (w : List Float) (r : FileAnswer) → Bytes file
    → read_file_outcome file (length out) w ≡ Ok r
    → (c : Code) → chosen (class_rate r.class) (block_of r.class (payload_length file)) ≡ Ok c
    → let word = tabulate (bit_in (drop 8 file)) c.n_tx in
    unsatisfied_of c word ≡ 0
    → let payload = payload_after_read_file file out w in
    ((room : List ℕ) → length room ≡ length file → file_after_write r.class payload room ≡ file)
    × (write_outcome r.class payload (length file) ≡ Ok c)
    × (payload ≡ payload_of (payload_length file) word) × (r.iterations ≡ 1)
