-- Cable trial: blocks drawn from a seed, their records and the report of them. Left open: a seed is a number of
-- 64 bits by its type; that each number of the report stands on a line of its own is the program's to show.
-- Assumes nothing.
use Rattle.std.specs.Prelude.{◌≡◌, Bool, false, not, cond, ◌&&◌, List, [], ◌∷◌, ◌++◌, ℕ, zero, suc, ◌+◌, ◌-◌, ◌*◌, ◌/◌, ◌%◌, ◌^◌, ◌<◌, eqb, ltb, length, get_or, Ok, Float}
use Rattle.std.specs.Bool.{xor}
use Rattle.laws.specs.Range.{sum, count, every}
use Rattle.laws.specs.Floats.{signed}
use Rattle.laws.specs.Written.{tabulate}
use Rattle.laws.specs.Run.{Progress}
use Rattle.refusals.specs.Outcome.{Outcome, and_then, after, if_length}
use Rattle.shifts.specs.Generator.{state_after}
use Rattle.matrix.specs.Encoding.{bit}
use Rattle.ldpc.specs.declared.choice.Code.{Code}
use Rattle.ldpc.specs.Choice.{chosen}
use Rattle.coder.specs.Calls.{encoding_of}
use Rattle.word.specs.Word.{word_of}
use Rattle.decoder.specs.Calls.{if_work}
use Rattle.decoder.specs.Decoding.{result_of}
use Rattle.ahead.specs.Refused.{range_test}
use Rattle.ahead.specs.Schedules.{flooding}
use Rattle.ahead.specs.Decoder.{unbroken}

-- draw i: the state after i + 1 steps from s, >> 33. A block draws its k bits, then n_tx reversals
unfoldable pub draw : ℕ → ℕ → ℕ
draw s i = state_after s (i + 1) / 2 ^ 33

unfoldable pub info_drawn : Code → ℕ → List ℕ
info_drawn c s = tabulate (λ i. draw s i % 2) c.k

-- whether the reading at place i is reversed
abbrev pub is_reversed : Code → ℕ → ℕ → ℕ → Bool
is_reversed c setting s i = ltb (draw s (c.k + i) % 65536) setting

-- −1 for 1 and +1 for 0, the opposite where reversed
unfoldable pub heard_block : Code → ℕ → ℕ → List Float
heard_block c setting s =
    let word = encoding_of c (info_drawn c s) in
    tabulate (λ i. signed (xor (eqb (get_or word i 0) 1) (is_reversed c setting s i))) c.n_tx

-- the decode of the block whose state is s at first: 50 iterations of the first schedule, flooding, at 6
-- eighths
unfoldable pub block_run : Code → ℕ → ℕ → List Float → Progress (List Float)
block_run c setting s w = unbroken flooding (λ i. 6) c (heard_block c setting s) w 50

-- a block's record of five numbers: reversals, iterations, converged, clean, and whether its first k bits were
-- those sent
unfoldable pub block_record : Code → ℕ → ℕ → List Float → List ℕ
block_record c setting s w =
    let u = block_run c setting s w in
    let r = result_of c u in
    let word = word_of c u.memory in
    count (is_reversed c setting s) c.n_tx ∷ r.iterations ∷ bit r.converged ∷ bit r.clean
    ∷ bit (every (λ i. eqb (get_or word i 0) (get_or (info_drawn c s) i 0)) c.k) ∷ []

-- the state runs on from block to block; every block is decoded in the lent memory w: what the blocks before
-- left there gives the same records (`OneMemory`)
unfoldable pub records_from : Code → ℕ → ℕ → List Float → ℕ → List ℕ
records_from c setting s w zero = []
records_from c setting s w (suc n) =
    records_from c setting s w n ++ block_record c setting (state_after s (n * (c.k + c.n_tx))) w

-- 19 (blocks), 19 (setting), 2, 1, 9, 8
unfoldable pub trial_outcome : ℕ → ℕ → ℕ → ℕ → ℕ → ℕ → Outcome Code
trial_outcome rate n blocks setting room work =
    and_then (range_test 19 blocks 1 1000) (λ _.
    and_then (range_test 19 setting 0 65535) (λ _.
    and_then (chosen rate n) (λ c. if_length 9 room (5 * blocks) (if_work c work (Ok c)))))

-- what the call tells of that
unfoldable pub trial_told : ℕ → ℕ → ℕ → ℕ → ℕ → ℕ → Outcome (Unit {0})
trial_told rate n blocks setting room work =
    and_then (trial_outcome rate n blocks setting room work) (λ _. Ok tt)

-- what a trial leaves: its records, and the work memory as the last block left it; a refused one leaves both
-- unchanged
unfoldable pub records_after_trial : ℕ → ℕ → ℕ → ℕ → ℕ → List ℕ → List Float → List ℕ
records_after_trial rate n blocks setting seed records w =
    after (trial_outcome rate n blocks setting (length records) (length w)) (λ c.
    records_from c setting seed w blocks) records

unfoldable pub memory_after_trial : ℕ → ℕ → ℕ → ℕ → ℕ → ℕ → List Float → List Float
memory_after_trial rate n blocks setting seed room w =
    after (trial_outcome rate n blocks setting room (length w)) (λ c.
    (block_run c setting (state_after seed ((blocks - 1) * (c.k + c.n_tx))) w).memory) w

-- ---- the report, of any records: block i has the numbers from 5 * i on
abbrev pub entry : List ℕ → ℕ → ℕ → ℕ
entry l e i = get_or l (5 * i + e) 0

-- clean first, then converged: 0 clean and right, 1 clean and wrong; of those not clean, 2 converged only, 3
-- spent (not converged)
unfoldable pub heading : List ℕ → ℕ → ℕ
heading l i =
    cond (eqb (entry l 3 i) 0) (cond (eqb (entry l 2 i) 0) 3 2) (cond (eqb (entry l 4 i) 0) 1 0)

-- blocks, total reversals, total iterations, and how many blocks each heading has
unfoldable pub report : List ℕ → ℕ → List ℕ
report l n =
    n ∷ sum (entry l 0) n ∷ sum (entry l 1) n
    ∷ count (λ i. eqb (heading l i) 0) n ∷ count (λ i. eqb (heading l i) 1) n
    ∷ count (λ i. eqb (heading l i) 2) n ∷ count (λ i. eqb (heading l i) 3) n ∷ []

-- ---- the statements
-- what the four headings say of a block: clean and right, clean and wrong, converged only, spent
unfoldable pub has_heading : List ℕ → ℕ → ℕ → Bool
has_heading l h i =
    let clean = not (eqb (entry l 3 i) 0) in
    let right = not (eqb (entry l 4 i) 0) in
    let converged = not (eqb (entry l 2 i) 0) in
    get_or
    ((clean && right) ∷ (clean && not right) ∷ (not clean && converged) ∷ (not clean && not converged) ∷ []) h
    false

-- every total is the sum or the count over the records
abbrev pub Totals : Type 0
Totals =
    (l : List ℕ) (n : ℕ)
    → (get_or (report l n) 0 0 ≡ n) × (get_or (report l n) 1 0 ≡ sum (entry l 0) n)
    × (get_or (report l n) 2 0 ≡ sum (entry l 1) n)
    × ((h : ℕ) → h < 4 → get_or (report l n) (3 + h) 0 ≡ count (has_heading l h) n)

-- each block falls under just one heading
abbrev pub JustOneHeading : Type 0
JustOneHeading = (l : List ℕ) (i : ℕ) → count (λ h. has_heading l h i) 4 ≡ 1

-- the records stand block by block, five numbers each
abbrev pub RecordsStand : Type 0
RecordsStand =
    (c : Code) (setting s : ℕ) (w : List Float) (n : ℕ)
    → (length (records_from c setting s w n) ≡ 5 * n)
    × ((i e : ℕ) → i < n → e < 5
    → entry (records_from c setting s w n) e i
    ≡ get_or (block_record c setting (state_after s (i * (c.k + c.n_tx))) w) e 0)

-- the blocks decoded one after another in one memory
pub record Sequence : Type 0 where
  pub records : List ℕ
  pub memory : List Float

unfoldable pub in_sequence : Code → ℕ → ℕ → List Float → ℕ → Sequence
in_sequence c setting s w zero = record { records = []; memory = w }
in_sequence c setting s w (suc n) =
    let t = in_sequence c setting s w n in
    let at = state_after s (n * (c.k + c.n_tx)) in
    record {
      records = t.records ++ block_record c setting at t.memory;
      memory = (block_run c setting at t.memory).memory;
    }

-- an accepted trial leaves what they leave
abbrev pub OneMemory : Type 0
OneMemory =
    (rate n blocks setting seed : ℕ) (records : List ℕ) (w : List Float) (c : Code)
    → trial_outcome rate n blocks setting (length records) (length w) ≡ Ok c
    → let t = in_sequence c setting seed w blocks in
    (records_after_trial rate n blocks setting seed records w ≡ t.records)
    × (memory_after_trial rate n blocks setting seed (length records) w ≡ t.memory)
