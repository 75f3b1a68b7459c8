-- The starred rows of the commissioning table, and the test that a row holds of the definitions. Assumes nothing.
use Rattle.std.specs.Prelude.{Ok, Err, Bool, true, false, ◌&&◌, ◌||◌, List, [], ◌∷◌, ℕ, eqb, ℤ, pos, Float}
use Rattle.std.specs.Bool.{beq}
use Rattle.std.proofs.Math.Option.{Option, none, some}
use Rattle.std.specs.Float.{fin}
use Rattle.laws.specs.Run.{Progress}
use Rattle.laws.specs.Written.{tabulate}
use Rattle.refusals.specs.Outcome.{Outcome, after}
use Rattle.ldpc.specs.declared.choice.Code.{Code}
use Rattle.ldpc.specs.Choice.{chosen}
use Rattle.coder.specs.Calls.{encoding_of, unsatisfied_of}
use Rattle.decoder.specs.declared.record.DecodeResult.{DecodeResult}
use Rattle.word.specs.Word.{word_of}
use Rattle.runs.specs.Runs.{alpha, unbroken}
use Rattle.decoder.specs.Decoding.{result_of}

-- what the table says of a rate and n_tx
pub data Row : Type 0 where
  -- Choice refuses, by its number and its pair
  refuses : (rate n number first second : ℕ) → Row
  -- Choice gives a code of a family (0 large, 1 small, 2 tiny); not every row says the lift and the shortened count
  gives : (rate n family : ℕ) (z : Option ℕ) (k : ℕ) (shortened : Option ℕ) → Row
  encodes : (rate n : ℕ) (info word : List ℕ) → Row
  -- the unbroken decode at a limit: what Read tells, its word, and how many checks the word does not meet
  decodes : (rate n : ℕ) (rx : List Float) (limit : ℕ) (result : DecodeResult) (word : List ℕ) (unsatisfied : ℕ) → Row

-- ---- the rows
unfoldable pub among : ℕ → List ℕ → Bool
among i [] = false
among i (j ∷ l) = eqb i j || among i l

-- n readings of the size m × 2 ^ e, negative at some places
unfoldable pub readings : ℕ → ℕ → ℤ → List ℕ → List Float
readings n m e places = tabulate (λ i. fin (among i places) m e) n

-- the starred rows of the commissioning table, in the order of that table (100,000,000 is 390625 × 2 ^ 8)
unfoldable pub table : List Row
table =
    refuses 0 3 1 1 3 ∷
    gives 0 4 1 none 1 (some 16) ∷
    gives 0 9 1 none 6 none ∷
    gives 0 10 0 none 1 (some 50) ∷
    gives 4 10 2 none 4 none ∷
    refuses 4 11 1 1 11 ∷
    refuses 5 21 1 1 21 ∷
    gives 5 22 2 (some 3) 1 none ∷
    encodes 5 10 (1 ∷ 0 ∷ 0 ∷ []) (1 ∷ 0 ∷ 0 ∷ 1 ∷ 0 ∷ 0 ∷ 1 ∷ 0 ∷ 1 ∷ 1 ∷ []) ∷
    encodes 5 10 (0 ∷ 1 ∷ 0 ∷ []) (0 ∷ 1 ∷ 0 ∷ 1 ∷ 1 ∷ 0 ∷ 0 ∷ 0 ∷ 0 ∷ 1 ∷ []) ∷
    encodes 5 22 (1 ∷ []) (1 ∷ 1 ∷ 0 ∷ 0 ∷ 1 ∷ 0 ∷ 1 ∷ 1 ∷ 0 ∷ 1 ∷ 1 ∷ 1 ∷ 1 ∷ 1 ∷ 1 ∷ 0 ∷ 1 ∷ 0 ∷ 0 ∷ 1 ∷ 0 ∷ 0 ∷ []) ∷
    decodes 5 10 (readings 10 1 (pos 0) (0 ∷ [])) 1 (record { iterations = 1; converged = true; clean = true })
    (0 ∷ 0 ∷ 0 ∷ 0 ∷ 0 ∷ 0 ∷ 0 ∷ 0 ∷ 0 ∷ 0 ∷ []) 0 ∷
    decodes 5 9 (readings 9 390625 (pos 8) (2 ∷ 3 ∷ 6 ∷ [])) 1 (record { iterations = 1; converged = true; clean = false })
    (0 ∷ 0 ∷ 1 ∷ 1 ∷ 0 ∷ 0 ∷ 1 ∷ 0 ∷ 0 ∷ []) 3 ∷
    []

-- ---- the test of a row
unfoldable pub same_word : List ℕ → List ℕ → Bool
same_word [] [] = true
same_word [] (y ∷ b) = false
same_word (x ∷ a) [] = false
same_word (x ∷ a) (y ∷ b) = eqb x y && same_word a b

unfoldable pub is_refused : Outcome Code → ℕ → ℕ → ℕ → Bool
is_refused (Ok c) number first second = false
is_refused (Err e) number first second = eqb e.number number && eqb e.first first && eqb e.second second

-- what the table leaves unsaid is met by any number
unfoldable pub meets : ℕ → Option ℕ → Bool
meets n none = true
meets n (some m) = eqb n m

unfoldable pub has_sizes : ℕ → Option ℕ → ℕ → Option ℕ → Code → Bool
has_sizes family z k shortened c =
    eqb c.family family && meets c.z z && eqb c.k k && meets c.shortened shortened

unfoldable pub same_result : DecodeResult → DecodeResult → Bool
same_result a b =
    eqb a.iterations b.iterations && beq a.converged b.converged && beq a.clean b.clean

-- of a decode that has got so far: what is told, the word, and the word's unsatisfied checks
unfoldable pub reads_as : Code → Progress (List Float) → DecodeResult → List ℕ → ℕ → Bool
reads_as c p result word unsatisfied =
    same_result (result_of c p) result
    && same_word (word_of c p.memory) word
    && eqb (unsatisfied_of c (word_of c p.memory)) unsatisfied

-- a decode takes place in a memory w
unfoldable pub holds : List Float → Row → Bool
holds w (refuses rate n number first second) = is_refused (chosen rate n) number first second
holds w (gives rate n family z k shortened) = after (chosen rate n) (has_sizes family z k shortened) false
holds w (encodes rate n info word) = after (chosen rate n) (λ c. same_word (encoding_of c info) word) false
holds w (decodes rate n rx limit result word unsatisfied) =
    after (chosen rate n) (λ c. reads_as c (unbroken alpha c rx w limit) result word unsatisfied) false

unfoldable pub all_hold : List Float → List Row → Bool
all_hold w [] = true
all_hold w (row ∷ rows) = holds w row && all_hold w rows
