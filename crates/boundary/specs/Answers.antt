-- Records and answers as plain numbers in lent slices, for the C boundary. Assumes nothing.
use Rattle.std.specs.Prelude.{Bool, cond, ◌&&◌, List, ◌∷◌, [], ◌++◌, ℕ, ltb, eqb, length, get_or, drop, Ok, Err}
use Rattle.refusals.specs.Outcome.{Outcome, refused, and_then, exact}
use Rattle.matrix.specs.Encoding.{bit}
use Rattle.ldpc.specs.declared.choice.Code.{Code}
use Rattle.ldpc.specs.Code.{work_of}
use Rattle.ldpc.specs.Choice.{if_made}
use Rattle.decoder.specs.declared.record.Decode.{Decode}
use Rattle.decoder.specs.declared.record.DecodeResult.{DecodeResult}

-- a code record: rate, n_tx, family, z, k, shortened
abbrev pub code_numbers : Code → List ℕ
code_numbers c = c.rate ∷ c.n_tx ∷ c.family ∷ c.z ∷ c.k ∷ c.shortened ∷ []

unfoldable pub code_in : List ℕ → Code
code_in r =
    record {
      rate = get_or r 0 0;
      n_tx = get_or r 1 0;
      family = get_or r 2 0;
      z = get_or r 3 0;
      k = get_or r 4 0;
      shortened = get_or r 5 0;
    }

-- a decode record: a code record, iterations (16 bits), converged
abbrev pub decode_numbers : Decode → List ℕ
decode_numbers d = code_numbers d.code ++ (d.iterations ∷ bit d.converged ∷ [])

unfoldable pub decode_in : List ℕ → Decode
decode_in r = record { code = code_in r; iterations = get_or r 6 0; converged = eqb (get_or r 7 0) 1 }

-- the last two are iterations of 16 bits, and a bit
unfoldable pub is_decode : List ℕ → Bool
is_decode r = ltb (get_or r 6 0) 65536 && ltb (get_or r 7 0) 2

-- what a read tells: iterations, converged, clean
abbrev pub result_numbers : DecodeResult → List ℕ
result_numbers x = x.iterations ∷ bit x.converged ∷ bit x.clean ∷ []

-- what a call that counts tells, and one that only fills
abbrev pub one : ℕ → List ℕ
one n = n ∷ []

abbrev pub none : {A : Type 0} → A → List ℕ
none x = []

-- a call's number: 0, or its refusal's
abbrev pub number_told : {A : Type 0} → Outcome A → ℕ
number_told (Ok a) = 0
number_told (Err e) = e.number

-- what it tells beside: its results, or the refusal's pair
abbrev pub numbers_told : {A : Type 0} → (A → List ℕ) → Outcome A → List ℕ
numbers_told results (Ok a) = results a
numbers_told results (Err e) = e.first ∷ e.second ∷ []

-- numbers put to the front of a list
abbrev pub front : List ℕ → List ℕ → List ℕ
front numbers list = numbers ++ drop (length numbers) list

-- the answer's 3 numbers after a call; an answer of another size is left as it is
abbrev pub answered : {A : Type 0} → (A → List ℕ) → Outcome A → List ℕ → List ℕ
answered results t answer = cond (eqb (length answer) 3) (front (numbers_told results t) answer) answer

-- the slices of fixed size, before all else: the answer (9), a record that is read (5)
abbrev pub if_answer : {A : Type 0} → ℕ → Outcome A → Outcome A
if_answer room rest = and_then (exact 9 room 3) (λ _. rest)

abbrev pub if_code : {A : Type 0} → List ℕ → (Code → Outcome A) → Outcome A
if_code r rest = and_then (exact 5 (length r) 6) (λ _. rest (code_in r))

-- numbers that are no decode record are a record that Choice does not give: 11
abbrev pub if_decode : {A : Type 0} → List ℕ → (Decode → Outcome A) → Outcome A
if_decode r rest =
    and_then (exact 5 (length r) 8) (λ _. cond (is_decode r) (rest (decode_in r)) (refused 11 (get_or r 0 0) (get_or r 1 0)))

-- work_needed and the effective rate as calls: 11; 11, 9
unfoldable pub work_told : Code → Outcome ℕ
work_told c = if_made c (Ok (work_of c))

unfoldable pub put_told : Code → ℕ → Outcome (Unit {0})
put_told c room = if_made c (exact 9 room 1)
