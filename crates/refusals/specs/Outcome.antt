-- What a call comes to: what it gives, or the number of its refusal with its pair; and the tests that several calls make.
-- Assumes nothing.
use Rattle.std.specs.Prelude.{cond, ℕ, ltb, eqb, Result, Ok, Err}
use Rattle.std.specs.Result.{result_map_both}
use Rattle.refusals.specs.declared.Refusal.{Refusal}
use Rattle.refusals.specs.declared.Refusal.TheVariants.{NoFamily, TooLong, Design, Row, Input, NotBit, NoCheck, Work, Output, Iterations, Record}
use Rattle.refusals.specs.declared.Numbers.{Numbers}

-- the number and the pair of each refusal
abbrev pub numbers_of : Refusal → Numbers
numbers_of (NoFamily n) = record { number = 1; first = 1; second = n }
numbers_of (TooLong n) = record { number = 2; first = n; second = 19440 }
numbers_of (Design value limit) = record { number = 3; first = value; second = limit }
numbers_of (Row column place) = record { number = 4; first = column; second = place }
numbers_of (Input given wanted) = record { number = 5; first = given; second = wanted }
numbers_of (NotBit place value) = record { number = 6; first = place; second = value }
numbers_of (NoCheck check checks) = record { number = 7; first = check; second = checks }
numbers_of (Work given needed) = record { number = 8; first = given; second = needed }
numbers_of (Output given wanted) = record { number = 9; first = given; second = wanted }
numbers_of (Iterations all) = record { number = 10; first = all; second = 65535 }
numbers_of (Record rate n) = record { number = 11; first = rate; second = n }

abbrev pub Outcome : Type 0 → Type 0
Outcome A = Result A Numbers

-- an answer, with the number and the pair in the place of its refusal
abbrev pub outcome : {A : Type 0} → Result A Refusal → Outcome A
outcome r = result_map_both (λ x. x) numbers_of r

abbrev pub refused : {A : Type 0} → ℕ → ℕ → ℕ → Outcome A
refused n p q = Err (record { number = n; first = p; second = q })

-- a step, and what is done with what it gives
abbrev pub and_then : {A B : Type 0} → Outcome A → (A → Outcome B) → Outcome B
and_then (Ok x) f = f x
and_then (Err e) f = Err e

-- what stands after a call: where it gave, what it writes of what it gave; where it refused, what was there
abbrev pub after : {A B : Type 0} → Outcome A → (A → B) → B → B
after (Ok x) written kept = written x
after (Err e) written kept = kept

-- refusals 5 and 9: a length that must be exact
abbrev pub exact : ℕ → ℕ → ℕ → Outcome (Unit {0})
exact number given wanted = cond (eqb given wanted) (Ok tt) (refused number given wanted)

-- refusal 8: a length that must be reached
abbrev pub at_least : ℕ → ℕ → ℕ → Outcome (Unit {0})
at_least number given needed = cond (ltb given needed) (refused number given needed) (Ok tt)

-- refusal 3: a design value, with the limit that it breaks
abbrev pub in_range : ℕ → ℕ → ℕ → Outcome (Unit {0})
in_range value low high = cond (ltb value low) (refused 3 value low) (cond (ltb high value) (refused 3 value high) (Ok tt))

-- refusal 10: the iterations done and granted together are a number of 16 bits
abbrev pub countable : ℕ → Outcome (Unit {0})
countable all = cond (ltb 65535 all) (refused 10 all 65535) (Ok tt)

-- refusals 5 and 9 before what comes after them
unfoldable pub if_length : {A : Type 0} → ℕ → ℕ → ℕ → Outcome A → Outcome A
if_length number given wanted rest = and_then (exact number given wanted) (λ _. rest)
