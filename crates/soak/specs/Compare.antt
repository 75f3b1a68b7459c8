-- What differs between two memories or two outputs. Assumes nothing.
use Rattle.std.specs.Prelude.{Bool, not, ◌+◌, ◌-◌, List, ℕ, min, eqb, length, Float, count_by}
use Rattle.std.specs.List.{zip}
use Rattle.std.specs.Float.{binary32}
use Rattle.std.specs.Float.Ieee.{to_bits}

-- the same bits: the zeros differ, and NaN, of which there is one, is like itself
unfoldable pub same_number : Float → Float → Bool
same_number a b = eqb (to_bits binary32 a) (to_bits binary32 b)

-- at how many places that both have two lists differ, by a test of their entries
unfoldable pub differing : {A : Type 0} → (A → A → Bool) → List A → List A → ℕ
differing same a b = count_by (λ p. not (same p.0 p.1)) (zip a b)

-- the same, and where only one has a place they differ
unfoldable pub apart_by : {A : Type 0} → (A → A → Bool) → List A → List A → ℕ
apart_by same a b =
    let n = min (length a) (length b) in differing same a b + (length a - n) + (length b - n)

abbrev pub numbers_apart : List Float → List Float → ℕ
numbers_apart a b = apart_by same_number a b

abbrev pub bytes_apart : List ℕ → List ℕ → ℕ
bytes_apart a b = apart_by eqb a b
