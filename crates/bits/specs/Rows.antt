-- Rows of bits as bytes, in the terms of the loops that step through them. Assumes nothing.
use Rattle.std.specs.Prelude.{◌≡◌, Bool, cond, List, ℕ, ◌<◌, length, get_or}
use Rattle.matrix.specs.Encoding.{bit}
use Rattle.bits.specs.Sums.{differing}

-- the first z bytes are the bits f
abbrev pub Holds : ℕ → (ℕ → Bool) → List ℕ → Type 0
Holds z f l = (t : ℕ) → t < z → get_or l t 0 ≡ bit (f t)

-- a row of sums is taken out as a parity row is put in, and gives the next parity row
pub record Stepped (middle : Bool) (row next total row' next' : List ℕ) : Type 0 where
  pub put : (t : ℕ) → t < length row → get_or row' t 0 ≡ get_or next t 0
  pub made : (t : ℕ) → t < length row
      → get_or next' t 0 ≡ differing (differing (get_or row t 0) (get_or next t 0)) (cond middle (get_or total t 0) 0)
