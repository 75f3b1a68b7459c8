-- Bits as bytes, and their sum. Assumes nothing.
use mathlib.Core.Path.{◌≡◌, refl}
use mathlib.Core.Bool.{Bool, true, false, xor}
use mathlib.Core.List.{List}
use Prim.Native.Nat.{ℕ, ◌<◌, ◌≤◌}
use native.Mathlib.Omega.{arith}
use native.Mathlib.Decide.{dec_lt}
use lib.ListN.{length, get_or, get_or-eq_default}
use Rattle.matrix.specs.Encoding.{bit}
use Rattle.bits.specs.Sums.{differing, Bits}

pub differing_bits : (a b : Bool) → differing (bit a) (bit b) ≡ bit (xor a b)
unfolding xor
differing_bits false false = refl
differing_bits false true = refl
differing_bits true false = refl
differing_bits true true = refl

pub bit_most : (b : Bool) → bit b ≤ 1
bit_most false = omega arith
bit_most true = omega arith

-- every byte of bits, and 0 past their end
pub bits_below : (l : List ℕ) (i : ℕ) → Bits l → get_or l i 0 ≤ 1
bits_below l i h = by (dec_lt i (length l))
  where
    by : Dec (i < length l) → get_or l i 0 ≤ 1
    by (yes k) = h i k
    by (no k) = rw (get_or-eq_default l 0 {n = i} (omega arith)) (omega arith)
