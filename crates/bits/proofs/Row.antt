-- Rows of bits: a list that is written from the front, and the sum of one row more. Assumes nothing.
use mathlib.Core.Path.{◌≡◌, sym, ap₂, ◌∙◌, ap}
use mathlib.Core.Bool.{Bool, xor}
use mathlib.Core.List.{List}
use Prim.Native.Nat.{ℕ, zero, suc, ◌+◌, ◌*◌, ◌-◌, ◌%◌, ◌<◌, ◌≤◌}
use native.Mathlib.Omega.{arith}
use native.Mathlib.Nat.{zero-add}
use native.Mathlib.Numerals.{add-one}
use native.Mathlib.Decide.{dec_lt}
use lib.Dec.{eqb}
use lib.ListN.{length, get_or, take, drop, length-drop}
use lib.Seq.{length-take-le, get_or-take, get_or-drop}
use Rattle.laws.specs.Range.{xor_sum}
use Rattle.laws.specs.Written.{rewritten}
use Rattle.laws.proofs.Written.{whole}
use Rattle.laws.proofs.Slots.{slot_lt, row_le, back_first, back_next}
use Rattle.matrix.specs.Encoding.{bit}
use Rattle.matrix.proofs.Words.{bit_of}
use Rattle.bits.specs.Sums.{differing, Bits, Added}
use Rattle.bits.specs.Rows.{Holds}
use Rattle.bits.proofs.Bytes.{differing_bits}

-- a list that holds f at its first n places, and the old elements behind
pub front_rewritten : (n : ℕ) (f : ℕ → ℕ) (l l' : List ℕ) → length l' ≡ length l → n ≤ length l → ((k : ℕ) → k < n → get_or l' k 0 ≡ f k)
    → ((k : ℕ) → n ≤ k → get_or l' k 0 ≡ get_or l k 0) → l' ≡ rewritten 0 n f l
front_rewritten n f l l' e h at off =
    whole 0 0 n f l (omega (arith, zero-add n))
    (record { long = e; at = λ s p. rw (zero-add s) (at s p); off = λ i g. by i g (dec_lt i n) })
  where
    by : (i : ℕ) → ((s : ℕ) → s < n → i ≡ 0 + s → ⊥) → Dec (i < n) → get_or l' i 0 ≡ get_or l i 0
    by i g (yes k) = absurd (g i k (sym (zero-add i)))
    by i g (no k) = off i (omega arith)

-- a list turned back by one
pub turned_back : (total first : List ℕ) (z k : ℕ) → k < z → get_or first 0 0 ≡ get_or total (z - 1) 0
    → ((j : ℕ) → 1 ≤ j → j < z → get_or first j 0 ≡ get_or total (j - 1) 0) → get_or first k 0 ≡ get_or total ((k + z - 1) % z) 0
turned_back total first z zero h a b = a ∙ ap (λ j. get_or total j 0) (sym (back_first z (omega arith)))
turned_back total first z (suc k) h a b = b (suc k) (omega arith) h ∙ ap (λ j. get_or total j 0) (sym (back_next (suc k) z (omega arith) h))

-- the sum of the first i rows
abbrev pub rows_upto : List ℕ → ℕ → ℕ → ℕ → Bool
rows_upto parity z i t = xor_sum (λ j. eqb (get_or parity (j * z + t) 0) 1) i

rows_more : (parity : List ℕ) (z i t : ℕ) → rows_upto parity z (i + 1) t ≡ xor (rows_upto parity z i t) (eqb (get_or parity (i * z + t) 0) 1)
unfolding xor_sum
rows_more parity z i t = rw add-one

-- a row lies within the rows
pub row_inside : (z i m n : ℕ) → i < m → m * z ≤ n → i * z + z ≤ n
row_inside z i m n h l = omega (arith, row_le z h)

-- row i is added
pub row_added : (parity : List ℕ) (z n i m : ℕ) (total total' : List ℕ) → Bits parity → i < m → m * z ≤ length parity → n ≡ z
    → Holds z (rows_upto parity z i) total → Added (take n (drop (i * z) parity)) total total' → Holds z (rows_upto parity z (i + 1)) total'
row_added parity z n i m total total' b h inside e H W t k =
    let l : i * z + t < m * z = slot_lt h k in
    let fits : n ≤ length (drop (i * z) parity) = omega (arith, row_le z h, length-drop (i * z) parity) in
    W.0 t (omega (arith, length-take-le n (drop (i * z) parity) fits))
    ∙ ap₂ differing (H t k)
    (get_or-take n (drop (i * z) parity) t 0 (omega arith) ∙ get_or-drop (i * z) parity t 0
    ∙ sym (bit_of (get_or parity (i * z + t) 0) (b (i * z + t) (omega arith))))
    ∙ differing_bits _ _ ∙ ap bit (sym (rows_more parity z i t))
