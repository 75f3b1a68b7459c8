-- The bits of a word, as tests: the laws of the operations on sets of rows. Assumes nothing.
use Rattle.std.proofs.Common.{◌≡◌, ℕ, zero, suc, ◌+◌, ◌-◌, ◌*◌, ◌/◌, ◌%◌, ◌^◌, ◌<◌, ◌≤◌, min, max, Bool, true, false, not, ◌&&◌, ◌||◌, eqb, leb, ltb, refl, sym, ap, ◌∙◌, bit_and, bit_or, w64, arith, lt-ltb, le-ltb, eq-eqb, ne_eqb}
use mathlib.Core.Bool.{and-true, or-true, or-false, true≢false}
use native.Mathlib.Decide.{ℕ_discrete, dec_lt}
use Rattle.std.specs.Int.{bit_at, bit_not, trailing_zeros}
use Rattle.std.proofs.lemmas.Nat.{and_le_l}
use Rattle.std.proofs.lemmas.Nat.Bits.{bit_at_and, bit_at_or, bit_at_not, bit_at-lt, bit_at-zero, bit_at_set_same, bit_at_set_other, bit_at_clear_same, bit_at_clear_other, bit_at-trailing_zeros, bit_at_ones, bit_at_ones_above, bit_at_above, bit_at_mask_inside, bit_at_mask_below, ones_shr, ones_shl, same_from_bits}
use Rattle.std.proofs.lemmas.Bool.{and_right, lt-leb, le-leb}
use Rattle.laws.proofs.Some.{Some}
use Rattle.growth.specs.declared.rows.RowSet.{RowSet}
use Rattle.growth.specs.Rows.{has}

-- bit i of n is 1
abbrev pub bit : ℕ → ℕ → Bool
bit n i = eqb (bit_at n i) 1

-- what an operation makes of two bits, by the four cases
of_bits : (f : ℕ → ℕ → ℕ) (g : Bool → Bool → Bool) → eqb (f 0 0) 1 ≡ g false false → eqb (f 0 1) 1 ≡ g false true
    → eqb (f 1 0) 1 ≡ g true false → eqb (f 1 1) 1 ≡ g true true → (x y : ℕ) → x < 2 → y < 2 → eqb (f x y) 1 ≡ g (eqb x 1) (eqb y 1)
of_bits f g a b c d zero zero h k = a
of_bits f g a b c d zero (suc zero) h k = b
of_bits f g a b c d (suc zero) zero h k = c
of_bits f g a b c d (suc zero) (suc zero) h k = d
of_bits f g a b c d (suc (suc x)) y h k = absurd (omega arith)
of_bits f g a b c d zero (suc (suc y)) h k = absurd (omega arith)
of_bits f g a b c d (suc zero) (suc (suc y)) h k = absurd (omega arith)

other_of : (x : ℕ) → x < 2 → eqb (1 - x) 1 ≡ not (eqb x 1)
other_of zero h = refl
other_of (suc zero) h = refl
other_of (suc (suc x)) h = absurd (omega arith)

pub or_bit : (a b i : ℕ) → bit (bit_or a b) i ≡ (bit a i || bit b i)
or_bit a b i = rw (bit_at_or a b i) (of_bits max (◌||◌) refl refl refl refl (bit_at a i) (bit_at b i) (bit_at-lt a i) (bit_at-lt b i))

pub and_bit : (a b i : ℕ) → bit (bit_and a b) i ≡ (bit a i && bit b i)
and_bit a b i = rw (bit_at_and a b i) (of_bits min (◌&&◌) refl refl refl refl (bit_at a i) (bit_at b i) (bit_at-lt a i) (bit_at-lt b i))

not_bit : (a i : ℕ) → a < 2 ^ 64 → i < 64 → bit (bit_not w64 a) i ≡ not (bit a i)
not_bit a i h k = rw (bit_at_not w64 a i h k) (other_of (bit_at a i) (bit_at-lt a i))

above_bit : (a i : ℕ) → a < 2 ^ 64 → 64 ≤ i → bit a i ≡ false
above_bit a i h k = rw (bit_at_above a 64 i h k)

pub without_bit : (a b i : ℕ) → a < 2 ^ 64 → b < 2 ^ 64 → bit (bit_and a (bit_not w64 b)) i ≡ (bit a i && not (bit b i))
without_bit a b i g h = and_bit a (bit_not w64 b) i ∙ by (dec_lt i 64)
  where
    by : Dec (i < 64) → (bit a i && bit (bit_not w64 b) i) ≡ (bit a i && not (bit b i))
    by (yes k) = ap (λ (t : Bool). bit a i && t) (not_bit b i h k)
    by (no k) = rw (above_bit a i g (omega arith))

pub zero_bit : (i : ℕ) → bit 0 i ≡ false
zero_bit i = rw (bit_at-zero i)

pub with_bit : (a r s : ℕ) → r < 64 → bit (bit_or a (1 * 2 ^ r % 2 ^ 64)) s ≡ (bit a s || eqb s r)
with_bit a r s h = by (ℕ_discrete s r)
  where
    by : Dec (s ≡ r) → bit (bit_or a (1 * 2 ^ r % 2 ^ 64)) s ≡ (bit a s || eqb s r)
    by (yes e) = rw (e, bit_at_set_same w64 a r h, eq-eqb r r refl) (sym (or-true (bit a r)))
    by (no n) = rw (bit_at_set_other w64 a r h s n, ne_eqb s r n) (sym (or-false (bit a s)))

from_bit : (k r : ℕ) → k < 64 → r < 64 → bit ((2 ^ 64 - 1) * 2 ^ k % 2 ^ 64) r ≡ leb k r
from_bit k r h l = rw (ones_shl 64 k (omega arith)) (by (dec_lt r k))
  where
    by : Dec (r < k) → bit (2 ^ 64 - 2 ^ k) r ≡ leb k r
    by (yes d) = rw (bit_at_mask_below k 64 r d, lt-leb k r d)
    by (no d) = rw (bit_at_mask_inside k 64 r (omega arith) l, le-leb k r (omega arith))

to_bit : (m r : ℕ) → m ≤ 64 → bit ((2 ^ 64 - 1) / 2 ^ (64 - m)) r ≡ ltb r m
to_bit m r h = by (dec_lt r m)
  where
    e : (2 ^ 64 - 1) / 2 ^ (64 - m) ≡ 2 ^ m - 1
    e = ones_shr 64 (64 - m) (omega arith) ∙ ap (λ (n : ℕ). 2 ^ n - 1) (omega arith)

    by : Dec (r < m) → bit ((2 ^ 64 - 1) / 2 ^ (64 - m)) r ≡ ltb r m
    by (yes l) = rw (e, bit_at_ones m r l, lt-ltb r m l)
    by (no l) = rw (e, bit_at_ones_above m r (omega arith), le-ltb r m (omega arith))

pub between_bit : (k m r : ℕ) → k < 64 → m ≤ 64 → bit (bit_and ((2 ^ 64 - 1) * 2 ^ k % 2 ^ 64) ((2 ^ 64 - 1) / 2 ^ (64 - m))) r ≡ (leb k r && ltb r m)
between_bit k m r h l = and_bit _ ((2 ^ 64 - 1) / 2 ^ (64 - m)) r ∙ by (dec_lt r 64)
  where
    by : Dec (r < 64) → (bit ((2 ^ 64 - 1) * 2 ^ k % 2 ^ 64) r && bit ((2 ^ 64 - 1) / 2 ^ (64 - m)) r) ≡ (leb k r && ltb r m)
    by (yes d) = rw (from_bit k r h d, to_bit m r l)
    by (no d) = rw (to_bit m r l, le-ltb r m (omega arith)) (and_right _ false refl ∙ sym (and_right (leb k r) false refl))

module _ (n : ℕ) (h : n < 2 ^ 64) (pos : 0 < n) where
  abbrev t : ℕ
  t = trailing_zeros w64 n

  abbrev rest : ℕ
  rest = bit_and n (bit_not w64 (1 * 2 ^ t % 2 ^ 64))

  pub lowest_low : t < 64
  lowest_low = (bit_at-trailing_zeros w64 n pos h).0

  pub lowest_had : bit n t ≡ true
  lowest_had = rw ((bit_at-trailing_zeros w64 n pos h).1)

  pub lowest_first : (s : ℕ) → s < t → bit n s ≡ false
  lowest_first s l = rw ((bit_at-trailing_zeros w64 n pos h).2 s l)

  pub lowest_others : (s : ℕ) → bit rest s ≡ (bit n s && not (eqb s t))
  lowest_others s = by (dec_lt s 64) (ℕ_discrete s t)
    where
      by : Dec (s < 64) → Dec (s ≡ t) → bit rest s ≡ (bit n s && not (eqb s t))
      by (no l) d = and_bit n (bit_not w64 (1 * 2 ^ t % 2 ^ 64)) s ∙ rw (above_bit n s h (omega arith))
      by (yes l) (yes e) = rw (e, bit_at_clear_same w64 n t lowest_low, eq-eqb t t refl) (sym (and_right (bit n t) false refl))
      by (yes l) (no w) = rw (bit_at_clear_other w64 n t lowest_low s l w, ne_eqb s t w) (sym (and-true (bit n s)))

  pub lowest_less : rest < n
  lowest_less = by (ℕ_discrete rest n)
    where
      by : Dec (rest ≡ n) → rest < n
      by (yes e) = absurd (omega (arith, ap (λ (x : ℕ). bit_at x t) e, bit_at_clear_same w64 n t lowest_low, (bit_at-trailing_zeros w64 n pos h).1))
      by (no w) = omega (arith, and_le_l n (bit_not w64 (1 * 2 ^ t % 2 ^ 64)))

-- the rows from one below q to one above it, of those below m
pub neighbours : (m q r : ℕ) {lo hi : ℕ} → r < m → lo ≡ q - 1 → hi ≡ min (q + 2) m
    → (leb lo r && ltb r hi) ≡ (eqb q r || eqb (q + 1) r || eqb (r + 1) q)
neighbours m q r {lo} {hi} h e f = by (ℕ_discrete q r) (ℕ_discrete (q + 1) r) (ℕ_discrete (r + 1) q)
  where
    inside : lo ≤ r → r < hi → (leb lo r && ltb r hi) ≡ true
    inside a b = rw (le-leb lo r a, lt-ltb r hi b)

    by : Dec (q ≡ r) → Dec (q + 1 ≡ r) → Dec (r + 1 ≡ q) → (leb lo r && ltb r hi) ≡ (eqb q r || eqb (q + 1) r || eqb (r + 1) q)
    by (yes a) b c = rw (eq-eqb q r a) (inside (omega arith) (omega arith))
    by (no a) (yes b) c = rw (ne_eqb q r a, eq-eqb (q + 1) r b) (inside (omega arith) (omega arith))
    by (no a) (no b) (yes c) = rw (ne_eqb q r a, ne_eqb (q + 1) r b, eq-eqb (r + 1) q c) (inside (omega arith) (omega arith))
    by (no a) (no b) (no c) = rw (ne_eqb q r a, ne_eqb (q + 1) r b, ne_eqb (r + 1) q c) (outside (dec_lt r q))
      where
        outside : Dec (r < q) → (leb lo r && ltb r hi) ≡ false
        outside (yes l) = rw (lt-leb lo r (omega arith))
        outside (no l) = rw (le-ltb r hi (omega arith)) (and_right (leb lo r) false refl)

-- a row of a set that is not empty
pub some_row : (rows : RowSet) → rows.bits < 2 ^ 64 → (rows.bits ≡ 0 → ⊥) → Some (has rows) 64
unfolding has
some_row rows h n =
    let pos : 0 < rows.bits = omega arith in
    record { at = trailing_zeros w64 rows.bits; below = lowest_low rows.bits h pos; has = lowest_had rows.bits h pos }

pub no_row : (rows : RowSet) → rows.bits ≡ 0 → (r : ℕ) → has rows r ≡ false
unfolding has
no_row rows e r = rw e (zero_bit r)

pub row_as : (a b : RowSet) → a.bits ≡ b.bits → (r : ℕ) → has a r ≡ has b r
unfolding has
row_as a b e r = rw e

bit_from : (x y : ℕ) → x < 2 → y < 2 → eqb x 1 ≡ eqb y 1 → x ≡ y
bit_from zero zero h k e = refl
bit_from zero (suc zero) h k e = absurd (true≢false (sym e))
bit_from (suc zero) zero h k e = absurd (true≢false e)
bit_from (suc zero) (suc zero) h k e = refl
bit_from (suc (suc x)) y h k e = absurd (omega arith)
bit_from zero (suc (suc y)) h k e = absurd (omega arith)
bit_from (suc zero) (suc (suc y)) h k e = absurd (omega arith)

pub same_rows : (a b : RowSet) → ((r : ℕ) → has a r ≡ has b r) → a.bits ≡ b.bits
unfolding has
same_rows a b e = same_from_bits a.bits b.bits (λ i. bit_from (bit_at a.bits i) (bit_at b.bits i) (bit_at-lt a.bits i) (bit_at-lt b.bits i) (e i))
