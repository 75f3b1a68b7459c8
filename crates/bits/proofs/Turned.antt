-- A column that is turned is added in two runs. Assumes nothing.
use mathlib.Core.Path.{◌≡◌, refl, sym, ap, ap₂, ◌∙◌}
use mathlib.Core.List.{List, ◌++◌}
use Prim.Native.Nat.{ℕ, zero, suc, ◌+◌, ◌%◌, ◌-◌, ◌<◌, ◌≤◌, min}
use native.Mathlib.Omega.{arith}
use native.Mathlib.Decide.{dec_lt}
use lib.ListN.{length, get_or, take, drop, length-drop, get_or-append, get_or-eq_default}
use lib.Seq.{length-take-le, get_or-take, get_or-drop, get_or-append_right}
use Rattle.laws.proofs.Slots.{turned_low, turned_high}
use Rattle.bits.specs.Sums.{differing, Bits, Added, AddedTurned}

differing_zero : (a : ℕ) → a ≤ 1 → differing a 0 ≡ a
differing_zero zero h = refl
differing_zero (suc zero) h = refl
differing_zero (suc (suc a)) h = absurd (omega arith)

-- past the column's end nothing is added
past : (a : ℕ) (column : List ℕ) (p : ℕ) → a ≤ 1 → length column ≤ p → differing a (get_or column p 0) ≡ a
past a column p h l = rw (get_or-eq_default column 0 {n = p} l) (differing_zero a h)

-- the sums at the front get the column's bits from s on, those behind them its first s
module _ (s : ℕ) (l column low high : List ℕ) (s_lt : s < length l) (is_bits : Bits l) (long : length low ≡ length l - s)
    (A : Added (drop (min s (length column)) column) (take (length l - s) l) low)
    (B : Added (take (min s (length column)) column) (drop (length l - s) l) high) where
  Is : ℕ → Type 0
  Is t = get_or (low ++ high) t 0 ≡ differing (get_or l t 0) (get_or column ((t + s) % length l) 0)

  at_front : (t : ℕ) → t < length l - s → Dec (t + s < length column) → Is t
  unfolding Is
  at_front t h (yes k) =
      get_or-append low high 0 t (omega (arith, long)) ∙ A.0 t (omega (arith, length-drop (min s (length column)) column))
      ∙ ap₂ differing (get_or-take (length l - s) l t 0 h)
      (get_or-drop (min s (length column)) column t 0 ∙ ap (λ (j : ℕ). get_or column j 0) (omega (arith, turned_low t s (length l) h)))
  at_front t h (no k) =
      get_or-append low high 0 t (omega (arith, long)) ∙ A.1 t (omega (arith, length-drop (min s (length column)) column))
      ∙ get_or-take (length l - s) l t 0 h
      ∙ rw (turned_low t s (length l) h) (sym (past (get_or l t 0) column (t + s) (is_bits t (omega arith)) (omega arith)))

  behind : (t : ℕ) → t < length l → length l - s ≤ t → get_or (drop (length l - s) l) (t - (length l - s)) 0 ≡ get_or l t 0
  behind t h g = get_or-drop (length l - s) l (t - (length l - s)) 0 ∙ ap (λ (j : ℕ). get_or l j 0) (omega arith)

  place : (t : ℕ) → length l - s ≤ t → get_or (low ++ high) t 0 ≡ get_or high (t - (length l - s)) 0
  place t g = get_or-append_right low high t 0 (omega (arith, long)) ∙ ap (λ (j : ℕ). get_or high j 0) (omega (arith, long))

  at_back : (t : ℕ) → t < length l → length l - s ≤ t → Dec (t + s - length l < length column) → Is t
  unfolding Is
  at_back t h g (yes k) =
      let u = t - (length l - s) in
      let inside : u < min s (length column) = omega arith in
      place t g ∙ B.0 u (omega (arith, inside, length-take-le (min s (length column)) column (omega arith)))
      ∙ ap₂ differing (behind t h g)
      (get_or-take (min s (length column)) column u 0 inside ∙ ap (λ (j : ℕ). get_or column j 0) (omega (arith, turned_high t s (length l) h s_lt g)))
  at_back t h g (no k) =
      let u = t - (length l - s) in
      place t g ∙ B.1 u (omega (arith, length-take-le (min s (length column)) column (omega arith)))
      ∙ behind t h g
      ∙ rw (turned_high t s (length l) h s_lt g)
      (sym (past (get_or l t 0) column (t + s - length l) (is_bits t h) (omega arith)))

  in_two : AddedTurned s column l (low ++ high)
  unfolding Is
  in_two t h = by (dec_lt t (length l - s))
    where
      by : Dec (t < length l - s) → Is t
      by (yes k) = at_front t k (dec_lt (t + s) (length column))
      by (no k) = at_back t h (omega arith) (dec_lt (t + s - length l) (length column))

pub turned : (s n : ℕ) (l column low high low' high' front back : List ℕ) → s < length l → Bits l → n ≡ min s (length column)
    → low ≡ take (length l - s) l → high ≡ drop (length l - s) l → front ≡ take n column → back ≡ drop n column
    → length low' ≡ length low → Added back low low' → Added front high high' → AddedTurned s column l (low' ++ high')
turned s n l column low high low' high' front back s_lt is_bits m a b c d long A B =
    in_two s l column low' high' s_lt is_bits
    (long ∙ ap length a ∙ length-take-le (length l - s) l (omega arith))
    (rw (a, d, m) at A) (rw (b, c, m) at B)
