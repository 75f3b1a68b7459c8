-- Laws of f32 numbers. (1) `magnitude_kept`, `magnitude_turned`: the larger of m and 0 - m is the magnitude of m.
-- (2) `infinite_plain`, `either_plain`, `lesser_plain`: the lesser of a magnitude and a plain number is plain.
-- (3) `sum_sided`: a number stays on its side of zero when one that leans there is added to it.
-- (4) `product_leans`: a factor above zero with a sign put on it, times a plain number, leans to that sign.
-- (5) `tied`: two magnitudes, neither below the other, are one. Assumes nothing.
use mathlib.Core.Path.{◌≡◌, refl, sym, ap, ◌∙◌}
use mathlib.Core.Bool.{Bool, true, false, not, ◌&&◌, beq, cond, and-true, and-false, true≢false, false≢true}
use Prim.Native.Nat.{ℕ, zero, suc, ◌+◌, ◌-◌, ◌*◌, ◌/◌, ◌%◌, ◌^◌, ◌≤◌, ◌<◌}
use native.Mathlib.Nat.{zero-lt-suc, le_of_suc-le-suc, lt_of_not-le, not-le_of_lt, zero-add, add-zero, add-mul}
use native.Mathlib.Nat.{zero-mul, one-mul, mul-one, mul_comm, mul_assoc, mul_left_comm, mul_right_comm, mul-pos}
use native.Mathlib.Nat.{mul-le-mul_right, mul-lt-mul_of_pos_right, lt_of_mul-lt-mul_right, eq_of_mul-eq-mul_right}
use native.Mathlib.Omega.{arith}
use native.Mathlib.Decide.{dec_lt}
use lib.IntN.{ℤ, pos, negsuc}
use lib.Dec.{T, eqb, ltb, leb, leb→le, ltb→lt, lt→ltb, eqb→eq}
use lib.Pow.{pow-add, pow_pos, pow-lt}
use lib.Ieee.{Float, nan, inf, fin, Format, binary32, prec, emax, low, hid, top, up, down, unlike, size, odd, units, round}
use lib.Ieee.{sum, add, sub, mul, lt, fits, is_nan, of_bits, to_bits}
use lib.Ieee.Digits.{back}
use lib.Ieee.Fits.{up_pos, down_pos, round_is, round-fits, add-fits}
use lib.Ieee.Bits.{is_true, of_bits-to_bits}
use lib.Ieee.Exact.{HasValue, odd_sign, round_exact}
use lib.Ieee.Nearest.{div_same}
use lib.Ieee.Order.{round_mono}
use lib.Ieee.Positive as Positive
use lib.Ieee.Positive.{above_of_le, first_pos}
use borrow.Author.Tests.{lt-ltb, le-ltb, ltb-true, ltb-false, ne_eqb}
use Rattle.laws.specs.Floats.{nought, negative, magnitude, signed}

-- ---- a value that fits is written in one way, since its bit pattern is read off its sign and its fraction a / c
abbrev pattern : Format → Bool → ℕ → ℕ → ℕ
pattern f s a c =
    let n = a * 2 ^ low f / c in
    let k = size n - prec f in
    cond s (top f) 0 + k * hid f + n / 2 ^ k

value_bits : (f : Format) (x : Float) (s : Bool) (a c : ℕ) → 0 < c → HasValue x s a c → to_bits f x ≡ pattern f s a c
unfolding to_bits
value_bits f (fin t m e) s a c C v =
    let n : m * up e * 2 ^ low f / down e ≡ a * 2 ^ low f / c =
    div_same (m * up e * 2 ^ low f) (down e) (a * 2 ^ low f) c (down_pos e) C
    (mul_right_comm (m * up e) (2 ^ low f) c ∙ ap (λ z. z * 2 ^ low f) v.1 ∙ mul_right_comm a (down e) (2 ^ low f)) in
    rw (v.0, n)
value_bits f nan s a c C v = elim v [ ]
value_bits f (inf _) s a c C v = elim v [ ]

one_value : (f : Format) (x y : Float) (s : Bool) (a c : ℕ) → 0 < c → T (fits f x) → T (fits f y)
    → HasValue x s a c → HasValue y s a c → x ≡ y
one_value f x y s a c C p q v w =
    sym (of_bits-to_bits f x p)
    ∙ ap (of_bits f) (value_bits f x s a c C v ∙ sym (value_bits f y s a c C w))
    ∙ of_bits-to_bits f y q

-- ---- a fraction that equals a value which fits is rounded to that value
record Small (f : Format) (m : ℕ) (e : ℤ) : Type 0 where
  short : m < 2 ^ prec f
  fine : down e ≤ 2 ^ low f
  below : m * up e < 2 ^ suc (emax f) * down e

last_three : (a b c d : Bool) → T (a && b && c && d) → T b × T c × T d
last_three true true true d t = (tt, tt, t)
last_three true true false d t = absurd t
last_three true false c d t = absurd t
last_three false b c d t = absurd t

small : (f : Format) (s : Bool) (m : ℕ) (e : ℤ) → T (fits f (fin s m e)) → Small f m e
unfolding fits
small f s zero e t = record {
  short = pow_pos (prec f);
  fine = omega (arith, mul-le-mul_right (down e) (up_pos e), eqb→eq (up e * down e) 1 t, pow_pos (low f));
  below = rw zero-mul (mul-pos (pow_pos (suc (emax f))) (down_pos e));
}
small f s (suc m) e t =
    let top : ℕ = 2 ^ suc (emax f) * down e in
    let (short, fine, below) =
    last_three (eqb (suc m % 2) 1) (ltb (suc m) (2 ^ prec f)) (leb (down e) (2 ^ low f)) (ltb (suc m * up e) top) t in
    record {
      short = ltb→lt (suc m) (2 ^ prec f) short;
      fine = leb→le (down e) (2 ^ low f) fine;
      below = ltb→lt (suc m * up e) top below;
    }

-- 2 ^ e is a power of two times 2 ^ -l
in_units : (l : ℕ) (e : ℤ) → down e ≤ 2 ^ l → (j : ℕ) × (up e * 2 ^ l ≡ 2 ^ j * down e)
in_units l (pos k) h = (k + l, sym (pow-add 2 k l) ∙ sym (mul-one (2 ^ (k + l))))
in_units l (negsuc k) h =
    let g : suc k ≤ l = le_of_suc-le-suc (lt_of_not-le (λ g. not-le_of_lt (pow-lt g) h)) in
    (l - suc k, one-mul (2 ^ l) ∙ ap (λ z. 2 ^ z) (sym (back l (suc k) g)) ∙ pow-add 2 (l - suc k) (suc k))

rounds_back : (f : Format) (s : Bool) (m : ℕ) (e : ℤ) (a c : ℕ) → T (fits f (fin s m e)) → 0 < c → m * up e * c ≡ a * down e
    → round f s a c ≡ fin s m e
rounds_back f s m e a c t C v =
    let h : Small f m e = small f s m e t in
    let l : ℕ = 2 ^ low f in
    let (j, u) = in_units (low f) e h.fine in
    let same : m * up e * l ≡ m * 2 ^ j * down e = mul_assoc m (up e) l ∙ ap (λ z. m * z) u ∙ sym (mul_assoc m (2 ^ j) (down e)) in
    let most : 2 ^ suc (emax f) * down e * l ≡ 2 ^ (low f + suc (emax f)) * down e =
    rw (pow-add 2 (low f) (suc (emax f))) (simp (mul_assoc, mul_comm, mul_left_comm)) in
    let less : m * 2 ^ j < 2 ^ (low f + suc (emax f)) =
    lt_of_mul-lt-mul_right (down e) (omega (arith, mul-lt-mul_of_pos_right h.below (pow_pos (low f)), same, most)) in
    let exact : a * l ≡ m * 2 ^ j * c =
    eq_of_mul-eq-mul_right (down e) (down_pos e) (a * l) (m * 2 ^ j * c)
    (mul_right_comm a l (down e)
    ∙ ap (λ z. z * l) (sym v)
    ∙ mul_right_comm (m * up e) c l
    ∙ ap (λ z. z * c) same
    ∙ mul_right_comm (m * 2 ^ j) (down e) c) in
    one_value f (round f s a c) (fin s m e) s a c C (round-fits f s a c) t (round_exact f s a c m j C h.short less exact) (refl, v)

any_sign : (f : Format) (s t : Bool) (m : ℕ) (e : ℤ) → T (fits f (fin s m e)) → T (fits f (fin t m e))
unfolding fits
any_sign f s t zero e h = h
any_sign f s t (suc m) e h = h

-- ---- the sum of ±a / c and ±b / c where neither is on the other side than r: each that is not zero has the sign r
-- the sum's sign: a zero is -0 where both are negative, and +0 otherwise
abbrev joint : Bool → ℕ → Bool → ℕ → Bool
joint s a t b = cond (beq s t) s (cond (ltb a b) t (s && ltb b a))

module _ (a b : ℕ) (r : Bool) where
  -- of two numbers with unlike signs one is 0
  one_nil : (s t : Bool) → (0 < a → s ≡ r) → (0 < b → t ≡ r) → (s ≡ t → ⊥) → a + b ≡ b - a + (a - b)
  one_nil s t p q n = by (dec_lt 0 a) (dec_lt 0 b)
    where
      by : Dec (0 < a) → Dec (0 < b) → a + b ≡ b - a + (a - b)
      by (yes x) (yes y) = absurd (n (p x ∙ sym (q y)))
      by (yes x) (no y) = omega arith
      by (no x) y = omega arith

  larger : (s t : Bool) → (a < b → t ≡ r) → (b ≤ a → s ≡ r) → cond (ltb a b) t s ≡ r
  larger s t p q = by (ltb a b) refl
    where
      by : (x : Bool) → ltb a b ≡ x → cond x t s ≡ r
      by true e = p (ltb-true a b e)
      by false e = q (ltb-false a b e)

  either : (s : Bool) → (0 < a → s ≡ r) → (0 < b → s ≡ r) → 0 < a + b → s ≡ r
  either s p q h = elim (dec_lt 0 a) [ yes x ↦ p x | no x ↦ q (omega arith) ]

  joint_side : (s t : Bool) → (0 < a → s ≡ r) → (0 < b → t ≡ r) → 0 < a + b → joint s a t b ≡ r
  joint_side true true p q h = either true p q h
  joint_side true false p q h =
      larger (ltb b a) false (λ l. q (omega arith))
      (λ l. rw (lt-ltb b a (omega (arith, one_nil true false p q true≢false))) (p (omega arith)))
  joint_side false true p q h = larger false true (λ l. q (omega arith)) (λ l. p (omega arith))
  joint_side false false p q h = either false p q h

apart : (f : Format) (s t : Bool) (a b c : ℕ) → a + b ≡ b - a + (a - b)
    → cond (ltb a b) (round f t (b - a) c) (round f s (a - b) c) ≡ round f (cond (ltb a b) t s) (a + b) c
apart f s t a b c h = by (ltb a b) refl
  where
    by : (x : Bool) → ltb a b ≡ x → cond x (round f t (b - a) c) (round f s (a - b) c) ≡ round f (cond x t s) (a + b) c
    by true e = ap (λ n. round f t n c) (omega (arith, ltb-true a b e))
    by false e = ap (λ n. round f s n c) (omega (arith, ltb-false a b e))

sum_joint : (f : Format) (r s t : Bool) (a b c : ℕ) → (0 < a → s ≡ r) → (0 < b → t ≡ r)
    → sum f s a t b c ≡ round f (joint s a t b) (a + b) c
unfolding sum
sum_joint f r true true a b c p q = refl
sum_joint f r true false a b c p q = apart f (ltb b a) false a b c (one_nil a b r true false p q true≢false)
sum_joint f r false true a b c p q = apart f false true a b c (one_nil a b r false true p q false≢true)
sum_joint f r false false a b c p q = refl

-- ---- (1) the magnitude: 0 - m is exact
sub_opened : (f : Format) (s : Bool) (m : ℕ) (e : ℤ)
    → sub f nought (fin s m e) ≡ sum f false (0 * down e) (not s) (m * up e * 1) (1 * down e)
unfolding sub
sub_opened f s m e = refl

nought_less : (f : Format) (s : Bool) (m : ℕ) (e : ℤ) → T (fits f (fin s m e))
    → sub f nought (fin s m e) ≡ fin (joint false 0 (not s) (m * up e)) m e
nought_less f s m e t =
    let z : Bool = joint false 0 (not s) (m * up e) in
    sub_opened f s m e
    ∙ rw (zero-mul (down e), mul-one (m * up e), one-mul (down e))
    (sum_joint f (not s) false (not s) 0 (m * up e) (down e) (λ l. absurd (omega arith)) (λ l. refl)
    ∙ rw (zero-add (m * up e)) (rounds_back f z m e (m * up e) (down e) (any_sign f s z m e t) (down_pos e) refl))

pub magnitude_kept : (m : Float) → fits binary32 m ≡ true → lt (sub binary32 nought m) m ≡ true → m ≡ magnitude m
unfolding magnitude lt
magnitude_kept nan h l = refl
magnitude_kept (inf true) h l = unfold sub in absurd (false≢true l)
magnitude_kept (inf false) h l = refl
magnitude_kept (fin true m e) h l = absurd (false≢true (rw (nought_less binary32 true m e (rw h tt)) at l))
magnitude_kept (fin false m e) h l = refl

pub magnitude_turned : (m : Float) → fits binary32 m ≡ true → lt (sub binary32 nought m) m ≡ false
    → sub binary32 nought m ≡ magnitude m
unfolding magnitude lt
magnitude_turned nan h l = unfold sub in refl
magnitude_turned (inf true) h l = unfold sub in refl
magnitude_turned (inf false) h l = unfold sub in absurd (true≢false l)
magnitude_turned (fin true m e) h l = nought_less binary32 true m e (rw h tt)
magnitude_turned (fin false m e) h l =
    let z : sub binary32 nought (fin false m e) ≡ fin (joint false 0 true (m * up e)) m e = nought_less binary32 false m e (rw h tt) in
    z ∙ by (ltb 0 (m * up e)) refl (rw z at l)
  where
    by : (x : Bool) → ltb 0 (m * up e) ≡ x → lt (fin (cond x true false) m e) (fin false m e) ≡ false
        → fin (cond x true false) m e ≡ fin false m e
    by true k l =
        let p : 0 < m * up e * down e = mul-pos (ltb-true 0 (m * up e) k) (down_pos e) in
        absurd (omega (arith, ltb-false 0 (m * up e * down e + m * up e * down e) l))
    by false k l = refl

-- ---- the side of zero that a number is on
-- a number, neither NaN nor below zero
pub record Plain (x : Float) : Type 0 where
  pub number : is_nan x ≡ false
  pub above : negative x ≡ false

-- an f32 number that is negative exactly where s says
pub record Sided (s : Bool) (x : Float) : Type 0 where
  pub number : is_nan x ≡ false
  pub side : negative x ≡ s
  pub fit : fits binary32 x ≡ true

-- a number that is not above zero (s true), or not below it (s false); zeros of either sign are both
pub record Leans (s : Bool) (x : Float) : Type 0 where
  pub number : is_nan x ≡ false
  pub side : lt (cond s nought x) (cond s x nought) ≡ false

-- a finite f32 number above zero
pub record Factor (x : Float) : Type 0 where
  pub above : lt nought x ≡ true
  pub finite : lt x (inf false) ≡ true
  pub fit : fits binary32 x ≡ true

-- `Leans`, read off the number: it is a zero, or it has the sign s
abbrev Toward : Bool → Float → Type 0
Toward s nan = ⊥
Toward s (inf t) = t ≡ s
Toward s (fin t m e) = 0 < m → t ≡ s

-- neither NaN nor a zero
abbrev nonzero : Float → Bool
nonzero x = Positive.above (magnitude x)

-- what `lt` says of a number and zero: it is not a zero, and its sign is not s
abbrev beyond : Bool → Float → Bool
beyond s nan = false
beyond s (inf t) = unlike s t
beyond s (fin t m e) = unlike s t && ltb 0 m

above_zero : (m : ℕ) (e : ℤ) → ltb 0 (m * up e) ≡ ltb 0 m
above_zero zero e = rw zero-mul
above_zero (suc m) e = lt-ltb 0 (suc m * up e) (mul-pos (zero-lt-suc m) (up_pos e)) ∙ sym (lt-ltb 0 (suc m) (zero-lt-suc m))

beyond_is : (s : Bool) (x : Float) → lt (cond s nought x) (cond s x nought) ≡ beyond s x
unfolding lt
beyond_is true nan = refl
beyond_is false nan = refl
beyond_is true (inf true) = refl
beyond_is true (inf false) = refl
beyond_is false (inf true) = refl
beyond_is false (inf false) = refl
beyond_is true (fin true m e) = refl
beyond_is true (fin false m e) = rw (zero-mul (down e), mul-one (m * up e)) (above_zero m e)
beyond_is false (fin true m e) = rw (zero-mul (down e), mul-one (m * up e), add-zero (m * up e)) (above_zero m e)
beyond_is false (fin false m e) = le-ltb (m * up e * 1) (0 * down e) (omega (arith, zero-mul (down e)))

beq_self : (s : Bool) → beq s s ≡ true
beq_self true = refl
beq_self false = refl

like : (s t : Bool) → unlike s t ≡ false → t ≡ s
like true true h = refl
like true false h = absurd (true≢false h)
like false true h = absurd (true≢false h)
like false false h = refl

toward : (s : Bool) (x : Float) → is_nan x ≡ false → lt (cond s nought x) (cond s x nought) ≡ false → Toward s x
unfolding is_nan
toward s nan n h = absurd (true≢false n)
toward s (inf t) n h = like s t (sym (beyond_is s (inf t)) ∙ h)
toward s (fin t m e) n h =
    λ l. like s t (sym (and-true (unlike s t)) ∙ (rw (beyond_is s (fin t m e), lt-ltb 0 m l) at h))

toward_number : (s : Bool) (x : Float) → Toward s x → is_nan x ≡ false
unfolding is_nan
toward_number s (inf t) h = refl
toward_number s (fin t m e) h = refl
toward_number s nan h = elim h [ ]

not_beyond : (s : Bool) (x : Float) → Toward s x → beyond s x ≡ false
not_beyond s (inf t) h = rw (h, beq_self s)
not_beyond s (fin t m e) h = by (dec_lt 0 m)
  where
    by : Dec (0 < m) → beyond s (fin t m e) ≡ false
    by (yes l) = rw (h l, beq_self s)
    by (no l) = rw (le-ltb 0 m (omega arith)) (and-false (unlike s t))
not_beyond s nan h = elim h [ ]

toward_leans : (s : Bool) (x : Float) → Toward s x → Leans s x
toward_leans s x h = record { number = toward_number s x h; side = beyond_is s x ∙ not_beyond s x h }

plain_toward : (x : Float) → Plain x → Toward false x
unfolding negative
plain_toward x P = toward false x P.number P.above

-- ---- a rounded fraction is on the side of its sign
value_toward : (x : Float) (s : Bool) (a c : ℕ) → HasValue x s a c → Toward s x
value_toward (fin t m e) s a c v = λ l. v.0
value_toward nan s a c v = elim v [ ]
value_toward (inf _) s a c v = elim v [ ]

units_toward : (f : Format) (s : Bool) (q k : ℕ) → Toward s (units f s q k)
unfolding units
units_toward f s q k = by (ltb (q * 2 ^ k) (2 ^ (low f + suc (emax f))))
  where
    by : (b : Bool) → Toward s (cond b (odd (suc (prec f)) s q k (low f)) (inf s))
    by true = value_toward (odd (suc (prec f)) s q k (low f)) s (q * 2 ^ k) (2 ^ low f) (odd_sign (suc (prec f)) s q k (low f))
    by false = refl

round_toward : (f : Format) (r s : Bool) (a c : ℕ) → 0 < c → (0 < a → s ≡ r) → Toward r (round f s a c)
round_toward f r s a c C h = by (dec_lt 0 a)
  where
    by : Dec (0 < a) → Toward r (round f s a c)
    by (yes l) = rw (h l, round_is f r a c) (units_toward f r _ _)
    by (no l) =
        let nil : 0 * up (pos 0) * c ≡ a * down (pos 0) = omega (arith, zero-mul c) in
        rw (rounds_back f s 0 (pos 0) a c (unfold fits in tt) C nil) (λ k. absurd (omega arith))

-- ---- (4) a factor above zero, with a sign put on it, times a plain number
signed_is : (s : Bool) → signed s ≡ fin s 1 (pos 0)
signed_is true = refl
signed_is false = refl

turned : (s : Bool) → unlike false s ≡ s
turned true = refl
turned false = refl

unturned : (s : Bool) → unlike s false ≡ s
unturned true = refl
unturned false = refl

mul_opened : (f : Format) (s : Bool) (m : ℕ) (e : ℤ) (t : Bool) (n : ℕ) (d : ℤ)
    → mul f (fin s m e) (fin t n d) ≡ round f (unlike s t) (m * up e * (n * up d)) (down e * down d)
unfolding mul
mul_opened f s m e t n d = refl

signed_factor : (f : Format) (s : Bool) (m : ℕ) (e : ℤ) → T (fits f (fin false m e)) → mul f (fin false m e) (signed s) ≡ fin s m e
signed_factor f s m e t =
    rw (signed_is s, mul_opened f false m e s 1 (pos 0), turned s, mul-one (m * up e), mul-one (down e))
    (rounds_back f s m e (m * up e) (down e) (any_sign f false s m e t) (down_pos e) refl)

second_pos : (a b : ℕ) → 0 < a * b → 0 < b
second_pos a b h = first_pos b a (rw (mul_comm b a) h)

product_toward : (f : Format) (s : Bool) (m : ℕ) (e : ℤ) (x : Float) → 0 < m → Toward false x → Toward s (mul f (fin s m e) x)
product_toward f s m e (inf t) M h = unfold mul in rw (ne_eqb m 0 (λ z. omega arith), h) (unturned s)
product_toward f s m e (fin t n d) M h =
    rw (mul_opened f s m e t n d)
    (round_toward f s (unlike s t) (m * up e * (n * up d)) (down e * down d) (mul-pos (down_pos e) (down_pos d))
    (λ l. rw (h (first_pos n (up d) (second_pos (m * up e) (n * up d) l))) (unturned s)))
product_toward f s m e nan M h = elim h [ ]

pub product_leans : (factor x : Float) (s : Bool) → Factor factor → Plain x → Leans s (mul binary32 (mul binary32 factor (signed s)) x)
unfolding lt
product_leans nan x s F P = absurd (false≢true F.above)
product_leans (inf true) x s F P = absurd (false≢true F.above)
product_leans (inf false) x s F P = absurd (false≢true F.finite)
product_leans (fin true m e) x s F P = absurd (false≢true F.above)
product_leans (fin false m e) x s F P =
    let M : 0 < m = first_pos m (up e) (omega (arith, ltb-true (0 * down e) (m * up e * 1) F.above)) in
    rw (signed_factor binary32 s m e (rw F.fit tt))
    (toward_leans s (mul binary32 (fin s m e) x) (product_toward binary32 s m e x M (plain_toward x P)))

-- ---- a fraction that is no less than a nonzero value which fits is not rounded to zero
odd_magnitude : (d : ℕ) (s : Bool) (q k l : ℕ) → magnitude (odd d s q k l) ≡ odd d false q k l
unfolding odd magnitude
odd_magnitude d s zero k l = refl
odd_magnitude d s (suc q) k l = refl

units_magnitude : (f : Format) (s : Bool) (q k : ℕ) → magnitude (units f s q k) ≡ units f false q k
unfolding units magnitude
units_magnitude f s q k = by (ltb (q * 2 ^ k) (2 ^ (low f + suc (emax f))))
  where
    by : (b : Bool) → magnitude (cond b (odd (suc (prec f)) s q k (low f)) (inf s))
        ≡ cond b (odd (suc (prec f)) false q k (low f)) (inf false)
    by true = odd_magnitude (suc (prec f)) s q k (low f)
    by false = refl

round_magnitude : (f : Format) (s : Bool) (a c : ℕ) → magnitude (round f s a c) ≡ round f false a c
round_magnitude f s a c = rw (round_is f s a c, round_is f false a c) (units_magnitude f s _ _)

round_nonzero : (f : Format) (s t : Bool) (m : ℕ) (e : ℤ) (a c : ℕ) → T (fits f (fin s m e)) → 0 < m → 0 < c
    → m * up e * c ≤ a * down e → T (nonzero (round f t a c))
round_nonzero f s t m e a c h M C l =
    let own : round f false (m * up e) (down e) ≡ fin false m e =
    rounds_back f false m e (m * up e) (down e) (any_sign f s false m e h) (down_pos e) refl in
    rw (round_magnitude f t a c)
    (above_of_le (fin false m e) (round f false a c) (lt→ltb 0 m M) (rw own at (round_mono f (m * up e) (down e) a c (down_pos e) C l)))

-- ---- (3) a sum of two numbers on one side is on that side, and it is no zero where the first is none
add_opened : (f : Format) (s : Bool) (m : ℕ) (e : ℤ) (t : Bool) (n : ℕ) (d : ℤ)
    → add f (fin s m e) (fin t n d) ≡ sum f s (m * up e * down d) t (n * up d * down e) (down e * down d)
unfolding add
add_opened f s m e t n d = refl

module _ (f : Format) (r s : Bool) (m : ℕ) (e : ℤ) (t : Bool) (n : ℕ) (d : ℤ) (p : 0 < m → s ≡ r) (q : 0 < n → t ≡ r) where
  abbrev a : ℕ
  a = m * up e * down d

  abbrev b : ℕ
  b = n * up d * down e

  abbrev c : ℕ
  c = down e * down d

  c_pos : 0 < c
  c_pos = mul-pos (down_pos e) (down_pos d)

  first_side : 0 < a → s ≡ r
  first_side l = p (first_pos m (up e) (first_pos (m * up e) (down d) l))

  second_side : 0 < b → t ≡ r
  second_side l = q (first_pos n (up d) (first_pos (n * up d) (down e) l))

  finite_sum : add f (fin s m e) (fin t n d) ≡ round f (joint s a t b) (a + b) c
  finite_sum = add_opened f s m e t n d ∙ sum_joint f r s t a b c first_side second_side

  finite_toward : Toward r (add f (fin s m e) (fin t n d))
  finite_toward = rw finite_sum (round_toward f r (joint s a t b) (a + b) c c_pos (joint_side a b r s t first_side second_side))

  finite_nonzero : T (fits f (fin s m e)) → 0 < m → T (nonzero (add f (fin s m e) (fin t n d)))
  finite_nonzero h M =
      let own : m * up e * c ≡ a * down e = simp (mul_assoc, mul_comm, mul_left_comm) in
      let least : m * up e * c ≤ (a + b) * down e = omega (arith, own, add-mul a b (down e)) in
      rw finite_sum (round_nonzero f s (joint s a t b) m e (a + b) c h M c_pos least)

sum_toward : (f : Format) (r : Bool) (x y : Float) → Toward r x → Toward r y → Toward r (add f x y)
sum_toward f r (inf s) (inf t) p q = unfold add in rw (p, q, beq_self r)
sum_toward f r (inf s) (fin t n d) p q = unfold add in p
sum_toward f r (fin s m e) (inf t) p q = unfold add in q
sum_toward f r (fin s m e) (fin t n d) p q = finite_toward f r s m e t n d p q
sum_toward f r nan y p q = elim p [ ]
sum_toward f r (inf s) nan p q = elim q [ ]
sum_toward f r (fin s m e) nan p q = elim q [ ]

sum_nonzero : (f : Format) (r : Bool) (x y : Float) → T (fits f x) → T (nonzero x) → Toward r x → Toward r y → T (nonzero (add f x y))
unfolding magnitude
sum_nonzero f r (inf s) (inf t) h z p q = unfold add in rw (p, q, beq_self r) tt
sum_nonzero f r (inf s) (fin t n d) h z p q = unfold add in tt
sum_nonzero f r (fin s m e) (inf t) h z p q = unfold add in tt
sum_nonzero f r (fin s m e) (fin t n d) h z p q = finite_nonzero f r s m e t n d p q h (ltb→lt 0 m z)
sum_nonzero f r nan y h z p q = elim z [ ]
sum_nonzero f r (inf s) nan h z p q = elim q [ ]
sum_nonzero f r (fin s m e) nan h z p q = elim q [ ]

-- below zero: on the side of the negative numbers, and no zero
below_toward : (x : Float) → beyond false x ≡ true → Toward true x × T (nonzero x)
unfolding magnitude
below_toward nan h = absurd (false≢true h)
below_toward (inf true) h = (refl, tt)
below_toward (inf false) h = absurd (false≢true h)
below_toward (fin true m e) h = (λ l. refl, rw h tt)
below_toward (fin false m e) h = absurd (false≢true h)

toward_below : (x : Float) → Toward true x → T (nonzero x) → beyond false x ≡ true
unfolding magnitude
toward_below (inf t) p z = rw p
toward_below (fin t m e) p z = rw (p (ltb→lt 0 m z)) (is_true (ltb 0 m) z)
toward_below nan p z = elim p [ ]

sided_toward : (s : Bool) (x : Float) → Sided s x → Toward s x × (T s → T (nonzero x))
unfolding negative
sided_toward true x X = let (p, z) = below_toward x (sym (beyond_is false x) ∙ X.side) in (p, λ k. z)
sided_toward false x X = (toward false x X.number X.side, λ k. absurd k)

toward_side : (s : Bool) (x : Float) → Toward s x → (T s → T (nonzero x)) → negative x ≡ s
unfolding negative
toward_side true x p z = beyond_is false x ∙ toward_below x p (z tt)
toward_side false x p z = beyond_is false x ∙ not_beyond false x p

pub sum_sided : (s : Bool) (x y : Float) → Sided s x → Leans s y → Sided s (add binary32 x y)
sum_sided s x y X Y =
    let sum : Float = add binary32 x y in
    let (p, z) = sided_toward s x X in
    let q : Toward s y = toward s y Y.number Y.side in
    let h : Toward s sum = sum_toward binary32 s x y p q in
    record {
      number = toward_number s sum h;
      side = toward_side s sum h (λ k. sum_nonzero binary32 s x y (rw X.fit tt) (z k) p q);
      fit = is_true (fits binary32 sum) (add-fits binary32 x y);
    }

-- ---- (2) the lesser of a magnitude and a plain number
toward_plain : (x : Float) → Toward false x → Plain x
toward_plain x h = record { number = toward_number false x h; above = toward_side false x h (λ k. absurd k) }

pub infinite_plain : Plain (inf false)
infinite_plain = toward_plain (inf false) refl

pub either_plain : (b : Bool) (x y : Float) → Plain x → Plain y → Plain (cond b x y)
either_plain true x y P Q = P
either_plain false x y P Q = Q

pub lesser_plain : (m x : Float) → Plain x → Plain (cond (lt (magnitude m) x) (magnitude m) x)
unfolding lt magnitude
lesser_plain nan x P = P
lesser_plain (inf s) x P = either_plain (lt (inf false) x) (inf false) x infinite_plain P
lesser_plain (fin s m e) x P = either_plain (lt (fin false m e) x) (fin false m e) x (toward_plain (fin false m e) (λ l. refl)) P

-- ---- (5) two magnitudes, neither below the other
pub tied : (x y : Float) → fits binary32 x ≡ true → fits binary32 y ≡ true
    → is_nan (magnitude x) ≡ false → is_nan (magnitude y) ≡ false
    → lt (magnitude x) (magnitude y) ≡ false → lt (magnitude y) (magnitude x) ≡ false → magnitude x ≡ magnitude y
unfolding magnitude lt is_nan
tied nan y p q n o l r = absurd (true≢false n)
tied (inf s) nan p q n o l r = absurd (true≢false o)
tied (inf s) (inf t) p q n o l r = refl
tied (inf s) (fin t k d) p q n o l r = absurd (true≢false r)
tied (fin s m e) nan p q n o l r = absurd (true≢false o)
tied (fin s m e) (inf t) p q n o l r = absurd (true≢false l)
tied (fin s m e) (fin t k d) p q n o l r =
    let same : m * up e * down d ≡ k * up d * down e =
    omega (arith, ltb-false (m * up e * down d) (k * up d * down e) l, ltb-false (k * up d * down e) (m * up e * down d) r) in
    one_value binary32 (fin false m e) (fin false k d) false (k * up d) (down d) (down_pos d)
    (any_sign binary32 s false m e (rw p tt)) (any_sign binary32 t false k d (rw q tt)) (refl, same) (refl, refl)
