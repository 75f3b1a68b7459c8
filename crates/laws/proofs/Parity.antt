-- The laws of xor and of sums modulo 2 over a range. Assumes nothing.
use mathlib.Core.Path.{◌≡◌, refl, sym, ap, ap₂, ◌∙◌}
use mathlib.Core.Bool.{Bool, true, false, not, xor, ◌&&◌, beq}
use Prim.Native.Nat.{ℕ, zero, suc, ◌+◌, ◌*◌, ◌<◌}
use native.Mathlib.Omega.{arith}
use native.Mathlib.Decide.{ℕ_discrete}
use native.Mathlib.Nat.{add-zero, add-suc}
use native.Mathlib.Numerals.{add-one, one-add}
use lib.Dec.{eqb}
use borrow.Author.Tests.{eq-eqb, ne_eqb}
use Rattle.laws.specs.Range.{xor_sum}

pub xor_false : (a : Bool) → xor a false ≡ a
unfolding xor
xor_false true = refl
xor_false false = refl

pub xor_self : (a : Bool) → xor a a ≡ false
unfolding xor
xor_self true = refl
xor_self false = refl

pub xor_comm : (a b : Bool) → xor a b ≡ xor b a
unfolding xor
xor_comm true true = refl
xor_comm true false = refl
xor_comm false true = refl
xor_comm false false = refl

-- what the code's `^` and `!=` say of two bools
pub unlike_xor : (a b : Bool) → not (beq a b) ≡ xor a b
unfolding xor
unlike_xor true true = refl
unlike_xor true false = refl
unlike_xor false true = refl
unlike_xor false false = refl

pub xor_assoc : (a b c : Bool) → xor (xor a b) c ≡ xor a (xor b c)
unfolding xor
xor_assoc true true true = refl
xor_assoc true true false = refl
xor_assoc true false true = refl
xor_assoc true false false = refl
xor_assoc false true true = refl
xor_assoc false true false = refl
xor_assoc false false true = refl
xor_assoc false false false = refl

pub false_xor : (a : Bool) → xor false a ≡ a
false_xor a = xor_comm false a ∙ xor_false a

pub xor_cancel : (a b : Bool) → xor a (xor a b) ≡ b
xor_cancel a b = simp (← xor_assoc, xor_self, false_xor)

pub xor_left_comm : (a b c : Bool) → xor a (xor b c) ≡ xor b (xor a c)
xor_left_comm a b c = rw (← xor_assoc a b c, xor_comm a b) (xor_assoc b a c)

-- `simp xor_laws` proves two xors equal where each bit stands in both an odd number of times, or in both an even one
pub ruleset xor_laws = (xor_assoc, xor_comm, xor_left_comm, xor_self, xor_cancel, xor_false, false_xor)

-- two bits with xor 0 are equal
pub xor_equal : (a b : Bool) → xor a b ≡ false → a ≡ b
xor_equal a b e = rw (e, xor_false) at (xor_cancel a b)

pub eqb_comm : (a b : ℕ) → eqb a b ≡ eqb b a
eqb_comm a b = at (ℕ_discrete a b)
  where
    at : Dec (a ≡ b) → eqb a b ≡ eqb b a
    at (yes e) = ap₂ eqb e (sym e)
    at (no n) = ne_eqb a b n ∙ sym (ne_eqb b a (λ e. n (sym e)))

-- only the numbers below n tell
pub xor_sum_ext : (p q : ℕ → Bool) (n : ℕ) → ((i : ℕ) → i < n → p i ≡ q i) → xor_sum p n ≡ xor_sum q n
unfolding xor_sum
xor_sum_ext p q zero e = refl
xor_sum_ext p q (suc n) e = ap₂ xor (xor_sum_ext p q n (λ i h. e i (omega arith))) (e n (omega arith))

pub xor_sum_none : (p : ℕ → Bool) (n : ℕ) → ((i : ℕ) → i < n → p i ≡ false) → xor_sum p n ≡ false
unfolding xor_sum
xor_sum_none p zero e = refl
xor_sum_none p (suc n) e = ap₂ xor (xor_sum_none p n (λ i h. e i (omega arith))) (e n (omega arith)) ∙ xor_self false

-- only the last number tells
pub xor_sum_last : (p : ℕ → Bool) (n : ℕ) → ((i : ℕ) → i < n → p i ≡ false) → xor_sum p (suc n) ≡ p n
unfolding xor_sum
xor_sum_last p n e = rw (xor_sum_none p n e, false_xor)

pub xor_sum_xor : (p q : ℕ → Bool) (n : ℕ) → xor_sum (λ i. xor (p i) (q i)) n ≡ xor (xor_sum p n) (xor_sum q n)
unfolding xor_sum
xor_sum_xor p q zero = sym (xor_self false)
xor_sum_xor p q (suc n) = rw (xor_sum_xor p q n) (simp xor_laws)

pub xor_sum_add : (p : ℕ → Bool) (a n : ℕ) → xor_sum p (a + n) ≡ xor (xor_sum p a) (xor_sum (λ i. p (a + i)) n)
unfolding xor_sum
xor_sum_add p a zero = rw add-zero (sym (xor_false (xor_sum p a)))
xor_sum_add p a (suc n) = rw (add-suc, xor_sum_add p a n) (xor_assoc _ _ _)

-- the first term apart
pub xor_sum_first : (p : ℕ → Bool) (n : ℕ) → xor_sum p (suc n) ≡ xor (p 0) (xor_sum (λ i. p (suc i)) n)
unfolding xor_sum
xor_sum_first p n = simp (one-add, false_xor) at (xor_sum_add p 1 n)

-- two terms at a time
pub xor_sum_pairs : (p : ℕ → Bool) (n : ℕ) → xor_sum p (2 * n) ≡ xor_sum (λ j. xor (p (2 * j)) (p (2 * j + 1))) n
unfolding xor_sum
xor_sum_pairs p zero = refl
xor_sum_pairs p (suc n) =
    let e : 2 * suc n ≡ suc (suc (2 * n)) = omega arith in
    rw (e, xor_sum_pairs p n, add-one) (xor_assoc _ _ _)

-- where each term is an xor of neighbours, all but the two ends cancel
pub xor_sum_steps : (f : ℕ → Bool) (n : ℕ) → xor_sum (λ i. xor (f i) (f (suc i))) n ≡ xor (f 0) (f n)
unfolding xor_sum
xor_sum_steps f zero = sym (xor_self (f 0))
xor_sum_steps f (suc n) = rw (xor_sum_steps f n) (simp xor_laws)

-- the test lets the number k alone through
pub xor_sum_at : (f : ℕ → Bool) (k n : ℕ) → k < n → xor_sum (λ i. eqb i k && f i) n ≡ f k
unfolding xor_sum
xor_sum_at f k zero h = absurd (omega arith)
xor_sum_at f k (suc n) h = last (ℕ_discrete n k) (xor_sum_at f k n)
  where
    last : Dec (n ≡ k) → (k < n → xor_sum (λ i. eqb i k && f i) n ≡ f k)
        → xor (xor_sum (λ i. eqb i k && f i) n) (eqb n k && f n) ≡ f k
    last (yes e) earlier =
        rw (eq-eqb n k e, xor_sum_none (λ i. eqb i k && f i) n (λ i l. rw (ne_eqb i k (λ q. omega arith))), false_xor) (ap f e)
    last (no e) earlier = rw (ne_eqb n k e, earlier (omega arith), xor_false)
