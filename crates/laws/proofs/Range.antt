-- The laws of tests and sums over a range. Assumes nothing.
use mathlib.Core.Path.{◌≡◌, refl, sym, ◌∙◌}
use mathlib.Core.Bool.{Bool, true, false, not, cond, ◌&&◌, and-true, and-false}
use Prim.Native.Nat.{ℕ, zero, suc, ◌+◌, ◌*◌, ◌<◌, ◌≤◌}
use native.Mathlib.Omega.{arith}
use native.Mathlib.Numerals.{add-one}
use native.Mathlib.Decide.{ℕ_discrete}
use native.Mathlib.Nat.{add-zero, add-suc, zero-mul, suc-mul}
use borrow.Author.Tests.{ne_eqb}
use lib.Dec.{T, leb, ltb, eqb, leb→le, ltb→lt, eqb→eq}
use mir.Facts.{and_yes}
use Rattle.laws.specs.Range.{every, sum, count}

and_assoc : (a b c : Bool) → (a && b) && c ≡ a && (b && c)
and_assoc true b c = refl
and_assoc false b c = refl

-- what every number below n passes, each one does
pub every_at : (p : ℕ → Bool) (n : ℕ) → T (every p n) → (k : ℕ) → k < n → T (p k)
unfolding every
every_at p zero t k h = absurd (omega arith)
every_at p (suc n) t k h = let (rest, last) = and_yes (every p n) (p n) t in at last (every_at p n rest k) (ℕ_discrete k n)
  where
    at : T (p n) → (k < n → T (p k)) → Dec (k ≡ n) → T (p k)
    at last earlier (yes e) = rw e last
    at last earlier (no e) = earlier (omega arith)

-- a bound or an equation at each number below n, from a test that is computed
module _ (f g : ℕ → ℕ) (n : ℕ) where
  pub le_at : T (every (λ k. leb (f k) (g k)) n) → (k : ℕ) → k < n → f k ≤ g k
  le_at t k h = leb→le (f k) (g k) (every_at _ n t k h)

  pub lt_at : T (every (λ k. ltb (f k) (g k)) n) → (k : ℕ) → k < n → f k < g k
  lt_at t k h = ltb→lt (f k) (g k) (every_at _ n t k h)

  pub eq_at : T (every (λ k. eqb (f k) (g k)) n) → (k : ℕ) → k < n → f k ≡ g k
  eq_at t k h = eqb→eq (f k) (g k) (every_at _ n t k h)

-- tests that agree below n count the same
pub count_ext : (p q : ℕ → Bool) (n : ℕ) → ((k : ℕ) → k < n → p k ≡ q k) → count p n ≡ count q n
unfolding count
count_ext p q zero e = refl
count_ext p q (suc n) e = rw (e n (omega arith), count_ext p q n (λ k h. e k (omega arith)))

-- a sum takes in one number more, and falls nowhere
module _ (f : ℕ → ℕ) where
  pub sum_more : (n : ℕ) → sum f (n + 1) ≡ sum f n + f n
  unfolding sum
  sum_more n = rw add-one

  pub sum_rises : (n m : ℕ) → n ≤ m → sum f n ≤ sum f m
  unfolding sum
  sum_rises n zero h = let e : n ≡ 0 = omega arith in rw e (omega arith)
  sum_rises n (suc m) h = by (ℕ_discrete n (suc m)) (sum_rises n m)
    where
      by : Dec (n ≡ suc m) → (n ≤ m → sum f n ≤ sum f m) → sum f n ≤ sum f (suc m)
      by (yes q) earlier = rw q (omega arith)
      by (no q) earlier = omega (arith, earlier (omega arith))

-- one number fails
module _ (p : ℕ → Bool) where
  pub every_fails : (n k : ℕ) → k < n → p k ≡ false → every p n ≡ false
  unfolding every
  every_fails zero k h e = absurd (omega arith)
  every_fails (suc n) k h e = by (ℕ_discrete k n) (every_fails n k)
    where
      by : Dec (k ≡ n) → (k < n → p k ≡ false → every p n ≡ false) → every p n && p n ≡ false
      by (yes q) earlier = rw (rw q at e) (and-false (every p n))
      by (no q) earlier = rw (earlier (omega arith) e)

-- tests that agree below n pass alike
pub every_ext : (p q : ℕ → Bool) (n : ℕ) → ((k : ℕ) → k < n → p k ≡ q k) → every p n ≡ every q n
unfolding every
every_ext p q zero e = refl
every_ext p q (suc n) e = rw (e n (omega arith), every_ext p q n (λ k h. e k (omega arith)))

-- a count is 0 exactly where nothing passes; over m rows of z numbers, row by row
pub count_nothing : (p : ℕ → Bool) (n : ℕ) → eqb (count p n) 0 ≡ every (λ k. not (p k)) n
unfolding count every
count_nothing p zero = refl
count_nothing p (suc n) = by (p n) (count_nothing p n)
  where
    by : (t : Bool) → eqb (count p n) 0 ≡ every (λ k. not (p k)) n
        → eqb (cond t (count p n + 1) (count p n)) 0 ≡ every (λ k. not (p k)) n && not t
    by true e = ne_eqb (count p n + 1) 0 (omega arith) ∙ sym (and-false (every (λ k. not (p k)) n))
    by false e = e ∙ sym (and-true (every (λ k. not (p k)) n))

pub every_sum : (p : ℕ → Bool) (m n : ℕ) → every p (m + n) ≡ every p m && every (λ k. p (m + k)) n
unfolding every
every_sum p m zero = rw add-zero (sym (and-true (every p m)))
every_sum p m (suc n) = rw (add-suc, every_sum p m n) (and_assoc (every p m) (every (λ k. p (m + k)) n) (p (m + n)))

pub every_rows : (p : ℕ → Bool) (z m : ℕ) → every p (m * z) ≡ every (λ r. every (λ t. p (r * z + t)) z) m
unfolding every
every_rows p z zero = rw zero-mul
every_rows p z (suc m) = rw (suc-mul, every_sum p (m * z) z, every_rows p z m)
