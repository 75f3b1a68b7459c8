-- The laws of sums over a range, and over the pairs of a range. Assumes nothing.
use mathlib.Core.Path.{◌≡◌, refl, sym, ap, ◌∙◌}
use mathlib.Core.Bool.{cond}
use Prim.Native.Nat.{ℕ, zero, suc, ◌+◌, ◌*◌, ◌<◌, ◌≤◌}
use native.Mathlib.Omega.{arith}
use native.Mathlib.Decide.{ℕ_discrete}
use native.Mathlib.Nat.{suc-mul}
use lib.Dec.{eqb}
use borrow.Author.Tests.{eq-eqb, ne_eqb}
use Rattle.laws.specs.Range.{sum, pair_sum}
use Rattle.laws.proofs.Range.{sum_more}

-- a loop that adds has added one term more
pub added : (f : ℕ → ℕ) {n x k : ℕ} → n ≡ sum f k → x ≡ f k → n + x ≡ sum f (k + 1)
added f {n} {x} {k} e h = rw (e, h) (sym (sum_more f k))

-- terms of at most b, and terms of 0
pub sum_most : (f : ℕ → ℕ) (b n : ℕ) → ((k : ℕ) → k < n → f k ≤ b) → sum f n ≤ n * b
unfolding sum
sum_most f b zero h = omega arith
sum_most f b (suc n) h = rw suc-mul (omega (arith, h n (omega arith), sum_most f b n (λ k l. h k (omega arith))))

pub sum_none : (f : ℕ → ℕ) (n : ℕ) → ((k : ℕ) → k < n → f k ≡ 0) → sum f n ≡ 0
unfolding sum
sum_none f zero h = refl
sum_none f (suc n) h = omega (arith, h n (omega arith), sum_none f n (λ k l. h k (omega arith)))

-- terms that agree
pub sum_ext : (f g : ℕ → ℕ) (n : ℕ) → ((k : ℕ) → k < n → f k ≡ g k) → sum f n ≡ sum g n
unfolding sum
sum_ext f g zero e = refl
sum_ext f g (suc n) e = rw (e n (omega arith), sum_ext f g n (λ k h. e k (omega arith)))

pub pair_sum_ext : (f g : ℕ → ℕ → ℕ) (n : ℕ) → ((a b : ℕ) → a < b → b < n → f a b ≡ g a b) → pair_sum f n ≡ pair_sum g n
unfolding pair_sum
pair_sum_ext f g n e =
    sum_ext (λ b. sum (λ a. f a b) b) (λ b. sum (λ a. g a b) b) n
    (λ b h. sum_ext (λ a. f a b) (λ a. g a b) b (λ a l. e a b l h))

-- terms that are sums, and terms that are doubled
pub sum_plus : (f g : ℕ → ℕ) (n : ℕ) → sum (λ k. f k + g k) n ≡ sum f n + sum g n
unfolding sum
sum_plus f g zero = refl
sum_plus f g (suc n) = omega (arith, sum_plus f g n)

pub sum_twice : (f : ℕ → ℕ) (n : ℕ) → sum (λ k. 2 * f k) n ≡ 2 * sum f n
unfolding sum
sum_twice f zero = refl
sum_twice f (suc n) = omega (arith, sum_twice f n)

pub pair_sum_twice : (f : ℕ → ℕ → ℕ) (n : ℕ) → pair_sum (λ a b. 2 * f a b) n ≡ 2 * pair_sum f n
unfolding pair_sum
pair_sum_twice f n =
    sum_ext (λ b. sum (λ a. 2 * f a b) b) (λ b. 2 * sum (λ a. f a b) b) n (λ b h. sum_twice (λ a. f a b) b)
    ∙ sum_twice (λ b. sum (λ a. f a b) b) n

-- f but 0 at a
abbrev pub but : ℕ → (ℕ → ℕ) → ℕ → ℕ
but a f k = cond (eqb k a) 0 (f k)

pub but_at : (f : ℕ → ℕ) (a k : ℕ) → k ≡ a → but a f k ≡ 0
but_at f a k e = rw (eq-eqb k a e)

pub but_off : (f : ℕ → ℕ) (a k : ℕ) → (k ≡ a → ⊥) → but a f k ≡ f k
but_off f a k e = rw (ne_eqb k a e)

pub but_none : (f : ℕ → ℕ) (a k : ℕ) → f k ≡ 0 → but a f k ≡ 0
but_none f a k e = by (ℕ_discrete k a)
  where
    by : Dec (k ≡ a) → but a f k ≡ 0
    by (yes q) = but_at f a k q
    by (no q) = but_off f a k q ∙ e

-- one term taken out of a sum; a sum of one term
pub sum_but : (f : ℕ → ℕ) (a n : ℕ) → a < n → sum f n ≡ sum (but a f) n + f a
unfolding sum
sum_but f a zero h = absurd (omega arith)
sum_but f a (suc n) h = by (ℕ_discrete n a) (sum_but f a n)
  where
    by : Dec (n ≡ a) → (a < n → sum f n ≡ sum (but a f) n + f a) → sum f n + f n ≡ sum (but a f) n + but a f n + f a
    by (yes e) earlier =
        let same : sum (but a f) n ≡ sum f n = sum_ext (but a f) f n (λ k l. but_off f a k (λ q. omega arith)) in
        omega (arith, same, but_at f a n e, ap f e)
    by (no e) earlier = omega (arith, earlier (omega arith), but_off f a n e)

pub sum_one : (f : ℕ → ℕ) (a n : ℕ) → a < n → ((k : ℕ) → k < n → (k ≡ a → ⊥) → f k ≡ 0) → sum f n ≡ f a
sum_one f a n h none =
    sum_but f a n h
    ∙ ap (λ (x : ℕ). x + f a) (sum_none (but a f) n (λ k l. by k l (ℕ_discrete k a))) ∙ omega arith
  where
    by : (k : ℕ) → k < n → Dec (k ≡ a) → but a f k ≡ 0
    by k l (yes e) = but_at f a k e
    by k l (no e) = but_off f a k e ∙ none k l e

-- places below n, each with a key of its own below m
pub record Keys (m n : ℕ) (key : ℕ → ℕ) : Type 0 where
  pub inside : (e : ℕ) → e < n → key e < m
  pub apart : (e f : ℕ) → e < n → f < n → (e ≡ f → ⊥) → key e ≡ key f → ⊥

-- a sum over the numbers below m is one over the places, where f is 0 but at keys
pub sum_along : (m n : ℕ) (key f : ℕ → ℕ) → Keys m n key → ((q : ℕ) → ((e : ℕ) → e < n → key e ≡ q → ⊥) → f q ≡ 0)
    → sum f m ≡ sum (λ e. f (key e)) n
unfolding sum
sum_along m zero key f K none = sum_none f m (λ q h. none q (λ e l. absurd (omega arith)))
sum_along m (suc n) key f K none =
    sum_but f (key n) m (K.inside n (omega arith))
    ∙ ap (λ (x : ℕ). x + f (key n))
    (sum_along m n key (but (key n) f)
    (record { inside = λ e h. K.inside e (omega arith); apart = λ e g h l. K.apart e g (omega arith) (omega arith) })
    (λ q off. at q off (ℕ_discrete q (key n)))
    ∙ sum_ext (λ e. but (key n) f (key e)) (λ e. f (key e)) n
    (λ e h. but_off f (key n) (key e) (K.apart e n (omega arith) (omega arith) (λ q. omega arith))))
  where
    at : (q : ℕ) → ((e : ℕ) → e < n → key e ≡ q → ⊥) → Dec (q ≡ key n) → but (key n) f q ≡ 0
    at q off (yes e) = but_at f (key n) q e
    at q off (no e) = but_off f (key n) q e ∙ none q (λ g l. past g l (ℕ_discrete g n))
      where
        past : (g : ℕ) → g < suc n → Dec (g ≡ n) → key g ≡ q → ⊥
        past g l (yes p) r = e (sym r ∙ ap key p)
        past g l (no p) r = off g (omega arith) r

-- both orders of each pair, where the order does not matter
pub square : (g : ℕ → ℕ → ℕ) (n : ℕ) → ((a b : ℕ) → g a b ≡ g b a) → sum (λ a. sum (but a (g a)) n) n ≡ 2 * pair_sum g n
unfolding pair_sum sum
square g zero flip = refl
square g (suc n) flip =
    omega (
      arith,
      square g n flip,
      sum_plus (λ a. sum (but a (g a)) n) (λ a. but a (g a) n) n,
      sum_ext (λ a. but a (g a) n) (λ a. g a n) n (λ a h. but_off (g a) a n (λ e. omega arith)),
      sum_ext (but n (g n)) (λ a. g a n) n (λ a h. but_off (g n) n a (λ e. omega arith) ∙ flip n a),
      but_at (g n) n n refl,
    )

-- the pairs of numbers below m are the pairs of places, where g is 0 but at keys
module _ (m n : ℕ) (key : ℕ → ℕ) (g : ℕ → ℕ → ℕ) (K : Keys m n key) (flip : (a b : ℕ) → g a b ≡ g b a)
    (none : (q r : ℕ) → ((e : ℕ) → e < n → key e ≡ q → ⊥) → g q r ≡ 0) where
  by_key : (e f : ℕ) → e < n → f < n → Dec (f ≡ e) → but (key e) (g (key e)) (key f) ≡ but e (λ f. g (key e) (key f)) f
  by_key e f h l (yes q) = but_at (g (key e)) (key e) (key f) (ap key q) ∙ sym (but_at (λ f. g (key e) (key f)) e f q)
  by_key e f h l (no q) =
      but_off (g (key e)) (key e) (key f) (K.apart f e l h q) ∙ sym (but_off (λ f. g (key e) (key f)) e f q)

  ordered_along : sum (λ q. sum (but q (g q)) m) m ≡ sum (λ e. sum (but e (λ f. g (key e) (key f))) n) n
  ordered_along =
      sum_ext (λ q. sum (but q (g q)) m) (λ q. sum (λ f. but q (g q) (key f)) n) m
      (λ q h. sum_along m n key (but q (g q)) K (λ r off. but_none (g q) q r (flip q r ∙ none r q off)))
      ∙ sum_along m n key (λ q. sum (λ f. but q (g q) (key f)) n) K
      (λ q off. sum_none (λ f. but q (g q) (key f)) n (λ f h. but_none (g q) q (key f) (none q (key f) off)))
      ∙ sum_ext (λ e. sum (λ f. but (key e) (g (key e)) (key f)) n) (λ e. sum (but e (λ f. g (key e) (key f))) n) n
      (λ e h. sum_ext (λ f. but (key e) (g (key e)) (key f)) (but e (λ f. g (key e) (key f))) n
      (λ f l. by_key e f h l (ℕ_discrete f e)))

  pub pairs_along : pair_sum g m ≡ pair_sum (λ e f. g (key e) (key f)) n
  pairs_along =
      let places : sum (λ e. sum (but e (λ f. g (key e) (key f))) n) n ≡ 2 * pair_sum (λ e f. g (key e) (key f)) n
      = square (λ e f. g (key e) (key f)) n (λ e f. flip (key e) (key f)) in
      omega (arith, square g m flip, ordered_along, places)
