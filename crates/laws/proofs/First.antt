-- The laws of `first`: it is the number below n that has p with none before it, or n where no number below n has p. Assumes nothing.
use mathlib.Core.Path.{◌≡◌, refl}
use mathlib.Core.Bool.{Bool, true, false, cond}
use Prim.Native.Nat.{ℕ, zero, suc, ◌<◌, ◌≤◌}
use native.Mathlib.Omega.{arith}
use native.Mathlib.Decide.{ℕ_discrete, dec_lt}
use lib.Dec.{ltb}
use borrow.Author.Count.{below_more}
use borrow.Author.Tests.{lt-ltb, le-ltb}
use Rattle.laws.specs.Range.{first}

-- r is n or has p, and no number before it has
pub record Least (p : ℕ → Bool) (n r : ℕ) : Type 0 where
  pub most : r ≤ n
  pub before : (k : ℕ) → k < r → p k ≡ false
  pub has : r < n → p r ≡ true

-- tests that agree below n
pub first_ext : (p q : ℕ → Bool) (n : ℕ) → ((k : ℕ) → k < n → p k ≡ q k) → first p n ≡ first q n
unfolding first
first_ext p q zero e = refl
first_ext p q (suc n) e = rw (e n (omega arith), first_ext p q n (λ k h. e k (omega arith)))

module _ (p : ℕ → Bool) where
  pub first_none : (n : ℕ) → ((k : ℕ) → k < n → p k ≡ false) → first p n ≡ n
  unfolding first
  first_none zero h = refl
  first_none (suc n) h = rw (first_none n (λ k l. h k (omega arith)), le-ltb n n (omega arith), h n (omega arith))

  pub first_at : (n k : ℕ) → k < n → p k ≡ true → ((j : ℕ) → j < k → p j ≡ false) → first p n ≡ k
  unfolding first
  first_at zero k h here none = absurd (omega arith)
  first_at (suc n) k h here none = by (ℕ_discrete k n) (first_at n k)
    where
      by : Dec (k ≡ n) → (k < n → p k ≡ true → ((j : ℕ) → j < k → p j ≡ false) → first p n ≡ k) → first p (suc n) ≡ k
      by (yes e) earlier = rw (← e, first_none k none, le-ltb k k (omega arith), here)
      by (no e) earlier = let l : k < n = omega arith in rw (earlier l here none, lt-ltb k n l)

  pub first_least : (n : ℕ) → Least p n (first p n)
  unfolding first
  first_least zero = record { most = omega arith; before = λ k h. absurd (omega arith); has = λ h. absurd (omega arith) }
  first_least (suc n) = by (first_least n) (dec_lt (first p n) n) (p n) refl
    where
      by : Least p n (first p n) → Dec (first p n < n) → (t : Bool) → p n ≡ t
          → Least p (suc n) (cond (ltb (first p n) n) (first p n) (cond t n (suc n)))
      by L (yes h) t e =
          rw (lt-ltb (first p n) n h) (record { most = omega arith; before = L.before; has = λ l. L.has h })
      by L (no h) true e =
          rw (le-ltb (first p n) n (omega arith))
          (record { most = omega arith; before = λ k l. L.before k (omega arith); has = λ l. e })
      by L (no h) false e =
          rw (le-ltb (first p n) n (omega arith))
          (record {
            most = omega arith;
            before = λ k l. below_more (λ j. p j ≡ false) n (λ j m. L.before j (omega arith)) e k (omega arith);
            has = λ l. absurd (omega arith);
          })
