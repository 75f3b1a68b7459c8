-- Tests that are true together; the laws of `some` and `count` over a range. Assumes nothing.
use mathlib.Core.Path.{◌≡◌, refl, sym, ◌∙◌}
use mathlib.Core.Logic.{⊎_elim}
use mathlib.Core.Bool.{Bool, true, false, cond, ◌||◌, or-false, true≢false}
use Prim.Native.Nat.{ℕ, zero, suc, ◌+◌, ◌<◌, ◌≤◌}
use native.Mathlib.Omega.{arith}
use native.Mathlib.Decide.{ℕ_discrete}
use lib.Dec.{ltb, eqb}
use borrow.Author.Tests.{lt-ltb, le-ltb, ltb-true, eq-eqb, ne_eqb}
use Rattle.std.proofs.lemmas.Bool.{both_ways, or_cases, or_left, or_parts, or_right}
use Rattle.laws.specs.Range.{some, first, count}
use Rattle.laws.proofs.Range.{count_ext}

-- tests that are true together are the same
pub alike : (a b : Bool) → (a ≡ true → b ≡ true) → (b ≡ true → a ≡ true) → a ≡ b
alike true b f g = sym (f refl)
alike false true f g = g refl
alike false false f g = refl

-- a number below n that has p
pub record Some (p : ℕ → Bool) (n : ℕ) : Type 0 where
  pub at : ℕ
  pub below : at < n
  pub has : p at ≡ true

module _ (p : ℕ → Bool) where
  pub some_from : (n : ℕ) → some p n ≡ true → Some p n
  unfolding some
  some_from zero e = absurd (true≢false (sym e))
  some_from (suc n) e = ⊎_elim (earlier (some_from n)) last (or_cases (some p n) (p n) e)
    where
      earlier : (some p n ≡ true → Some p n) → some p n ≡ true → Some p (suc n)
      earlier f h = let s = f h in record { at = s.at; below = omega (arith, s.below); has = s.has }

      last : p n ≡ true → Some p (suc n)
      last h = record { at = n; below = omega arith; has = h }

  pub some_has : (n k : ℕ) → k < n → p k ≡ true → some p n ≡ true
  unfolding some
  some_has zero k h e = absurd (omega arith)
  some_has (suc n) k h e = by (ℕ_discrete k n) (some_has n k)
    where
      by : Dec (k ≡ n) → (k < n → p k ≡ true → some p n ≡ true) → some p n || p n ≡ true
      by (yes q) earlier = or_right (some p n) (p n) (rw q at e)
      by (no q) earlier = or_left (some p n) (p n) (earlier (omega arith) e)

  pub some_none : (n : ℕ) → ((k : ℕ) → k < n → p k ≡ false) → some p n ≡ false
  unfolding some
  some_none zero h = refl
  some_none (suc n) h = rw (some_none n (λ k l. h k (omega arith)), h n (omega arith))

-- tests that agree below n agree on whether some number has them
pub some_ext : (p q : ℕ → Bool) (n : ℕ) → ((k : ℕ) → k < n → p k ≡ q k) → some p n ≡ some q n
unfolding some
some_ext p q zero e = refl
some_ext p q (suc n) e = rw (e n (omega arith), some_ext p q n (λ k h. e k (omega arith)))

-- where no number below n has p, each one has not
pub some_fails : (p : ℕ → Bool) (n : ℕ) → some p n ≡ false → (k : ℕ) → k < n → p k ≡ false
unfolding some
some_fails p zero e k h = absurd (omega arith)
some_fails p (suc n) e k h = let (rest, last) = or_parts (some p n) (p n) e in at last (some_fails p n rest k) (ℕ_discrete k n)
  where
    at : p n ≡ false → (k < n → p k ≡ false) → Dec (k ≡ n) → p k ≡ false
    at last earlier (yes q) = rw q last
    at last earlier (no q) = earlier (omega arith)

-- some number below n has p where the first that has it is below n
pub some_first : (p : ℕ → Bool) (n : ℕ) → some p n ≡ ltb (first p n) n
unfolding some first
some_first p zero = refl
some_first p (suc n) = rw (some_first p n) (by (ltb (first p n) n) refl (p n))
  where
    by : (t : Bool) → ltb (first p n) n ≡ t → (u : Bool) → t || u ≡ ltb (cond t (first p n) (cond u n (suc n))) (suc n)
    by true e u = sym (lt-ltb (first p n) (suc n) (omega (arith, ltb-true (first p n) n e)))
    by false e true = sym (lt-ltb n (suc n) (omega arith))
    by false e false = sym (le-ltb (suc n) (suc n) (omega arith))

-- one number more is counted
pub count_one : (p q : ℕ → Bool) (n a : ℕ) → a < n → p a ≡ false → q a ≡ true
    → ((k : ℕ) → k < n → (k ≡ a → ⊥) → q k ≡ p k) → count q n ≡ count p n + 1
unfolding count
count_one p q zero a h f t e = absurd (omega arith)
count_one p q (suc n) a h f t e = by (ℕ_discrete a n) (count_one p q n a)
  where
    same : (b : Bool) → count q n ≡ count p n + 1 → cond b (count q n + 1) (count q n) ≡ cond b (count p n + 1) (count p n) + 1
    same true c = omega arith
    same false c = c

    by : Dec (a ≡ n)
        → (a < n → p a ≡ false → q a ≡ true → ((k : ℕ) → k < n → (k ≡ a → ⊥) → q k ≡ p k) → count q n ≡ count p n + 1)
        → count q (suc n) ≡ count p (suc n) + 1
    by (yes w) earlier =
        rw (rw w at f, rw w at t) (omega (arith, count_ext q p n (λ k l. e k (omega arith) (λ x. omega arith))))
    by (no w) earlier =
        rw (e n (omega arith) (λ x. w (sym x))) (same (p n) (earlier (omega arith) f t (λ k l. e k (omega arith))))

-- where q holds of each number that p holds of, no more are counted by p
pub count_within : (p q : ℕ → Bool) (n : ℕ) → ((k : ℕ) → k < n → p k ≡ true → q k ≡ true) → count p n ≤ count q n
unfolding count
count_within p q zero h = omega arith
count_within p q (suc n) h = by (count_within p q n (λ k l. h k (omega arith))) (p n) (q n) refl refl
  where
    by : count p n ≤ count q n → (s t : Bool) → p n ≡ s → q n ≡ t → cond (p n) (count p n + 1) (count p n) ≤ cond (q n) (count q n + 1) (count q n)
    by rest true true e f = rw (e, f) (omega (arith, rest))
    by rest true false e f = absurd (both_ways (q n) f (h n (omega arith) e))
    by rest false true e f = rw (e, f) (omega (arith, rest))
    by rest false false e f = rw (e, f) rest

-- and fewer, where q holds of one that p does not hold of
pub count_fewer : (p q : ℕ → Bool) (n a : ℕ) → a < n → p a ≡ false → q a ≡ true → ((k : ℕ) → k < n → p k ≡ true → q k ≡ true)
    → count p n + 1 ≤ count q n
count_fewer p q n a h f t e =
    let p' : ℕ → Bool = λ k. p k || eqb k a in
    omega (
      arith,
      count_one p p' n a h f (or_right (p a) (eqb a a) (eq-eqb a a refl)) (λ k l w. rw (ne_eqb k a w) (or-false (p k))),
      count_within p' q n (λ k l u. by k l u (ℕ_discrete k a)),
    )
  where
    by : (k : ℕ) → k < n → (p k || eqb k a) ≡ true → Dec (k ≡ a) → q k ≡ true
    by k l u (yes w) = rw w t
    by k l u (no w) = e k l (sym (or-false (p k)) ∙ (rw (ne_eqb k a w) at u))
