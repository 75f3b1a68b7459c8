-- What std says of a list or a range, in the words of numbers below a bound. Assumes nothing.
use Rattle.std.proofs.Common.{◌≡◌, ℕ, zero, suc, ◌+◌, ◌<◌, Bool, true, false, cond, ◌||◌, List, [], ◌∷◌, length, get_or, take, drop, refl, sym, ◌∙◌, arith, Option, Some, None, unwrap_or, ◌-◌, ◌≤◌}
use Rattle.std.specs.List.{position, position_or_len, list_any}
use Rattle.std.proofs.lemmas.Grind.{common_steps}
use Rattle.std.specs.Option.{MatchOption}
use Rattle.laws.specs.Range.{first, some}
use Rattle.laws.proofs.First.{first_ext, first_least, first_none, first_at}
use Rattle.laws.proofs.Some.{some_ext}
use native.Mathlib.Decide.{dec_lt}
use borrow.Author.Tests.{lt-ltb, le-ltb}
use Rattle.columns.specs.Found.{below}

-- the first number of a range, from its front
first_front : (p : ℕ → Bool) (n : ℕ) → first p (suc n) ≡ cond (p 0) 0 (suc (first (λ i. p (suc i)) n))
unfolding first
first_front p zero = grind (arith, common_steps)
first_front p (suc n) = let ih = first_front p n in grind (arith, common_steps, ih)

some_front : (p : ℕ → Bool) (n : ℕ) → some p (suc n) ≡ (p 0 || some (λ i. p (suc i)) n)
unfolding some
some_front p zero = grind (arith, common_steps)
some_front p (suc n) = let ih = some_front p n in grind (arith, common_steps, ih)

pub first_list : (p : ℕ → Bool) (xs : List ℕ) → first (λ i. p (get_or xs i 0)) (length xs) ≡ position_or_len p xs
unfolding first
first_list p [] = refl
first_list p (x ∷ xs) =
    let ih = first_list p xs in
    let front = first_front (λ i. p (get_or (x ∷ xs) i 0)) (length xs) in
    front ∙ grind (arith, common_steps, ih)

pub some_list : (p : ℕ → Bool) (xs : List ℕ) → some (λ i. p (get_or xs i 0)) (length xs) ≡ list_any p xs
unfolding some
some_list p [] = refl
some_list p (x ∷ xs) =
    let ih = some_list p xs in
    let front = some_front (λ i. p (get_or (x ∷ xs) i 0)) (length xs) in
    front ∙ grind (arith, common_steps, ih)

-- what `find` answers over a range
pub first_found : (p : ℕ → Bool) (n : ℕ) (r : Option ℕ)
    → MatchOption r ((k : ℕ) → 0 ≤ k → k < n → p k ≡ false)
    (λ i. (0 ≤ i) × (i < n) × (p i ≡ true) × ((k : ℕ) → 0 ≤ k → k < i → p k ≡ false))
    → r ≡ below n (first p n)
first_found p n None h = rw (first_none p n (λ k l. h k (omega arith) l), le-ltb n n (omega arith))
first_found p n (Some i) h = rw (first_at p n i h.1 h.2 (λ k l. h.3 k (omega arith) l), lt-ltb i n h.1)

-- n numbers of a list, from a on
module _ (p : ℕ → Bool) (xs : List ℕ) (a n : ℕ) (inside : a + n ≤ length xs) where
  abbrev part : List ℕ
  part = take (a + n - a) (drop a xs)

  long : length part ≡ n
  long = grind (arith, common_steps)

  at : (e : ℕ) → e < n → get_or part e 0 ≡ get_or xs (a + e) 0
  at e h = grind (arith, common_steps)

  pub any_part : list_any p part ≡ some (λ e. p (get_or xs (a + e) 0)) n
  any_part = sym (some_list p part) ∙ (rw long (some_ext (λ e. p (get_or part e 0)) (λ e. p (get_or xs (a + e) 0)) n (λ e h. rw (at e h))))

  pub first_part : position_or_len p part ≡ first (λ e. p (get_or xs (a + e) 0)) n
  first_part =
      sym (first_list p part) ∙ (rw long (first_ext (λ e. p (get_or part e 0)) (λ e. p (get_or xs (a + e) 0)) n (λ e h. rw (at e h))))

  pub place_part : unwrap_or (position p part) n ≡ first (λ e. p (get_or xs (a + e) 0)) n
  place_part = rw (first_part, long) (by (dec_lt f n))
    where
      f : ℕ
      f = first (λ e. p (get_or xs (a + e) 0)) n

      by : Dec (f < n) → unwrap_or (below n f) n ≡ f
      by (yes h) = rw (lt-ltb f n h)
      by (no h) = let most = (first_least (λ e. p (get_or xs (a + e) 0)) n).most in rw (le-ltb f n (omega arith)) (omega arith)
