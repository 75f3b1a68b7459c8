-- The laws of `folded`: over two lists, over one element more, what each step keeps, a part of the result, over a collected list,
-- over the elements that a test picks. Assumes nothing.
use mathlib.Core.Path.{◌≡◌, refl, sym, ap, ◌∙◌}
use mathlib.Core.Bool.{Bool, true, false, cond, xor, ◌&&◌}
use mathlib.Core.List.{List, [], ◌∷◌, ◌++◌}
use Prim.Native.Nat.{ℕ, zero, suc, ◌+◌, ◌<◌, ◌≤◌}
use native.Mathlib.Omega.{arith}
use native.Mathlib.Numerals.{add-one}
use native.Mathlib.Decide.{ℕ_discrete, dec_lt}
use lib.ListN.{length, take, get_or}
use lib.Seq.{take-suc, take-length}
use Rattle.laws.specs.Range.{folded, collect, xor_sum}
use Rattle.laws.proofs.Parity.{xor_false}
use Rattle.std.proofs.lemmas.Bool.{both_ways}

module _ {A : Type 0} where
  pub folded_append : (f : A → ℕ → A) (x : A) (l k : List ℕ) → folded f x (l ++ k) ≡ folded f (folded f x l) k
  unfolding folded
  folded_append f x [] k = refl
  folded_append f x (n ∷ l) k = folded_append f (f x n) l k

  -- one element more from the front
  pub folded_more : (f : A → ℕ → A) (x : A) (l : List ℕ) (i : ℕ) → i < length l
      → folded f x (take (i + 1) l) ≡ f (folded f x (take i l)) (get_or l i 0)
  unfolding folded
  folded_more f x l i h = rw (add-one, take-suc l i 0 h) (folded_append f x (take i l) (get_or l i 0 ∷ []))

  -- what holds at first, and is kept at each element, holds of the result
  pub folded_keeps : (P : A → Type 0) (f : A → ℕ → A) (x : A) (l : List ℕ) → P x
      → ((i : ℕ) → i < length l → (y : A) → P y → P (f y (get_or l i 0))) → P (folded f x l)
  unfolding folded
  folded_keeps P f x [] p k = p
  folded_keeps P f x (n ∷ l) p k = folded_keeps P f (f x n) l (k 0 (omega arith) x p) (λ i h. k (suc i) (omega arith))

  -- a part h of the result, where g says how that part changes at each element
  pub folded_part : {B : Type 0} (h : A → B) (f : A → ℕ → A) (g : B → ℕ → B) (x : A) (l : List ℕ)
      → ((i : ℕ) → i < length l → (y : A) → h (f y (get_or l i 0)) ≡ g (h y) (get_or l i 0)) → h (folded f x l) ≡ folded g (h x) l
  unfolding folded
  folded_part h f g x [] e = refl
  folded_part h f g x (n ∷ l) e =
      folded_part h f g (f x n) l (λ i k. e (suc i) (omega arith)) ∙ ap (λ y. folded g y l) (e 0 (omega arith) x)

  -- functions that agree on the elements fold alike
  pub folded_ext : (f g : A → ℕ → A) (x : A) (l : List ℕ) → ((i : ℕ) → i < length l → (y : A) → f y (get_or l i 0) ≡ g y (get_or l i 0))
      → folded f x l ≡ folded g x l
  folded_ext f g x l e = folded_part (λ y. y) f g x l e

-- a sum modulo 2 over the numbers with p, by their list
pub xor_sum_folded : (p f : ℕ → Bool) (n : ℕ) → xor_sum (λ b. p b && f b) n ≡ folded (λ x b. xor x (f b)) false (collect p (λ b. b) n)
unfolding xor_sum folded collect
xor_sum_folded p f zero = refl
xor_sum_folded p f (suc n) =
    by (xor_sum_folded p f n) (p n) ∙ sym (folded_append (λ x b. xor x (f b)) false (collect p (λ b. b) n) (cond (p n) (n ∷ []) []))
  where
    by : xor_sum (λ b. p b && f b) n ≡ folded (λ x b. xor x (f b)) false (collect p (λ b. b) n) → (t : Bool) → xor (xor_sum (λ b. p b && f b) n) (t && f n)
        ≡ folded (λ x b. xor x (f b)) (folded (λ x b. xor x (f b)) false (collect p (λ b. b) n)) (cond t (n ∷ []) [])
    by e true = ap (λ x. xor x (f n)) e
    by e false = xor_false (xor_sum (λ b. p b && f b) n) ∙ e

-- the elements of l that have p are those of k, in k's order: element i of k stands in l at `place i`
pub record Picked (p : ℕ → Bool) (l k : List ℕ) (place : ℕ → ℕ) : Type 0 where
  pub inside : (i : ℕ) → i < length k → place i < length l
  pub holds : (i : ℕ) → i < length k → get_or l (place i) 0 ≡ get_or k i 0
  pub has : (i : ℕ) → i < length k → p (get_or k i 0) ≡ true
  pub rises : (i : ℕ) → i + 1 < length k → place i < place (i + 1)
  pub only : (j : ℕ) → j < length l → p (get_or l j 0) ≡ true → (i : ℕ) × (i < length k) × (place i ≡ j)

module _ {A : Type 0} (p : ℕ → Bool) (f : A → ℕ → A) (x : A) (l k : List ℕ) (place : ℕ → ℕ) (P : Picked p l k place) where
  abbrev step : A → ℕ → A
  step y b = cond (p b) (f y b) y

  -- of any two elements of k the later one stands later, and the other way round
  rising : (i j : ℕ) → i < j → j < length k → place i < place j
  rising i zero h g = absurd (omega arith)
  rising i (suc j) h g = rw (← add-one j) (by (ℕ_discrete i j) (rising i j))
    where
      by : Dec (i ≡ j) → (i < j → j < length k → place i < place j) → place i < place (j + 1)
      by (yes q) earlier = rw q (P.rises j (omega arith))
      by (no q) earlier = omega (arith, earlier (omega arith) (omega arith), P.rises j (omega arith))

  risen : (i j : ℕ) → i < length k → place i < place j → i < j
  risen i j h g = by (dec_lt i j) (ℕ_discrete i j)
    where
      by : Dec (i < j) → Dec (i ≡ j) → i < j
      by (yes r) d = r
      by (no r) (yes q) = omega (arith, ap place q)
      by (no r) (no q) = omega (arith, rising j i (omega arith) h)

  -- the elements of k that stand among the first n of l are its first m
  record Cut (n m : ℕ) : Type 0 where
    most : m ≤ length k
    inside : (i : ℕ) → i < m → place i < n
    outside : (i : ℕ) → i < length k → place i < n → i < m

  front : (n m : ℕ) → n ≤ length l → Cut n m → folded step x (take n l) ≡ folded f x (take m k)
  unfolding folded
  front zero zero h C = refl
  front zero (suc m) h C = absurd (omega (arith, C.inside 0 (omega arith)))
  front (suc n) m h C = rw (← add-one n) (folded_more step x l n h ∙ by (p (get_or l n 0)) refl (λ m. front n m (omega arith)))
    where
      -- what stands at n is the last of them
      last : (i : ℕ) → i < length k → place i ≡ n → Dec (i + 1 < m) → m ≡ i + 1
      last i g q (yes r) = absurd (omega (arith, C.inside (i + 1) r, P.rises i (omega (arith, C.most))))
      last i g q (no r) = omega (arith, C.outside i g (omega arith))

      by : (t : Bool) → p (get_or l n 0) ≡ t → ((m : ℕ) → Cut n m → folded step x (take n l) ≡ folded f x (take m k))
          → step (folded step x (take n l)) (get_or l n 0) ≡ folded f x (take m k)
      by true e earlier =
          let (i, g, q) = P.only n h e in
          let C' : Cut n i = record {
            most = omega arith;
            inside = λ j r. omega (arith, rising j i r g);
            outside = λ j r s. risen j i r (omega arith);
          } in
          rw (e, last i g q (dec_lt (i + 1) m), folded_more f x k i g, ← P.holds i g, q, earlier i C')
      by false e earlier =
          let other : (i : ℕ) → i < length k → place i ≡ n → ⊥ =
          λ i g q. both_ways (p (get_or l n 0)) e (ap (λ j. p (get_or l j 0)) (sym q) ∙ ap p (P.holds i g) ∙ P.has i g) in
          let C' : Cut n m = record {
            most = C.most;
            inside = λ i r. omega (arith, C.inside i r, other i (omega (arith, C.most)));
            outside = λ i g r. C.outside i g (omega arith);
          } in
          rw e (earlier m C')

  -- to step at the elements with p alone is to fold over them
  pub folded_picked : folded step x l ≡ folded f x k
  folded_picked =
      let C : Cut (length l) (length k) = record { most = omega arith; inside = P.inside; outside = λ i h g. h } in
      simp take-length at (front (length l) (length k) (omega arith) C)
