-- The laws of `count` and `collect`: the elements are those of the numbers with p, each at the place that says how many numbers
-- with p come before. Assumes nothing.
use mathlib.Core.Path.{◌≡◌, refl, sym, ap, ◌∙◌}
use mathlib.Core.Bool.{Bool, true, false, cond}
use mathlib.Core.List.{List, [], ◌∷◌, ◌++◌, append-nil}
use Prim.Native.Nat.{ℕ, zero, suc, ◌+◌, ◌<◌, ◌≤◌}
use native.Mathlib.Omega.{arith}
use native.Mathlib.Numerals.{add-one}
use native.Mathlib.Decide.{ℕ_discrete, dec_lt}
use native.Mathlib.Nat.{add-zero}
use lib.Dec.{ltb, eqb}
use borrow.Author.Tests.{lt-ltb, le-ltb, eq-eqb, ne_eqb}
use lib.ListN.{length, drop, get_or, set, length-append, length-drop, get_or-append}
use lib.Seq.{drop-cons, append_snoc, set-append_seam, get_or_at}
use Rattle.laws.specs.Range.{count, collect}

-- a place of l that holds x (d stands for what lies past the end)
pub record Place {A : Type 0} (d : A) (l : List A) (x : A) : Type 0 where
  pub index : ℕ
  pub inside : index < length l
  pub holds : get_or l index d ≡ x

-- the number that place i of a collected list stands for
pub record From {A : Type 0} (p : ℕ → Bool) (f : ℕ → A) (d : A) (n i : ℕ) : Type 0 where
  pub number : ℕ
  pub below : number < n
  pub has : p number ≡ true
  pub rank : count p number ≡ i
  pub is : f number ≡ get_or (collect p f n) i d

module _ (p : ℕ → Bool) where
  pub count_more : (n : ℕ) → p n ≡ true → count p (n + 1) ≡ count p n + 1
  unfolding count
  count_more n e = rw (add-one n, e)

  pub count_skip : (n : ℕ) → p n ≡ false → count p (n + 1) ≡ count p n
  unfolding count
  count_skip n e = rw (add-one, e)

  count_le : (n : ℕ) → count p n ≤ count p (suc n)
  unfolding count
  count_le n = by (p n)
    where
      by : (t : Bool) → count p n ≤ cond t (count p n + 1) (count p n)
      by true = omega arith
      by false = omega arith

  -- a number with p adds to those before it
  pub count_lt : (n b : ℕ) → b < n → p b ≡ true → count p b < count p n
  unfolding count
  count_lt zero b h e = absurd (omega arith)
  count_lt (suc n) b h e = by (ℕ_discrete b n) (count_lt n b)
    where
      by : Dec (b ≡ n) → (b < n → p b ≡ true → count p b < count p n) → count p b < count p (suc n)
      by (yes q) earlier = rw (q, rw q at e) (omega arith)
      by (no q) earlier = omega (arith, earlier (omega arith) e, count_le n)

  -- a count is 0 exactly where no number is counted
  pub count_none : (n : ℕ) → ((i : ℕ) → i < n → p i ≡ false) → count p n ≡ 0
  unfolding count
  count_none zero e = refl
  count_none (suc n) e = rw (e n (omega arith)) (count_none n (λ i h. e i (omega arith)))

  pub none_counted : (n : ℕ) → count p n ≡ 0 → (i : ℕ) → i < n → p i ≡ false
  none_counted n e i h = by (p i) refl
    where
      by : (t : Bool) → p i ≡ t → p i ≡ false
      by true q = absurd (omega (arith, count_lt n i h q))
      by false q = q

  -- numbers with p rise as their ranks do
  pub count_rises : (b b' : ℕ) → p b' ≡ true → count p b < count p b' → b < b'
  count_rises b b' e h = by (dec_lt b b') (ℕ_discrete b b')
    where
      by : Dec (b < b') → Dec (b ≡ b') → b < b'
      by (yes l) d = l
      by (no l) (yes q) = omega (arith, ap (count p) q)
      by (no l) (no q) = omega (arith, count_lt b b' (omega arith) e)

  -- a count is at most all, and all where every number is counted
  pub count_most : (n : ℕ) → count p n ≤ n
  unfolding count
  count_most zero = omega arith
  count_most (suc n) = by (p n) (count_most n)
    where
      by : (t : Bool) → count p n ≤ n → cond t (count p n + 1) (count p n) ≤ suc n
      by true h = omega arith
      by false h = omega arith

  pub count_every : (n : ℕ) → ((i : ℕ) → i < n → p i ≡ true) → count p n ≡ n
  unfolding count
  count_every zero e = refl
  count_every (suc n) e = rw (e n (omega arith)) (omega (arith, count_every n (λ i h. e i (omega arith))))

-- the numbers whose key is below k + 1 are those whose key is below k and those whose key is k
pub count_keys : (key : ℕ → ℕ) (k n : ℕ)
    → count (λ b. ltb (key b) (suc k)) n ≡ count (λ b. ltb (key b) k) n + count (λ b. eqb (key b) k) n
unfolding count
count_keys key k zero = refl
count_keys key k (suc n) = by (dec_lt (key n) k) (ℕ_discrete (key n) k) (count_keys key k n)
  where
    by : Dec (key n < k) → Dec (key n ≡ k)
        → count (λ b. ltb (key b) (suc k)) n ≡ count (λ b. ltb (key b) k) n + count (λ b. eqb (key b) k) n
        → count (λ b. ltb (key b) (suc k)) (suc n) ≡ count (λ b. ltb (key b) k) (suc n) + count (λ b. eqb (key b) k) (suc n)
    by (yes l) d e =
        rw (lt-ltb (key n) k l, lt-ltb (key n) (suc k) (omega arith), ne_eqb (key n) k (omega arith)) (omega arith)
    by (no l) (yes q) e =
        rw (le-ltb (key n) k (omega arith), lt-ltb (key n) (suc k) (omega arith), eq-eqb (key n) k q) (omega arith)
    by (no l) (no q) e =
        rw (le-ltb (key n) k (omega arith), le-ltb (key n) (suc k) (omega arith), ne_eqb (key n) k q) (omega arith)

module _ {A : Type 0} (p : ℕ → Bool) (f : ℕ → A) where
  pub collect_more : (n : ℕ) → p n ≡ true → collect p f (n + 1) ≡ collect p f n ++ (f n ∷ [])
  unfolding collect
  collect_more n e = rw (add-one, e)

  pub collect_skip : (n : ℕ) → p n ≡ false → collect p f (n + 1) ≡ collect p f n
  unfolding collect
  collect_skip n e = rw (add-one, e) (append-nil (collect p f n))

  pub length_collect : (n : ℕ) → length (collect p f n) ≡ count p n
  unfolding collect count
  length_collect zero = refl
  length_collect (suc n) = rw (length-append, length_collect n) (by (p n))
    where
      by : (t : Bool) → count p n + length (cond t (f n ∷ []) []) ≡ cond t (count p n + 1) (count p n)
      by true = refl
      by false = add-zero (count p n)

  -- a number with p has its element where its rank says
  pub collect_at : (d : A) (n b : ℕ) → b < n → p b ≡ true → get_or (collect p f n) (count p b) d ≡ f b
  unfolding collect
  collect_at d zero b h e = absurd (omega arith)
  collect_at d (suc n) b h e = by (ℕ_discrete b n) (collect_at d n b)
    where
      by : Dec (b ≡ n) → (b < n → p b ≡ true → get_or (collect p f n) (count p b) d ≡ f b)
          → get_or (collect p f (suc n)) (count p b) d ≡ f b
      by (yes q) earlier = rw (q, rw q at e) (get_or_at (collect p f n) (f n) [] d (count p n) (length_collect n))
      by (no q) earlier =
          let k : b < n = omega arith in
          let l = count_lt p n b k e in
          get_or-append (collect p f n) (cond (p n) (f n ∷ []) []) d (count p b) (omega (arith, length_collect n))
          ∙ earlier k e

  pub collect_has : (d : A) (n b : ℕ) → b < n → p b ≡ true → Place d (collect p f n) (f b)
  collect_has d n b h e =
      record { index = count p b; inside = rw (length_collect n) (count_lt p n b h e); holds = collect_at d n b h e }

  from : (d : A) (n i b : ℕ) → b < n → p b ≡ true → count p b ≡ i → From p f d n i
  from d n i b h e r =
      record { number = b; below = h; has = e; rank = r; is = rw (← r) (sym (collect_at d n b h e)) }

  ranked : (d : A) (n i : ℕ) → i < count p n → From p f d n i
  unfolding count
  ranked d zero i h = absurd (omega arith)
  ranked d (suc n) i h = by (dec_lt i (count p n)) (ranked d n i) (p n) refl h
    where
      by : Dec (i < count p n) → (i < count p n → From p f d n i) → (t : Bool) → p n ≡ t
          → i < cond t (count p n + 1) (count p n) → From p f d (suc n) i
      by (yes k) earlier t e l = let r = earlier k in from d (suc n) i r.number (omega arith) r.has r.rank
      by (no k) earlier true e l = from d (suc n) i n (omega arith) e (omega arith)
      by (no k) earlier false e l = absurd (k l)

  pub collect_from : (d : A) (n i : ℕ) → i < length (collect p f n) → From p f d n i
  collect_from d n i h = ranked d n i (rw length_collect at h)

  -- two places that hold the same are one, if f tells the numbers with p apart
  pub collect_once : (d : A) (n : ℕ) → ((b b' : ℕ) → b < n → b' < n → p b ≡ true → p b' ≡ true → f b ≡ f b' → b ≡ b')
      → (i j : ℕ) → i < length (collect p f n) → j < length (collect p f n)
      → get_or (collect p f n) i d ≡ get_or (collect p f n) j d → i ≡ j
  collect_once d n apart i j h k e =
      let r = collect_from d n i h in
      let s = collect_from d n j k in
      let same = apart r.number s.number r.below s.below r.has s.has (r.is ∙ e ∙ sym s.is) in
      cc

-- a list in front of what is left of o takes in one element more
store_front : {A : Type 0} (xs o : List A) (v : A) → length xs < length o
    → set (xs ++ drop (length xs) o) (length xs) v ≡ (xs ++ (v ∷ [])) ++ drop (length xs + 1) o
store_front xs o v h = rw (add-one, drop-cons o (length xs) v h, append_snoc) (set-append_seam xs _ _ v)

-- a collected list in front of what is left of o
module _ {A : Type 0} (p : ℕ → Bool) (f : ℕ → A) (o : List A) (n : ℕ) where
  pub length_front : count p n ≤ length o → length (collect p f n ++ drop (count p n) o) ≡ length o
  length_front h = simp (length-append, length-drop) (omega (arith, length_collect p f n))

  pub front_more : p n ≡ true → count p n < length o
      → set (collect p f n ++ drop (count p n) o) (count p n) (f n) ≡ collect p f (n + 1) ++ drop (count p (n + 1)) o
  front_more e h =
      rw (collect_more p f n e, count_more p n e, ← length_collect p f n) (store_front (collect p f n) o (f n) (rw length_collect h))

  pub front_skip : p n ≡ false → collect p f n ++ drop (count p n) o ≡ collect p f (n + 1) ++ drop (count p (n + 1)) o
  front_skip e = rw (collect_skip p f n e, count_skip p n e)
