-- The laws of `foremost`, as a search in rising order keeps it: r leads among the numbers below n when none of them is ahead of it and
-- it is ahead of those before it. `Order` is what a search asks of `ahead`. Assumes nothing.
use mathlib.Core.Path.{◌≡◌, refl, sym, ◌∙◌}
use mathlib.Core.Logic.{◌⊎◌, inl, inr}
use mathlib.Core.Bool.{Bool, true, false, not, ◌&&◌, ◌||◌}
use Prim.Native.Nat.{ℕ, zero, suc, ◌+◌, ◌<◌, ◌≤◌}
use native.Mathlib.Omega.{arith}
use native.Mathlib.Numerals.{add-one}
use native.Mathlib.Decide.{ℕ_discrete, dec_lt}
use lib.Dec.{ltb, eqb}
use borrow.Author.Count.{below_more}
use borrow.Author.Tests.{lt-ltb, le-ltb, eq-eqb, ne_eqb, ltb-true, ltb-false}
use Rattle.laws.specs.Range.{every, foremost}
use Rattle.laws.proofs.Range.{every_fails, every_ext}
use Rattle.laws.proofs.First.{first_at, first_none, first_ext}
use Rattle.std.proofs.lemmas.Bool.{both_ways}

pub record Order (ahead : ℕ → ℕ → Bool) : Type 0 where
  pub self : (a : ℕ) → ahead a a ≡ false
  pub past : (a b c : ℕ) → ahead a b ≡ true → ahead c b ≡ false → ahead a c ≡ true
  pub back : (a b c : ℕ) → ahead a b ≡ true → ahead c b ≡ false → ahead c a ≡ false

pub every_holds : (p : ℕ → Bool) (n : ℕ) → ((k : ℕ) → k < n → p k ≡ true) → every p n ≡ true
unfolding every
every_holds p zero h = refl
every_holds p (suc n) h = rw (every_holds p n (λ k l. h k (omega arith)), h n (omega arith))

-- tests and orders that agree below n
pub foremost_ext : (p p' : ℕ → Bool) (a a' : ℕ → ℕ → Bool) (n : ℕ) → ((r : ℕ) → r < n → p r ≡ p' r)
    → ((q r : ℕ) → q < n → r < n → a q r ≡ a' q r) → foremost p a n ≡ foremost p' a' n
unfolding foremost
foremost_ext p p' a a' n e f =
    first_ext (λ r. p r && every (λ q. not (p q && a q r)) n) (λ r. p' r && every (λ q. not (p' q && a' q r)) n) n
    (λ r h.
    rw (e r h, every_ext (λ q. not (p q && a q r)) (λ q. not (p' q && a' q r)) n (λ q k. rw (e q k, f q r k h))))

module _ (p : ℕ → Bool) (ahead : ℕ → ℕ → Bool) where
  pub record Lead (n r : ℕ) : Type 0 where
    pub below : r < n
    pub has : p r ≡ true
    pub none : (q : ℕ) → q < n → p q ≡ true → ahead q r ≡ false
    pub before : (q : ℕ) → q < r → p q ≡ true → ahead r q ≡ true

  -- with one number more, what holds of that number
  more : (n r : ℕ) → ((q : ℕ) → q < n → p q ≡ true → ahead q r ≡ false) → (p n ≡ true → ahead n r ≡ false)
      → (q : ℕ) → q < n + 1 → p q ≡ true → ahead q r ≡ false
  more n r h e q l = below_more (λ j. p j ≡ true → ahead j r ≡ false) n h e q (omega arith)

  -- the first number with p
  pub lead_first : (n : ℕ) → ((q : ℕ) → q < n → p q ≡ false) → p n ≡ true → ahead n n ≡ false → Lead (n + 1) n
  lead_first n h e s =
      record {
        below = omega arith;
        has = e;
        none = more n n (λ q l i. absurd (both_ways (p q) (h q l) i)) (λ i. s);
        before = λ q l i. absurd (both_ways (p q) (h q l) i);
      }

  -- one number more, without p or not ahead
  pub lead_skip : (n r : ℕ) → Lead n r → p n ≡ false → Lead (n + 1) r
  lead_skip n r L e =
      record {
        below = omega (arith, L.below);
        has = L.has;
        none = more n r L.none (λ i. absurd (both_ways (p n) e i));
        before = L.before;
      }

  pub lead_keep : (n r : ℕ) → Lead n r → ahead n r ≡ false → Lead (n + 1) r
  lead_keep n r L e =
      record { below = omega (arith, L.below); has = L.has; none = more n r L.none (λ i. e); before = L.before }

  -- one number more, ahead of the one that led
  pub lead_take : (n r : ℕ) → Lead n r → Order ahead → p n ≡ true → ahead n r ≡ true → Lead (n + 1) n
  lead_take n r L O e h =
      record {
        below = omega arith;
        has = e;
        none = more n n (λ q l i. O.back n r q h (L.none q l i)) (λ i. O.self n);
        before = λ q l i. O.past n r q h (L.none q l i);
      }

  abbrev leads : ℕ → ℕ → Bool
  leads n r = p r && every (λ q. not (p q && ahead q r)) n

  clear : (q r : ℕ) (t : Bool) → p q ≡ t → (t ≡ true → ahead q r ≡ false) → not (p q && ahead q r) ≡ true
  clear q r true e h = rw (e, h refl)
  clear q r false e h = rw e

  beaten : (n q r : ℕ) (t : Bool) → p q ≡ t → r < n → p r ≡ true → (t ≡ true → ahead r q ≡ true) → leads n q ≡ false
  beaten n q r false e l i h = rw e
  beaten n q r true e l i h =
      rw e (every_fails (λ j. not (p j && ahead j q)) n r l (rw (i, h refl)))

  -- the one that leads among all is the foremost, and there is none where no number has p
  pub lead_all : (n r : ℕ) → Lead n r → foremost p ahead n ≡ r
  unfolding foremost
  lead_all n r L =
      first_at (leads n) n r L.below
      (rw L.has (every_holds _ n (λ q l. clear q r (p q) refl (L.none q l))))
      (λ q l. beaten n q r (p q) refl L.below L.has (L.before q l))

  pub lead_none : (n : ℕ) → ((q : ℕ) → q < n → p q ≡ false) → foremost p ahead n ≡ n
  unfolding foremost
  lead_none n h = first_none (leads n) n (λ q l. rw (h q l))

  -- where some number has p, one leads
  pub record Leader (n : ℕ) : Type 0 where
    pub at : ℕ
    pub leads : Lead n at

  search : Order ahead → (n : ℕ) → Leader n ⊎ ((q : ℕ) → q < n → p q ≡ false)
  search O zero = inr (λ q l. absurd (omega arith))
  search O (suc n) = rw (← add-one n) (by (search O n) (p n) refl)
    where
      against : (L : Leader n) (t : Bool) → ahead n L.at ≡ t → p n ≡ true → Leader (n + 1)
      against L true h e = record { at = n; leads = lead_take n L.at L.leads O e h }
      against L false h e = record { at = L.at; leads = lead_keep n L.at L.leads h }

      by : Leader n ⊎ ((q : ℕ) → q < n → p q ≡ false) → (t : Bool) → p n ≡ t → Leader (n + 1) ⊎ ((q : ℕ) → q < n + 1 → p q ≡ false)
      by (inl L) true e = inl (against L (ahead n L.at) refl e)
      by (inl L) false e = inl (record { at = L.at; leads = lead_skip n L.at L.leads e })
      by (inr h) true e = inl (record { at = n; leads = lead_first n h e (O.self n) })
      by (inr h) false e = inr (λ q l. below_more (λ j. p j ≡ false) n h e q (omega arith))

  pub lead_some : Order ahead → (n q : ℕ) → q < n → p q ≡ true → Lead n (foremost p ahead n)
  lead_some O n q l e = by (search O n)
    where
      by : Leader n ⊎ ((q : ℕ) → q < n → p q ≡ false) → Lead n (foremost p ahead n)
      by (inl L) = rw (lead_all n L.at L.leads) L.leads
      by (inr h) = absurd (both_ways (p q) (h q l) e)

-- smaller keys are ahead
pub by_key : (key : ℕ → ℕ) → Order (λ a b. ltb (key a) (key b))
by_key key =
    record {
      self = λ a. le-ltb (key a) (key a) (omega arith);
      past = λ a b c h k. lt-ltb (key a) (key c) (omega (arith, ltb-true (key a) (key b) h, ltb-false (key c) (key b) k));
      back = λ a b c h k. le-ltb (key c) (key a) (omega (arith, ltb-true (key a) (key b) h, ltb-false (key c) (key b) k));
    }

-- larger first keys are ahead, and of equal ones smaller second keys
abbrev pub over : ℕ → ℕ → ℕ → ℕ → Bool
over x u y v = ltb y x || eqb x y && ltb u v

above : (x u y v : ℕ) → y < x → over x u y v ≡ true
above x u y v h = rw (lt-ltb y x h)

level : (x u y v : ℕ) → x ≡ y → over x u y v ≡ ltb u v
level x u y v h = rw (le-ltb y x (omega arith), eq-eqb x y h)

under : (x u y v : ℕ) → x < y → over x u y v ≡ false
under x u y v h = rw (le-ltb y x (omega arith), ne_eqb x y (omega arith))

pub over_true : (x u y v : ℕ) → over x u y v ≡ true → (y ≤ x) × (x ≤ y → u < v)
over_true x u y v e = by (dec_lt y x) (ℕ_discrete x y)
  where
    by : Dec (y < x) → Dec (x ≡ y) → (y ≤ x) × (x ≤ y → u < v)
    by (yes h) d = (omega arith, λ k. absurd (omega arith))
    by (no h) (yes q) = (omega arith, λ k. ltb-true u v (sym (level x u y v q) ∙ e))
    by (no h) (no q) = absurd (both_ways (over x u y v) (under x u y v (omega arith)) e)

pub over_false : (x u y v : ℕ) → over x u y v ≡ false → (x ≤ y) × (y ≤ x → v ≤ u)
over_false x u y v e = by (dec_lt y x) (ℕ_discrete x y)
  where
    by : Dec (y < x) → Dec (x ≡ y) → (x ≤ y) × (y ≤ x → v ≤ u)
    by (yes h) d = absurd (both_ways (over x u y v) e (above x u y v h))
    by (no h) (yes q) = (omega arith, λ k. ltb-false u v (sym (level x u y v q) ∙ e))
    by (no h) (no q) = (omega arith, λ k. absurd (omega arith))

over_yes : (x u y v : ℕ) → y ≤ x → (x ≤ y → u < v) → over x u y v ≡ true
over_yes x u y v l k = by (ℕ_discrete x y)
  where
    by : Dec (x ≡ y) → over x u y v ≡ true
    by (yes q) = level x u y v q ∙ lt-ltb u v (k (omega arith))
    by (no q) = above x u y v (omega arith)

over_no : (x u y v : ℕ) → x ≤ y → (y ≤ x → v ≤ u) → over x u y v ≡ false
over_no x u y v l k = by (ℕ_discrete x y)
  where
    by : Dec (x ≡ y) → over x u y v ≡ false
    by (yes q) = level x u y v q ∙ le-ltb u v (k (omega arith))
    by (no q) = under x u y v (omega arith)

pub by_keys : (key₁ key₂ : ℕ → ℕ) → Order (λ a b. ltb (key₁ b) (key₁ a) || eqb (key₁ a) (key₁ b) && ltb (key₂ a) (key₂ b))
by_keys f g =
    record {
      self = λ a. over_no (f a) (g a) (f a) (g a) (omega arith) (λ k. omega arith);
      past = λ a b c h k.
          let t = over_true (f a) (g a) (f b) (g b) h in
          let u = over_false (f c) (g c) (f b) (g b) k in
          over_yes (f a) (g a) (f c) (g c) (omega (arith, t.0, u.0))
          (λ l. omega (arith, t.1 (omega (arith, t.0, u.0)), u.1 (omega (arith, t.0, u.0))));
      back = λ a b c h k.
          let t = over_true (f a) (g a) (f b) (g b) h in
          let u = over_false (f c) (g c) (f b) (g b) k in
          over_no (f c) (g c) (f a) (g a) (omega (arith, t.0, u.0))
          (λ l. omega (arith, t.1 (omega (arith, t.0, u.0)), u.1 (omega (arith, t.0, u.0))));
    }
