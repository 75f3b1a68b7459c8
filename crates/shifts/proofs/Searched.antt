-- The laws of the search: (1) a draw's penalty, summed over the biases; (2) the draws, one after the other. Assumes nothing.
use Rattle.std.proofs.Common.{◌≡◌, ℕ, zero, suc, ◌+◌, ◌*◌, ◌<◌, ◌≤◌, true, false, eqb, ltb, ◌⊎◌, List, get_or, sym, refl, ap, ◌∙◌, subst, inl, inr, add-one, arith, below_more, le-ltb, lt-ltb, eq-eqb, ne_eqb}
use borrow.Author.Tests.{eqb-false}
use Rattle.laws.specs.Range.{sum, first}
use Rattle.laws.proofs.Range.{sum_more}
use Rattle.laws.proofs.First.{first_at, first_none}
use Rattle.laws.proofs.Foremost.{Lead, lead_first, lead_keep, lead_take, lead_all, by_key}
use Rattle.shifts.specs.Generator.{next_state, state_after, draw_of}
use Rattle.shifts.specs.Shifts.{weight, penalty, draw_at, penalty_at, least_draw, draws}
use Rattle.shifts.specs.Biases.{bias_cost, Follows}
use Rattle.shifts.proofs.Weighed.{weight_le}

-- ---- (1) before turn i
pub record Summing (bias : List ℕ) (n x sum i : ℕ) : Type 0 where
  pub within : i ≤ n
  pub is : sum ≡ bias_cost bias i x
  pub small : sum ≤ 1000 * i

module _ {bias : List ℕ} {n x : ℕ} where
  pub summing_first : Summing bias n x 0 0
  unfolding bias_cost sum
  summing_first = record { within = omega arith; is = refl; small = omega arith }

  pub summing_next : {s i b w : ℕ} → Summing bias n x s i → i < n → b ≡ get_or bias i 0 → w ≡ weight (x + b) 1022
      → Summing bias n x (s + w) (i + 1)
  unfolding bias_cost
  summing_next {s} {i} {b} {w} S h e q =
      let more : bias_cost bias (i + 1) x ≡ bias_cost bias i x + weight (x + get_or bias i 0) 1022 =
      sum_more (λ k. weight (x + get_or bias k 0) 1022) i in
      let same : weight (x + b) 1022 ≡ weight (x + get_or bias i 0) 1022 = ap (λ (k : ℕ). weight (x + k) 1022) e in
      record {
        within = omega arith;
        is = sym (more ∙ omega (arith, S.is, q, same));
        small = omega (arith, S.small, q, weight_le (x + b) 1022);
      }

-- ---- (2) of the draws below i the one at `at` leads
module _ (rows shifts : List ℕ) (s : ℕ) where
  abbrev pen : ℕ → ℕ
  pen = penalty_at rows shifts s

  abbrev Leads : ℕ → ℕ → Type 0
  Leads = Lead (λ i. true) (λ i j. ltb (pen i) (pen j))

  pub record Led (best shift i : ℕ) : Type 0 where
    pub at : ℕ
    pub leads : Leads i at
    pub best_is : best ≡ pen at
    pub shift_is : shift ≡ draw_at rows shifts s at

  -- before the draw i: none had penalty 0
  pub record Searching (state best shift i : ℕ) : Type 0 where
    pub within : i ≤ 256
    pub reached : state ≡ state_after s i
    pub costly : (q : ℕ) → q < i → eqb (pen q) 0 ≡ false
    pub led : ((i ≡ 0) × (best ≡ 200000)) ⊎ Led best shift i

  pub searching_first : {shift : ℕ} → Searching s 200000 shift 0
  unfolding state_after
  searching_first =
      record { within = omega arith; reached = refl; costly = λ q h. absurd (omega arith); led = inl (refl, refl) }

  -- the draw i, and its penalty p
  pub record Draw (state x p i : ℕ) : Type 0 where
    pub below : i < 256
    pub reached : state ≡ state_after s (suc i)
    pub x_is : x ≡ draw_at rows shifts s i
    pub p_is : p ≡ pen i
    pub small : p < 200000

  module _ {state best shift i : ℕ} (S : Searching state best shift i) where
    -- what the code draws
    pub drawn : {state' x p : ℕ} → i < 256 → state' ≡ next_state state → x ≡ draw_of state' → p ≡ penalty rows shifts x → p < 200000
        → Draw state' x p i
    unfolding state_after draw_at penalty_at
    drawn {state'} {x} {p} h e q r l =
        let reached : state' ≡ next_state (state_after s i) = e ∙ ap next_state S.reached in
        let x_is : x ≡ draw_of (next_state (state_after s i)) = q ∙ ap draw_of reached in
        record { below = h; reached = reached; x_is = x_is; p_is = r ∙ ap (penalty rows shifts) x_is; small = l }

    module _ {state' x p : ℕ} (D : Draw state' x p i) where
      -- of the state and of the penalties passed
      next : {best' shift' : ℕ} → (p ≡ 0 → ⊥) → Led best' shift' (i + 1) → Searching state' best' shift' (i + 1)
      next n L =
          record {
            within = omega (arith, D.below);
            reached = rw add-one D.reached;
            costly = λ q h.
                below_more (λ j. eqb (pen j) 0 ≡ false) i S.costly (ne_eqb (pen i) 0 (λ e. n (D.p_is ∙ e))) q (omega arith);
            led = inr L;
          }

      pub search_take : (p ≡ 0 → ⊥) → p < best → Searching state' p x (i + 1)
      search_take n h = next n (by S.led)
        where
          by : ((i ≡ 0) × (best ≡ 200000)) ⊎ Led best shift i → Led p x (i + 1)
          by (inl (e, q)) =
              record {
                at = i;
                leads = lead_first _ _ i (λ q l. absurd (omega arith)) refl (le-ltb (pen i) (pen i) (omega arith));
                best_is = D.p_is;
                shift_is = D.x_is;
              }
          by (inr L) =
              record {
                at = i;
                leads = lead_take _ _ i L.at L.leads (by_key pen) refl (lt-ltb (pen i) (pen L.at) (omega (arith, D.p_is, L.best_is)));
                best_is = D.p_is;
                shift_is = D.x_is;
              }

      pub search_keep : (p ≡ 0 → ⊥) → best ≤ p → Searching state' best shift (i + 1)
      search_keep n h = next n (by S.led)
        where
          by : ((i ≡ 0) × (best ≡ 200000)) ⊎ Led best shift i → Led best shift (i + 1)
          by (inl (e, q)) = absurd (omega (arith, D.small))
          by (inr L) =
              record {
                at = L.at;
                leads = lead_keep _ _ i L.at L.leads (le-ltb (pen i) (pen L.at) (omega (arith, D.p_is, L.best_is)));
                best_is = L.best_is;
                shift_is = L.shift_is;
              }

      -- penalty 0: no draw is ahead, and those before have more
      free : p ≡ 0 → Leads 256 i
      free z =
          let none : pen i ≡ 0 = omega (arith, D.p_is) in
          record {
            below = D.below;
            has = refl;
            none = λ q l t. le-ltb (pen q) (pen i) (omega arith);
            before = λ q l t. lt-ltb (pen i) (pen q) (positive (pen q) (S.costly q l) none);
          }
        where
          positive : (k : ℕ) → eqb k 0 ≡ false → pen i ≡ 0 → pen i < k
          positive zero e n = absurd (eqb-false 0 0 e refl)
          positive (suc k) e n = omega arith

      pub search_free : p ≡ 0 → Follows rows shifts s x state'
      unfolding least_draw draws
      search_free z =
          let least : least_draw rows shifts s ≡ i = lead_all _ _ 256 i (free z) in
          let none : pen i ≡ 0 = omega (arith, D.p_is) in
          let one : first (λ j. eqb (pen j) 0) 256 ≡ i = first_at _ 256 i D.below (eq-eqb (pen i) 0 none) S.costly in
          let few : draws rows shifts s ≡ suc i = rw one (omega (arith, D.below)) in
          record { shift_is = D.x_is ∙ ap (draw_at rows shifts s) (sym least); state_is = D.reached ∙ ap (state_after s) (sym few) }

    pub search_all : 256 ≤ i → Follows rows shifts s shift state
    unfolding least_draw draws
    search_all h = by S.led
      where
        by : ((i ≡ 0) × (best ≡ 200000)) ⊎ Led best shift i → Follows rows shifts s shift state
        by (inl (e, q)) = absurd (omega arith)
        by (inr L) =
            let all : i ≡ 256 = omega (arith, S.within) in
            let least : least_draw rows shifts s ≡ L.at = lead_all _ _ 256 L.at (subst (λ (k : ℕ). Leads k L.at) all L.leads) in
            let none : first (λ j. eqb (pen j) 0) 256 ≡ 256 = first_none _ 256 (λ q l. S.costly q (omega arith)) in
            let few : draws rows shifts s ≡ i = rw none (omega arith) in
            record { shift_is = L.shift_is ∙ ap (draw_at rows shifts s) (sym least); state_is = S.reached ∙ ap (state_after s) (sym few) }
