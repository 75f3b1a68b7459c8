-- The choice of a row, as a loop keeps the best so far. Assumes nothing.
use mathlib.Core.Path.{◌≡◌, refl, sym, ◌∙◌}
use mathlib.Core.Bool.{Bool, true, false, not, ◌&&◌, and-true, true≢false}
use Prim.Native.Nat.{ℕ, zero, suc, ◌+◌, ◌-◌, ◌<◌, ◌≤◌}
use native.Mathlib.Omega.{arith}
use borrow.Author.Count.{below_more}
use native.Mathlib.Nat.{add-zero, add-suc}
use native.Mathlib.Numerals.{add-one}
use native.Mathlib.Decide.{ℕ_discrete, dec_lt}
use lib.Dec.{eqb}
use borrow.Author.Tests.{le-ltb, lt-ltb, eq-eqb, ne_eqb}
use Rattle.std.specs.Prelude.{Option, Some, None, MatchOption, IfSome}
use Rattle.laws.specs.Range.{foremost}
use Rattle.laws.proofs.Foremost.{Order, Lead, lead_first, lead_skip, lead_keep, lead_take, lead_all, lead_none}
use Rattle.std.proofs.lemmas.Bool.{and_parts, and_right}
use Rattle.columns.specs.Found.{below}
use Rattle.growth.specs.Search.{leads_over}

-- of the numbers below n the best one leads, or there is none and no number has p
abbrev pub Best : (ℕ → Bool) → (ℕ → ℕ → Bool) → ℕ → Option ℕ → Type 0
Best p ahead n best = MatchOption best ((q : ℕ) → q < n → p q ≡ false) (λ b. Lead p ahead n b)

module _ (p : ℕ → Bool) (ahead : ℕ → ℕ → Bool) where
  best_take : (n : ℕ) (best : Option ℕ) → Order ahead → Best p ahead n best → (p n && leads_over ahead n best) ≡ true
      → Best p ahead (n + 1) (Some n)
  best_take n None O B t = lead_first p ahead n B (and_parts (p n) true t).0 (O.self n)
  best_take n (Some b) O B t = let both = and_parts (p n) (ahead n b) t in lead_take p ahead n b B O both.0 both.1

  best_keep : (n : ℕ) (best : Option ℕ) → Best p ahead n best → (p n && leads_over ahead n best) ≡ false → Best p ahead (n + 1) best
  best_keep n None B f = below_more (λ q. p q ≡ false) n B (none (p n) refl)
    where
      none : (t : Bool) → p n ≡ t → p n ≡ false
      none true e = absurd (true≢false (rw e at f))
      none false e = e
  best_keep n (Some b) B f = by (p n) refl
    where
      by : (t : Bool) → p n ≡ t → Lead p ahead (n + 1) b
      by false e = lead_skip p ahead n b B e
      by true e = lead_keep p ahead n b B (rw e at f)

  best_skip : (n : ℕ) (best : Option ℕ) → Best p ahead n best → p n ≡ false → Best p ahead (n + 1) best
  best_skip n None B f = below_more (λ q. p q ≡ false) n B f
  best_skip n (Some b) B f = lead_skip p ahead n b B f

  -- none of the d numbers from n on has p
  best_past : (n d : ℕ) (best : Option ℕ) → Best p ahead n best → ((s : ℕ) → n ≤ s → s < n + d → p s ≡ false) → Best p ahead (n + d) best
  best_past n zero best B f = rw (add-zero n) B
  best_past n (suc d) best B f =
      rw (add-suc n d, ← add-one (n + d))
      (best_skip (n + d) best (best_past n d best B (λ s h l. f s h (omega arith))) (f (n + d) (omega arith) (omega arith)))

  -- the numbers left are those with p from the bound on; of those below it the best is kept
  pub record Picking (left : ℕ → Bool) (best : Option ℕ) : Type 0 where
    pub bound : ℕ
    pub most : bound ≤ 64
    pub best_is : Best p ahead bound best
    pub gone : (s : ℕ) → s < bound → left s ≡ false
    pub still : (s : ℕ) → bound ≤ s → left s ≡ p s

  pub picking_first : Picking p None
  picking_first =
      record { bound = 0; most = omega arith; best_is = λ q h. absurd (omega arith); gone = λ s h. absurd (omega arith); still = λ s h. refl }

  -- the lowest number left is taken out
  module _ {left left' : ℕ → Bool} {best : Option ℕ} (P : Picking left best) (r : ℕ) (low : r < 64) (had : left r ≡ true)
      (first : (s : ℕ) → s < r → left s ≡ false) (others : (s : ℕ) → left' s ≡ (left s && not (eqb s r))) where
    ahead_of : P.bound ≤ r
    ahead_of = by (dec_lt r P.bound)
      where
        by : Dec (r < P.bound) → P.bound ≤ r
        by (yes h) = absurd (true≢false (sym had ∙ P.gone r h))
        by (no h) = omega arith

    best_here : Best p ahead r best
    best_here =
        let e : P.bound + (r - P.bound) ≡ r = omega (arith, ahead_of) in
        rw e at (best_past P.bound (r - P.bound) best P.best_is (λ s h l. sym (P.still s h) ∙ first s (omega (arith, ahead_of))))

    has_it : p r ≡ true
    has_it = sym (P.still r ahead_of) ∙ had

    picking_on : {best' : Option ℕ} → Best p ahead (r + 1) best' → Picking left' best'
    picking_on B = record { bound = r + 1; most = omega arith; best_is = B; gone = λ s h. gone s h (ℕ_discrete s r); still = still }
      where
        gone : (s : ℕ) → s < r + 1 → Dec (s ≡ r) → left' s ≡ false
        gone s h (yes e) = others s ∙ rw (eq-eqb s r e) (and_right (left s) false refl)
        gone s h (no n) = others s ∙ rw (first s (omega arith))

        still : (s : ℕ) → r + 1 ≤ s → left' s ≡ p s
        still s h = others s ∙ rw (ne_eqb s r (omega arith)) (and-true (left s) ∙ P.still s (omega (arith, ahead_of)))

    pub picking_take : Order ahead → leads_over ahead r best ≡ true → Picking left' (Some r)
    picking_take O t = picking_on (best_take r best O best_here (rw (has_it, t)))

    pub picking_keep : leads_over ahead r best ≡ false → Picking left' best
    picking_keep f = picking_on (best_keep r best best_here (rw (has_it, f)))

  pub picking_low : {left : ℕ → Bool} (best : Option ℕ) → Picking left best → IfSome best (λ q. q < 64)
  picking_low None P = tt
  picking_low (Some b) P = omega (arith, P.most, P.best_is.below)

  best_end : (m : ℕ) (best : Option ℕ) → Best p ahead m best → best ≡ below m (foremost p ahead m)
  best_end m None B = rw (lead_none p ahead m B, le-ltb m m (omega arith))
  best_end m (Some b) B = rw (lead_all p ahead m b B, lt-ltb b m B.below)

  pub picking_end : {left : ℕ → Bool} {best : Option ℕ} → Picking left best → ((s : ℕ) → left s ≡ false)
      → best ≡ below 64 (foremost p ahead 64)
  picking_end {left} {best} P none =
      let e : P.bound + (64 - P.bound) ≡ 64 = omega (arith, P.most) in
      best_end 64 best (rw e at (best_past P.bound (64 - P.bound) best P.best_is (λ s h l. sym (P.still s h) ∙ none s)))
