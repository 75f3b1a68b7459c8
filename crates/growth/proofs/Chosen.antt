-- The choice of a row: (1) by edges among the farthest rows it is the choice by distance and edges among all; (2) it depends on the
-- lists only by what they say of the rows below m. Assumes nothing.
use mathlib.Core.Path.{◌≡◌, refl, sym, ap, ◌∙◌}
use mathlib.Core.Bool.{Bool, true, false, not, ◌&&◌, ◌||◌}
use mathlib.Core.List.{List}
use Prim.Native.Nat.{ℕ, zero, suc, ◌<◌, ◌≤◌}
use native.Mathlib.Omega.{arith}
use native.Mathlib.Decide.{dec_lt}
use lib.Dec.{leb, ltb, leb→le}
use lib.ListN.{get_or}
use Rattle.std.proofs.lemmas.Bool.{and_parts, both_ways, not-true, false_from_ne_true, lt-ltb, le-ltb, le-leb, ltb-true}
use Rattle.std.proofs.lemmas.Float.{T_from_true}
use Rattle.laws.specs.Range.{every, some, foremost}
use Rattle.laws.proofs.Range.{every_at, every_ext}
use Rattle.laws.proofs.First.{first_ext}
use Rattle.laws.proofs.Foremost.{Lead, over_true, over_false, by_keys, every_holds, foremost_ext, lead_all, lead_none, lead_some}
use Rattle.laws.proofs.Some.{some_ext, some_fails, some_from}
use Rattle.columns.specs.Found.{below}
use Rattle.growth.specs.declared.rows.RowSet.{RowSet}
use Rattle.growth.specs.Growth.{reached, steps, ahead_by, shares, taken, distance, edges_on, next_row}
use Rattle.growth.specs.Rows.{has}
use Rattle.growth.specs.Search.{meets, begun, fewer, farthest, chosen}

module _ (m : ℕ) (link link' : ℕ → ℕ → Bool) (from from' : ℕ → Bool) (e : (q r : ℕ) → q < m → r < m → link q r ≡ link' q r)
    (f : (r : ℕ) → r < m → from r ≡ from' r) where
  reached_ext : (n r : ℕ) → r < m → reached m link from n r ≡ reached m link' from' n r
  unfolding reached
  reached_ext zero r h = f r h
  reached_ext (suc n) r h =
      rw (
        reached_ext n r h,
        some_ext (λ q. reached m link from n q && link q r) (λ q. reached m link' from' n q && link' q r) m
            (λ q k. rw (reached_ext n q k, e q r k h)),
      )

  steps_ext : (r : ℕ) → r < m → steps m link from r ≡ steps m link' from' r
  unfolding steps
  steps_ext r h =
      first_ext (λ n. reached m link from n r) (λ n. reached m link' from' n r) m (λ n k. reached_ext n r h)

-- the rows that are not taken and farthest, and of them the choice by edges alone
module _ (m : ℕ) (fits : m ≤ 64) (link : ℕ → ℕ → Bool) (from : ℕ → Bool) (edges : ℕ → ℕ) (far : ℕ → Bool)
    (is : (r : ℕ) → far r ≡ (ltb r m && farthest m link from r)) where
  abbrev ahead : ℕ → ℕ → Bool
  ahead = ahead_by (steps m link from) edges

  far_low : (r : ℕ) → far r ≡ true → r < m
  far_low r t = ltb-true r m (and_parts (ltb r m) (farthest m link from r) (sym (is r) ∙ t)).0

  far_free : (r : ℕ) → far r ≡ true → not (from r) ≡ true
  unfolding farthest
  far_free r t =
      let b = and_parts (ltb r m) (not (from r) && every (λ q. from q || leb (steps m link from q) (steps m link from r)) m) (sym (is r) ∙ t) in
      (and_parts (not (from r)) (every (λ q. from q || leb (steps m link from q) (steps m link from r)) m) b.1).0

  far_most : (r q : ℕ) → far r ≡ true → q < m → from q ≡ false → steps m link from q ≤ steps m link from r
  unfolding farthest
  far_most r q t h f =
      let b = and_parts (ltb r m) (not (from r) && every (λ q. from q || leb (steps m link from q) (steps m link from r)) m) (sym (is r) ∙ t) in
      let e = (and_parts (not (from r)) (every (λ q. from q || leb (steps m link from q) (steps m link from r)) m) b.1).1 in
      leb→le (steps m link from q) (steps m link from r)
      (rw f at (every_at (λ q. from q || leb (steps m link from q) (steps m link from r)) m (T_from_true _ e) q h))

  module _ {x : ℕ} (L : Lead (λ r. not (from r)) ahead m x) where
    far_leads : Lead far (fewer edges) 64 x
    unfolding farthest
    far_leads =
        record {
          below = omega (arith, L.below);
          has =
              is x
              ∙ rw (
                lt-ltb x m L.below,
                L.has,
                every_holds (λ q. from q || leb (steps m link from q) (steps m link from x)) m (λ q h. most q h (from q) refl),
              );
          none = λ q h t.
              let n = over_false _ (edges q) _ (edges x) (L.none q (far_low q t) (far_free q t)) in
              le-ltb (edges q) (edges x) (n.1 (far_most q x t L.below (not-true (from x) L.has)));
          before = λ q h t.
              let n = over_true _ (edges x) _ (edges q) (L.before q h (far_free q t)) in
              lt-ltb (edges x) (edges q) (n.1 (far_most q x t L.below (not-true (from x) L.has)));
        }
      where
        most : (q : ℕ) → q < m → (t : Bool) → from q ≡ t → (from q || leb (steps m link from q) (steps m link from x)) ≡ true
        most q h true e = rw e
        most q h false e =
            rw e
            (le-leb (steps m link from q) (steps m link from x) (over_false _ (edges q) _ (edges x) (L.none q h (rw e))).0)

  picked_far : below 64 (foremost far (fewer edges) 64) ≡ below m (foremost (λ r. not (from r)) ahead m)
  picked_far = by (some (λ r. not (from r)) m) refl
    where
      by : (t : Bool) → some (λ r. not (from r)) m ≡ t
          → below 64 (foremost far (fewer edges) 64) ≡ below m (foremost (λ r. not (from r)) ahead m)
      by true t =
          let s = some_from (λ r. not (from r)) m t in
          let L = lead_some (λ r. not (from r)) ahead (by_keys (steps m link from) edges) m s.at s.below s.has in
          let x = foremost (λ r. not (from r)) ahead m in
          rw (lead_all far (fewer edges) 64 x (far_leads L), lt-ltb x 64 (omega (arith, L.below)), lt-ltb x m L.below)
      by false f =
          rw (
            lead_none far (fewer edges) 64
                (λ q h. false_from_ne_true (far q) (λ t. both_ways (not (from q)) (some_fails (λ r. not (from r)) m f q (far_low q t)) (far_free q t))),
            lead_none (λ r. not (from r)) ahead m (some_fails (λ r. not (from r)) m f),
            le-ltb m m (omega arith),
          )

-- the search's rows are those that the choice is among
module _ (m : ℕ) (fits : m ≤ 64) (near : List RowSet) (degree rows : List ℕ) (p : ℕ) (taken far : RowSet)
    (begins : (r : ℕ) → has taken r ≡ begun rows p r)
    (found : (r : ℕ) → has far r ≡ (ltb r m && farthest m (meets near) (has taken) r)) where
  same_far : (r : ℕ) → has far r ≡ (ltb r m && farthest m (meets near) (begun rows p) r)
  unfolding farthest
  same_far r = found r ∙ by (dec_lt r m)
    where
      far_steps : (q : ℕ) → q < m → steps m (meets near) (has taken) q ≡ steps m (meets near) (begun rows p) q
      far_steps q h = steps_ext m (meets near) (meets near) (has taken) (begun rows p) (λ q s k l. refl) (λ r l. begins r) q h

      by : Dec (r < m)
          → (ltb r m && (not (has taken r) && every (λ q. has taken q || leb (steps m (meets near) (has taken) q) (steps m (meets near) (has taken) r)) m))
          ≡ (ltb r m && (not (begun rows p r) && every (λ q. begun rows p q || leb (steps m (meets near) (begun rows p) q) (steps m (meets near) (begun rows p) r)) m))
      by (no h) = rw (le-ltb r m (omega arith))
      by (yes h) =
          rw (
            begins r,
            every_ext (λ q. has taken q || leb (steps m (meets near) (has taken) q) (steps m (meets near) (has taken) r))
                (λ q. begun rows p q || leb (steps m (meets near) (begun rows p) q) (steps m (meets near) (begun rows p) r)) m
                (λ q l. rw (begins q, far_steps q l, far_steps r h)),
          )

  pub picked_is : below 64 (foremost (has far) (fewer (λ q. get_or degree q 0)) 64) ≡ below m (chosen m near degree rows p)
  unfolding chosen
  picked_is = picked_far m fits (meets near) (begun rows p) (λ q. get_or degree q 0) (has far) same_far

-- where the lists say what the definitions say, the choice is the definition's
module _ (m k : ℕ) (all : List ℕ) where
  pub chosen_is : (near : List RowSet) (degree rows : List ℕ) (p : ℕ)
      → ((q r : ℕ) → q < m → r < m → meets near q r ≡ shares m k all q r)
      → ((r : ℕ) → r < m → get_or degree r 0 ≡ edges_on m k all r) → ((r : ℕ) → r < m → begun rows p r ≡ taken m k all r)
      → chosen m near degree rows p ≡ next_row m k all
  unfolding chosen next_row distance
  chosen_is near degree rows p e f g =
      foremost_ext (λ r. not (begun rows p r)) (λ r. not (taken m k all r))
      (ahead_by (steps m (meets near) (begun rows p)) (λ r. get_or degree r 0))
      (ahead_by (distance m k all) (edges_on m k all))
      m
      (λ r h. ap not (g r h))
      (λ q r h l. rw (far q h, far r l, f q h, f r l))
    where
      far : (r : ℕ) → r < m → steps m (meets near) (begun rows p) r ≡ distance m k all r
      far r h = steps_ext m (meets near) (shares m k all) (begun rows p) (taken m k all) e g r h
