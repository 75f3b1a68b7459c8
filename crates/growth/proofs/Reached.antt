-- A search in steps: what is known before each, and that the rows that are left at its end are the farthest. Assumes nothing.
use mathlib.Core.Path.{◌≡◌, refl, sym, ◌∙◌}
use mathlib.Core.Logic.{◌⊎◌, inl, inr}
use mathlib.Core.Bool.{Bool, true, false, not, ◌&&◌, ◌||◌, true≢false}
use Prim.Native.Nat.{ℕ, zero, suc, ◌+◌, ◌-◌, ◌^◌, ◌<◌, ◌≤◌}
use native.Mathlib.Omega.{arith}
use native.Mathlib.Nat.{add-zero, add-suc}
use native.Mathlib.Numerals.{add-one}
use native.Mathlib.Decide.{dec_lt}
use lib.Dec.{leb, ltb}
use borrow.Author.Tests.{lt-ltb, le-ltb}
use Rattle.laws.specs.Range.{every, some, count, first}
use Rattle.laws.proofs.Range.{every_fails}
use Rattle.laws.proofs.Collect.{count_lt, count_most}
use Rattle.laws.proofs.First.{first_at, first_none, first_least}
use Rattle.laws.proofs.Foremost.{every_holds}
use Rattle.std.proofs.lemmas.Bool.{and_parts, and_right, both_ways, not-false, ltb-true, false_from_ne_true, or_left, or_right, lt-leb, le-leb}
use Rattle.laws.proofs.Some.{Some, alike, some_ext, some_from, some_has, count_fewer}
use Rattle.growth.specs.Growth.{reached, steps}
use Rattle.growth.specs.declared.rows.RowSet.{RowSet}
use Rattle.growth.specs.Rows.{has}
use Rattle.growth.specs.Search.{farthest}
use Rattle.growth.proofs.Words.{some_row, no_row, same_rows}

module _ (m : ℕ) (link : ℕ → ℕ → Bool) (from : ℕ → Bool) where
  -- a step more
  reached_next : (n r : ℕ) → reached m link from (n + 1) r ≡ (reached m link from n r || some (λ q. reached m link from n q && link q r) m)
  unfolding reached
  reached_next n r = rw (add-one n)

  reached_more : (n r : ℕ) → reached m link from n r ≡ true → reached m link from (n + 1) r ≡ true
  reached_more n r e = reached_next n r ∙ or_left (reached m link from n r) (some (λ q. reached m link from n q && link q r) m) e

  reached_later : (n d r : ℕ) → reached m link from n r ≡ true → reached m link from (n + d) r ≡ true
  reached_later n zero r e = rw (add-zero n) e
  reached_later n (suc d) r e = rw (add-suc n d, ← add-one (n + d)) (reached_more (n + d) r (reached_later n d r e))

  reached_not : (n j r : ℕ) → j ≤ n → reached m link from n r ≡ false → reached m link from j r ≡ false
  reached_not n j r h f =
      let e : j + (n - j) ≡ n = omega arith in
      false_from_ne_true (reached m link from j r) (λ t. both_ways (reached m link from n r) f (rw e at (reached_later j (n - j) r t)))

  steps_le : (n r : ℕ) → n < m → reached m link from n r ≡ true → steps m link from r ≤ n
  unfolding steps
  steps_le n r h t = by (dec_lt n (first (λ n. reached m link from n r) m))
    where
      by : Dec (n < first (λ n. reached m link from n r) m) → first (λ n. reached m link from n r) m ≤ n
      by (yes l) = absurd (both_ways (reached m link from n r) ((first_least (λ n. reached m link from n r) m).before n l) t)
      by (no l) = omega arith

  -- one step more than n
  steps_next : (n r : ℕ) → n < m → reached m link from n r ≡ false → reached m link from (n + 1) r ≡ true → steps m link from r ≡ n + 1
  unfolding steps
  steps_next n r h f t = by (dec_lt (n + 1) m)
    where
      none : (j : ℕ) → j < n + 1 → reached m link from j r ≡ false
      none j l = reached_not n j r (omega arith) f

      by : Dec (n + 1 < m) → first (λ n. reached m link from n r) m ≡ n + 1
      by (yes l) = first_at (λ n. reached m link from n r) m (n + 1) l t none
      by (no l) =
          let e : m ≡ n + 1 = omega arith in
          first_none (λ n. reached m link from n r) m (λ j k. none j (omega arith)) ∙ e

  -- where a step leads to no other row, no more steps do
  module _ (n : ℕ) (same : (r : ℕ) → r < m → reached m link from (n + 1) r ≡ reached m link from n r) where
    stays : (d r : ℕ) → r < m → reached m link from (n + d) r ≡ reached m link from n r
    stays zero r h = rw (add-zero n)
    stays (suc d) r h =
        rw (add-suc n d, ← add-one (n + d))
        (reached_next (n + d) r
        ∙ rw (
          stays d r h,
          some_ext (λ q. reached m link from (n + d) q && link q r) (λ q. reached m link from n q && link q r) m (λ q l. rw (stays d q l)),
        )
        (sym (reached_next n r) ∙ same r h))

    steps_never : (r : ℕ) → r < m → reached m link from n r ≡ false → steps m link from r ≡ m
    unfolding steps
    steps_never r h f = first_none (λ n. reached m link from n r) m (λ j l. at j (dec_lt j n))
      where
        at : (j : ℕ) → Dec (j < n) → reached m link from j r ≡ false
        at j (yes k) = reached_not n j r (omega arith) f
        at j (no k) = let e : n + (j - n) ≡ j = omega arith in (rw e at (stays (j - n) r h)) ∙ f

-- the steps that are made lead to none of the unreached rows, and one step more leads to the next
pub record Searching (m : ℕ) (link : ℕ → ℕ → Bool) (from unreached next : ℕ → Bool) : Type 0 where
  pub made : ℕ
  pub few : made < m
  pub room : made + count unreached m ≤ m
  pub low : (r : ℕ) → unreached r ≡ true → r < m
  pub within : (r : ℕ) → next r ≡ true → unreached r ≡ true
  pub unreached_is : (r : ℕ) → r < m → unreached r ≡ not (reached m link from made r)
  pub next_is : (r : ℕ) → r < m → next r ≡ (not (reached m link from made r) && reached m link from (made + 1) r)
  pub free : (r : ℕ) → r < m → from r ≡ false → Some unreached m

-- rows of the m alone are linked
frontier_low : (m : ℕ) (link : ℕ → ℕ → Bool) (frontier : ℕ → Bool) (r : ℕ) → m ≤ 64 → ((q : ℕ) → frontier q ≡ true → q < m)
    → some (λ q. frontier q && link q r) 64 ≡ some (λ q. frontier q && link q r) m
frontier_low m link frontier r fits low =
    alike (some (λ q. frontier q && link q r) 64) (some (λ q. frontier q && link q r) m)
    (λ t.
    let s = some_from (λ q. frontier q && link q r) 64 t in
    some_has (λ q. frontier q && link q r) m s.at (low s.at (and_parts (frontier s.at) (link s.at r) s.has).0) s.has)
    (λ t. let s = some_from (λ q. frontier q && link q r) m t in some_has (λ q. frontier q && link q r) 64 s.at (omega (arith, s.below)) s.has)

not_or : (a b : Bool) → (not a && b) ≡ (not a && (a || b))
not_or true b = refl
not_or false b = refl

not_both : (a b : Bool) → (a ≡ true → b ≡ true) → (not a && not (not a && b)) ≡ not b
not_both true b h = rw (h refl)
not_both false b h = refl

not_more : (a b : Bool) → (a ≡ true → b ≡ true) → (not a && b) ≡ false → b ≡ a
not_more true b h f = h refl
not_more false b h f = f

module _ {m : ℕ} {link : ℕ → ℕ → Bool} {from : ℕ → Bool} (fits : m ≤ 64) where
  pub searching_first : {unreached next : ℕ → Bool} → 0 < m → ((r : ℕ) → from r ≡ true → r < m) → ((r : ℕ) → unreached r ≡ (ltb r m && not (from r)))
      → ((r : ℕ) → next r ≡ (unreached r && some (λ q. from q && link q r) 64)) → Searching m link from unreached next
  unfolding reached
  searching_first {unreached} {next} pos low e f =
      record {
        made = 0;
        few = pos;
        room = omega (arith, count_most unreached m);
        low = λ r t. ltb-true r m (and_parts (ltb r m) (not (from r)) (sym (e r) ∙ t)).0;
        within = λ r t. (and_parts (unreached r) (some (λ q. from q && link q r) 64) (sym (f r) ∙ t)).0;
        unreached_is = at;
        next_is = λ r h. f r ∙ rw (at r h, frontier_low m link from r fits low) (not_or (from r) (some (λ q. from q && link q r) m));
        free = λ r h n. record { at = r; below = h; has = at r h ∙ rw n };
      }
    where
      at : (r : ℕ) → r < m → unreached r ≡ not (from r)
      at r h = e r ∙ rw (lt-ltb r m h)

  module _ {unreached next : ℕ → Bool} (S : Searching m link from unreached next) where
    abbrev now : ℕ → Bool
    now r = reached m link from S.made r

    abbrev then : ℕ → Bool
    then r = reached m link from (S.made + 1) r

    more : (r : ℕ) → now r ≡ true → then r ≡ true
    more r = reached_more m link from S.made r

    next_low : (q : ℕ) → next q ≡ true → q < m
    next_low q t = S.low q (S.within q t)

    module _ {unreached' next' : ℕ → Bool} (e : (r : ℕ) → unreached' r ≡ (unreached r && not (next r)))
        (f : (r : ℕ) → next' r ≡ (unreached' r && some (λ q. next q && link q r) 64)) where
      left : (r : ℕ) → r < m → unreached' r ≡ not (then r)
      left r h = e r ∙ rw (S.unreached_is r h, S.next_is r h) (not_both (now r) (then r) (more r))

      -- what is reached from a row reached before was reached by now
      from_next : (r : ℕ) → r < m → then r ≡ false → some (λ q. next q && link q r) m ≡ some (λ q. then q && link q r) m
      from_next r h n =
          alike (some (λ q. next q && link q r) m) (some (λ q. then q && link q r) m)
          (λ t.
          let s = some_from (λ q. next q && link q r) m t in
          let b = and_parts (next s.at) (link s.at r) s.has in
          let c = and_parts (not (now s.at)) (then s.at) (sym (S.next_is s.at s.below) ∙ b.0) in
          some_has (λ q. then q && link q r) m s.at s.below (rw (c.1, b.1)))
          (λ t.
          let s = some_from (λ q. then q && link q r) m t in
          let b = and_parts (then s.at) (link s.at r) s.has in
          some_has (λ q. next q && link q r) m s.at s.below (rw (S.next_is s.at s.below, b.0, b.1, before s.at s.below b.1)))
        where
          before : (q : ℕ) → q < m → link q r ≡ true → now q ≡ false
          before q l u =
              false_from_ne_true (now q)
              (λ t.
              both_ways (then r) n
              (reached_next m link from S.made r
              ∙ or_right (now r) (some (λ q. now q && link q r) m) (some_has (λ q. now q && link q r) m q l (rw (t, u)))))

      on : (r : ℕ) → r < m → next' r ≡ (not (then r) && reached m link from (S.made + 1 + 1) r)
      on r h = f r ∙ rw (frontier_low m link next r fits next_low, left r h, reached_next m link from (S.made + 1) r) (by (then r) refl)
        where
          by : (t : Bool) → then r ≡ t
              → (not (then r) && some (λ q. next q && link q r) m) ≡ (not (then r) && (then r || some (λ q. then q && link q r) m))
          by true t = rw t
          by false t = rw (t, from_next r h t)

      pub searching_less : Some next m → count unreached' m + 1 ≤ count unreached m
      searching_less s =
          count_fewer unreached' unreached m s.at s.below (e s.at ∙ rw s.has (and_right (unreached s.at) false refl)) (S.within s.at s.has)
          (λ k l t. (and_parts (unreached k) (not (next k)) (sym (e k) ∙ t)).0)

      pub searching_next : Some next m → Some unreached' m → Searching m link from unreached' next'
      searching_next s t =
          record {
            made = S.made + 1;
            few = omega (arith, S.room, searching_less s, count_lt unreached' m t.at t.below t.has);
            room = omega (arith, S.room, searching_less s);
            low = λ r u. S.low r (and_parts (unreached r) (not (next r)) (sym (e r) ∙ u)).0;
            within = λ r u. (and_parts (unreached' r) (some (λ q. next q && link q r) 64) (sym (f r) ∙ u)).0;
            unreached_is = left;
            next_is = on;
            free = λ r h n. t;
          }

    -- the unreached rows are d steps away, and no others so many
    module _ (d : ℕ) (over : S.made < d) (far : (r : ℕ) → r < m → now r ≡ false → steps m link from r ≡ d) where
      near : (r : ℕ) → r < m → now r ≡ true → steps m link from r ≤ S.made
      near r h t = steps_le m link from S.made r S.few t

      most : (r : ℕ) → r < m → steps m link from r ≤ d
      most r h = by (now r) refl
        where
          by : (t : Bool) → now r ≡ t → steps m link from r ≤ d
          by true t = omega (arith, near r h t)
          by false t = omega (arith, far r h t)

      apart : (r : ℕ) → unreached r ≡ (ltb r m && farthest m link from r)
      unfolding farthest reached
      apart r = by (dec_lt r m) (unreached r) refl
        where
          none : (r : ℕ) → r < m → unreached r ≡ true → now r ≡ false
          none r h t = false_from_ne_true (now r) (λ u. true≢false (sym t ∙ S.unreached_is r h ∙ rw u))

          begin : (r : ℕ) → r < m → unreached r ≡ true → from r ≡ false
          begin r h t = reached_not m link from S.made 0 r (omega arith) (none r h t)

          by : Dec (r < m) → (t : Bool) → unreached r ≡ t
              → unreached r ≡ (ltb r m && (not (from r) && every (λ q. from q || leb (steps m link from q) (steps m link from r)) m))
          by (no h) true t = absurd (h (S.low r t))
          by (no h) false t = rw (t, le-ltb r m (omega arith))
          by (yes h) true t =
              rw (
                t,
                lt-ltb r m h,
                begin r h t,
                every_holds (λ q. from q || leb (steps m link from q) (steps m link from r)) m
                    (λ q l. or_right (from q) _ (le-leb (steps m link from q) (steps m link from r) (omega (arith, most q l, far r h (none r h t))))),
              )
          by (yes h) false t = rw (t, lt-ltb r m h) (at (from r) refl)
            where
              at : (u : Bool) → from r ≡ u → false ≡ (not (from r) && every (λ q. from q || leb (steps m link from q) (steps m link from r)) m)
              at true u = rw u
              at false u =
                  let s = S.free r h u in
                  let n : now r ≡ true = not-false (now r) (sym (S.unreached_is r h) ∙ t) in
                  rw u
                  (sym
                  (every_fails (λ q. from q || leb (steps m link from q) (steps m link from r)) m s.at s.below
                  (rw (
                    begin s.at s.below s.has,
                    lt-leb (steps m link from s.at) (steps m link from r) (omega (arith, near r h n, far s.at s.below (none s.at s.below s.has))),
                  ))))

    pub searching_end : ((r : ℕ) → next r ≡ false) ⊎ ((r : ℕ) → unreached r ≡ true → next r ≡ true) → (r : ℕ)
        → unreached r ≡ (ltb r m && farthest m link from r)
    searching_end (inl none) =
        apart m S.few (steps_never m link from S.made (λ r h. not_more (now r) (then r) (more r) (sym (S.next_is r h) ∙ none r)))
    searching_end (inr all) =
        apart (S.made + 1) (omega arith)
        (λ r h n.
        steps_next m link from S.made r S.few n
        (and_parts (not (now r)) (then r) (sym (S.next_is r h) ∙ all r (S.unreached_is r h ∙ rw n))).1)

-- the same of sets of rows
module _ {m : ℕ} {link : ℕ → ℕ → Bool} {from : ℕ → Bool} (unreached next : RowSet) (S : Searching m link from (has unreached) (has next)) where
  pub next_some : next.bits < 2 ^ 64 → (next.bits ≡ 0 → ⊥) → Some (has next) m
  next_some h n = let s = some_row next h n in record { at = s.at; below = S.low s.at (S.within s.at s.has); has = s.has }

  -- where the next are not all, some are left
  pub left_some : {left : RowSet} → left.bits < 2 ^ 64 → ((r : ℕ) → has left r ≡ (has unreached r && not (has next r)))
      → (next.bits ≡ unreached.bits → ⊥) → Some (has left) m
  left_some {left} h e n = let s = some_row left h some in
      record { at = s.at; below = S.low s.at (and_parts (has unreached s.at) (not (has next s.at)) (sym (e s.at) ∙ s.has)).0; has = s.has }
    where
      some : left.bits ≡ 0 → ⊥
      some z =
          n
          (same_rows next unreached
          (λ r. alike (has next r) (has unreached r) (S.within r) (λ t. not-false (has next r) (sym (rw t at (e r)) ∙ no_row left z r))))
