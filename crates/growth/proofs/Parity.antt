-- The parity columns alone: the rows that share one, and the edges of a row, in closed form. Assumes nothing.
use mathlib.Core.Path.{◌≡◌, refl, sym, ap, ◌∙◌, subst}
use mathlib.Core.Logic.{◌⊎◌, inl, inr, ⊎_elim}
use mathlib.Core.Bool.{Bool, true, false, not, cond, ◌&&◌, ◌||◌, and-true, true≢false}
use mathlib.Core.List.{List, []}
use Prim.Native.Nat.{ℕ, ◌+◌, ◌*◌, ◌/◌, ◌-◌, ◌<◌, ◌≤◌}
use native.Mathlib.Omega.{arith}
use native.Mathlib.Decide.{ℕ_discrete, dec_lt}
use lib.Dec.{ltb, eqb}
use lib.ListN.{length, get_or}
use borrow.Author.Tests.{lt-ltb, le-ltb, eq-eqb, ne_eqb, eqb-true}
use Rattle.laws.specs.Range.{some, count}
use Rattle.laws.specs.Columns.{has_row}
use Rattle.laws.proofs.Collect.{count_none}
use Rattle.std.proofs.lemmas.Bool.{and_parts, and_right, false_from_ne_true, or_cases, or_left, or_right}
use Rattle.laws.proofs.Some.{alike, some_from, some_has, some_none, count_one}
use Rattle.growth.specs.Growth.{parity_has, joins, edges_on, shares}
use Rattle.growth.specs.Search.{ends, beside, parity_edges}

-- a column past the k first ones is a parity column
module _ (m k : ℕ) (rows : List ℕ) where
  past : (c r : ℕ) → joins m k rows (k + c) r ≡ parity_has m c r
  unfolding joins
  past c r = let e : k + c - k ≡ c = omega arith in rw (le-ltb (k + c) k (omega arith), e)

  pub ends_joins : (r : ℕ) → ends m r ≡ true → joins m k rows k r ≡ true
  unfolding joins parity_has ends
  ends_joins r e = let z : k - k ≡ 0 = omega arith in rw (le-ltb k k (omega arith), z) e

  pub row_joins : (r : ℕ) → 0 < r → joins m k rows (k + r) r ≡ true
  unfolding parity_has
  row_joins r h = past r r ∙ (rw (ne_eqb r 0 (omega arith)) (or_left (eqb r r) (eqb (r + 1) r) (eq-eqb r r refl)))

  pub next_joins : (r : ℕ) → joins m k rows (k + (r + 1)) r ≡ true
  unfolding parity_has
  next_joins r =
      past (r + 1) r
      ∙ (rw (ne_eqb (r + 1) 0 (omega arith)) (or_right (eqb r (r + 1)) (eqb (r + 1) (r + 1)) (eq-eqb (r + 1) (r + 1) refl)))

  -- each row shares a column with itself
  pub self_shares : (r : ℕ) → r < m → shares m k rows r r ≡ true
  unfolding shares ends
  self_shares r h = by (ℕ_discrete r 0)
    where
      at : (c : ℕ) → c < k + m → joins m k rows c r ≡ true → some (λ c. joins m k rows c r && joins m k rows c r) (k + m) ≡ true
      at c l e = some_has (λ c. joins m k rows c r && joins m k rows c r) (k + m) c l (rw e)

      by : Dec (r ≡ 0) → some (λ c. joins m k rows c r && joins m k rows c r) (k + m) ≡ true
      by (yes z) = at k (omega arith) (ends_joins r (rw z))
      by (no z) = at (k + r) (omega arith) (row_joins r (omega arith))

no_row : (c r : ℕ) → has_row [] c r ≡ false
unfolding has_row
no_row c r =
    some_none (λ e. ltb (3 * c + e) (length {A = ℕ} []) && eqb (get_or [] (3 * c + e) 0) r) 3
    (λ e h. rw (le-ltb (3 * c + e) (length {A = ℕ} []) (omega arith)))

-- with no rows chosen these are all
module _ (m k : ℕ) where
  pub joins_cases : (c r : ℕ) → joins m k [] c r ≡ true
      → ((c ≡ k) × (ends m r ≡ true)) ⊎ (((0 < r) × (c ≡ k + r)) ⊎ (c ≡ k + (r + 1)))
  unfolding joins parity_has ends
  joins_cases c r e = by (dec_lt c k) (ℕ_discrete c k)
    where
      by : Dec (c < k) → Dec (c ≡ k) → ((c ≡ k) × (ends m r ≡ true)) ⊎ (((0 < r) × (c ≡ k + r)) ⊎ (c ≡ k + (r + 1)))
      by (yes l) d = absurd (true≢false (sym (rw (lt-ltb c k l, no_row c r) at e)))
      by (no l) (yes z) =
          let d : c - k ≡ 0 = omega arith in
          inl (z, rw (le-ltb c k (omega arith), d) at e)
      by (no l) (no z) =
          let f : (eqb r (c - k) || eqb (r + 1) (c - k)) ≡ true =
          rw (le-ltb c k (omega arith), ne_eqb (c - k) 0 (omega arith)) at e in
          ⊎_elim
          (λ t. inr (inl (omega (arith, eqb-true r (c - k) t), omega (arith, eqb-true r (c - k) t))))
          (λ t. inr (inr (omega (arith, eqb-true (r + 1) (c - k) t))))
          (or_cases (eqb r (c - k)) (eqb (r + 1) (c - k)) f)

-- two numbers, or three, are counted
count_two : (p : ℕ → Bool) (n a b : ℕ) → a < n → b < n → (b ≡ a → ⊥) → p a ≡ true → p b ≡ true
    → ((c : ℕ) → c < n → (c ≡ a → ⊥) → (c ≡ b → ⊥) → p c ≡ false) → count p n ≡ 2
count_two p n a b h k w e f none =
    count_one (λ c. eqb c a) p n b k (ne_eqb b a w) f (λ c l v. same c l v (ℕ_discrete c a))
    ∙ ap (λ x. x + 1)
    (count_one (λ c. false) (λ c. eqb c a) n a h refl (eq-eqb a a refl) (λ c l v. ne_eqb c a v)
    ∙ ap (λ x. x + 1) (count_none (λ c. false) n (λ c l. refl)))
  where
    same : (c : ℕ) → c < n → (c ≡ b → ⊥) → Dec (c ≡ a) → p c ≡ eqb c a
    same c l v (yes q) = rw q (e ∙ sym (eq-eqb a a refl))
    same c l v (no q) = none c l q v ∙ sym (ne_eqb c a q)

count_three : (p : ℕ → Bool) (n a b d : ℕ) → a < b → b < d → d < n → p a ≡ true → p b ≡ true → p d ≡ true
    → ((c : ℕ) → c < n → (c ≡ a → ⊥) → (c ≡ b → ⊥) → (c ≡ d → ⊥) → p c ≡ false) → count p n ≡ 3
count_three p n a b d h k l e f g none =
    count_one (λ c. p c && not (eqb c d)) p n d l
    (rw (eq-eqb d d refl) (and_right (p d) false refl)) g (λ c i v. rw (ne_eqb c d v) (sym (and-true (p c))))
    ∙ ap (λ x. x + 1)
    (count_two (λ c. p c && not (eqb c d)) n a b (omega arith) (omega arith) (λ x. omega arith)
    (rw (e, ne_eqb a d (λ x. omega arith)))
    (rw (f, ne_eqb b d (λ x. omega arith)))
    (λ c i v w. rest c i v w (ℕ_discrete c d)))
  where
    rest : (c : ℕ) → c < n → (c ≡ a → ⊥) → (c ≡ b → ⊥) → Dec (c ≡ d) → (p c && not (eqb c d)) ≡ false
    rest c i v w (yes q) = and_right (p c) (not (eqb c d)) (rw (eq-eqb c d q))
    rest c i v w (no q) = rw (none c i v w q)

module _ (m k : ℕ) (size : 3 ≤ m) where
  ends_cases : (r : ℕ) → ends m r ≡ true → (r ≡ 0) ⊎ ((r ≡ m - 1) ⊎ (r ≡ m / 2))
  unfolding ends
  ends_cases r e =
      ⊎_elim
      (λ t. ⊎_elim (λ u. inl (eqb-true r 0 u)) (λ u. inr (inl (eqb-true r (m - 1) u))) (or_cases (eqb r 0) (eqb r (m - 1)) t))
      (λ t. inr (inr (eqb-true r (m / 2) t)))
      (or_cases (eqb r 0 || eqb r (m - 1)) (eqb r (m / 2)) e)

  none_else : (r c : ℕ) → ((c ≡ k) × (ends m r ≡ true) → ⊥) → (c ≡ k + r → ⊥) → (c ≡ k + (r + 1) → ⊥) → joins m k [] c r ≡ false
  none_else r c f g h =
      false_from_ne_true (joins m k [] c r) (λ t. ⊎_elim f (λ w. ⊎_elim (λ x. g x.1) h w) (joins_cases m k c r t))

  pub edges_first : (r : ℕ) → r < m → edges_on m k [] r ≡ parity_edges m r
  unfolding edges_on parity_edges ends
  edges_first r h = by (ℕ_discrete r 0) (ℕ_discrete r (m - 1)) (ℕ_discrete r (m / 2))
    where
      by : Dec (r ≡ 0) → Dec (r ≡ m - 1) → Dec (r ≡ m / 2) → count (λ c. joins m k [] c r) (k + m) ≡ cond (eqb r (m / 2)) 3 2
      by (yes z) d e =
          rw (ne_eqb r (m / 2) (λ x. omega arith))
          (count_two (λ c. joins m k [] c r) (k + m) k (k + (r + 1)) (omega arith) (omega arith) (λ x. omega arith)
          (ends_joins m k [] r (rw (eq-eqb r 0 z)))
          (next_joins m k [] r)
          (λ c l v w. none_else r c (λ x. v x.0) (λ x. v (omega arith)) w))
      by (no z) (yes d) e =
          rw (ne_eqb r (m / 2) (λ x. omega arith))
          (count_two (λ c. joins m k [] c r) (k + m) k (k + r) (omega arith) (omega arith) (λ x. omega arith)
          (ends_joins m k [] r (or_left (eqb r 0 || eqb r (m - 1)) (eqb r (m / 2)) (or_right (eqb r 0) (eqb r (m - 1)) (eq-eqb r (m - 1) d))))
          (row_joins m k [] r (omega arith))
          (λ c l v w. none_else r c (λ x. v x.0) w (λ x. omega arith)))
      by (no z) (no d) (yes e) =
          rw (eq-eqb r (m / 2) e)
          (count_three (λ c. joins m k [] c r) (k + m) k (k + r) (k + (r + 1)) (omega arith) (omega arith) (omega arith)
          (ends_joins m k [] r (or_right (eqb r 0 || eqb r (m - 1)) (eqb r (m / 2)) (eq-eqb r (m / 2) e)))
          (row_joins m k [] r (omega arith))
          (next_joins m k [] r)
          (λ c l u v w. none_else r c (λ x. u x.0) v w))
      by (no z) (no d) (no e) =
          rw (ne_eqb r (m / 2) e)
          (count_two (λ c. joins m k [] c r) (k + m) (k + r) (k + (r + 1)) (omega arith) (omega arith) (λ x. omega arith)
          (row_joins m k [] r (omega arith))
          (next_joins m k [] r)
          (λ c l v w. none_else r c (λ x. ⊎_elim z (λ y. ⊎_elim d e y) (ends_cases r x.1)) v w))

  pub shares_first : (q r : ℕ) → q < m → r < m → shares m k [] q r ≡ beside m q r
  unfolding shares beside
  shares_first q r h l = alike (some both (k + m)) (beside m q r) there back
    where
      both : ℕ → Bool
      both c = joins m k [] c q && joins m k [] c r

      level : q ≡ r → beside m q r ≡ true
      level e = rw (eq-eqb q r e)

      -- the rows are next to each other, either way
      next_to : (eqb q r || eqb (q + 1) r || eqb (r + 1) q) ≡ true → beside m q r ≡ true
      next_to = or_left (eqb q r || eqb (q + 1) r || eqb (r + 1) q) (ends m q && ends m r)

      up : q + 1 ≡ r → beside m q r ≡ true
      up e =
          next_to
          (or_left (eqb q r || eqb (q + 1) r) (eqb (r + 1) q) (or_right (eqb q r) (eqb (q + 1) r) (eq-eqb (q + 1) r e)))

      down : r + 1 ≡ q → beside m q r ≡ true
      down e = next_to (or_right (eqb q r || eqb (q + 1) r) (eqb (r + 1) q) (eq-eqb (r + 1) q e))

      round : ends m q ≡ true → ends m r ≡ true → beside m q r ≡ true
      round e f = or_right (eqb q r || eqb (q + 1) r || eqb (r + 1) q) (ends m q && ends m r) (rw (e, f))

      meet : (c : ℕ) → joins m k [] c q ≡ true → joins m k [] c r ≡ true → beside m q r ≡ true
      meet c e f =
          ⊎_elim
          (λ x.
          ⊎_elim (λ y. round x.1 y.1) (λ y. ⊎_elim (λ z. absurd (omega (arith, x.0, z))) (λ z. absurd (omega (arith, x.0))) y)
          (joins_cases m k c r f))
          (λ x.
          ⊎_elim
          (λ u.
          ⊎_elim (λ y. absurd (omega (arith, y.0, u)))
          (λ y. ⊎_elim (λ z. level (omega (arith, u.1, z.1))) (λ z. down (omega (arith, u.1))) y)
          (joins_cases m k c r f))
          (λ u.
          ⊎_elim (λ y. absurd (omega (arith, y.0)))
          (λ y. ⊎_elim (λ z. up (omega (arith, z.1))) (λ z. level (omega arith)) y)
          (joins_cases m k c r f))
          x)
          (joins_cases m k c q e)

      there : some both (k + m) ≡ true → beside m q r ≡ true
      there t =
          let s = some_from both (k + m) t in
          let b = and_parts (joins m k [] s.at q) (joins m k [] s.at r) s.has in
          meet s.at b.0 b.1

      at : (c : ℕ) → c < k + m → joins m k [] c q ≡ true → joins m k [] c r ≡ true → some both (k + m) ≡ true
      at c i e f = some_has both (k + m) c i (rw (e, f))

      same : q ≡ r → some both (k + m) ≡ true
      same e = subst (λ x. some (λ c. joins m k [] c q && joins m k [] c x) (k + m) ≡ true) e (self_shares m k [] q h)

      near : (eqb q r || eqb (q + 1) r) ≡ true → some both (k + m) ≡ true
      near t =
          ⊎_elim (λ u. same (eqb-true q r u))
          (λ u.
          let e = eqb-true (q + 1) r u in
          at (k + r) (omega arith) (rw e at (next_joins m k [] q)) (row_joins m k [] r (omega arith)))
          (or_cases (eqb q r) (eqb (q + 1) r) t)

      back : beside m q r ≡ true → some both (k + m) ≡ true
      back t =
          ⊎_elim
          (λ u.
          ⊎_elim near
          (λ v.
          let e = eqb-true (r + 1) q v in
          at (k + q) (omega arith) (row_joins m k [] q (omega arith)) (rw e at (next_joins m k [] r)))
          (or_cases (eqb q r || eqb (q + 1) r) (eqb (r + 1) q) u))
          (λ u.
          let b = and_parts (ends m q) (ends m r) u in
          at k (omega arith) (ends_joins m k [] q b.0) (ends_joins m k [] r b.1))
          (or_cases (eqb q r || eqb (q + 1) r || eqb (r + 1) q) (ends m q && ends m r) t)
