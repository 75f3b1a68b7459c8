-- The checks of a lifted word hold exactly where its parity columns are the staircase of its information.
-- Assumes nothing.
use mathlib.Core.Path.{◌≡◌, refl, sym, ap, ap₂, ◌∙◌}
use mathlib.Core.Bool.{Bool, false, cond, xor, ◌&&◌}
use Prim.Native.Nat.{ℕ, zero, suc, ◌+◌, ◌*◌, ◌/◌, ◌%◌, ◌-◌, ◌<◌, ◌≤◌}
use native.Mathlib.Omega.{arith}
use native.Mathlib.Decide.{dec_lt}
use native.Mathlib.Nat.{add-zero, add-sub_cancel_left, zero-mod, mod-lt, mod_self, mod-eq_of_lt}
use lib.Dec.{eqb}
use borrow.Author.Tests.{ne_eqb}
use Rattle.laws.specs.Range.{xor_sum}
use Rattle.laws.proofs.Slots.{slot_lt, slot_div, slot_mod, edge_lt, back_then_on, on_then_back}
use Rattle.laws.proofs.Parity.{false_xor, xor_self, xor_equal, xor_laws, eqb_comm, xor_sum_ext, xor_sum_none, xor_sum_last, xor_sum_xor, xor_sum_add, xor_sum_pairs, xor_sum_first, xor_sum_steps, xor_sum_at}
use Rattle.tables.specs.declared.BaseGraph.{BaseGraph}
use Rattle.laws.specs.Columns.{parity_row}
use Rattle.matrix.specs.Edges.{edges, edge_row, bit_at}
use Rattle.matrix.specs.Checks.{row_sum, check_sum}
use Rattle.matrix.specs.Encoding.{info_sum, total_sum, first_parity, parity_bit}
use Rattle.laws.proofs.Columns.{stair_row}
use Rattle.matrix.proofs.Edges.{parity_row_lem, parity_column, parity_shift}

-- what base edge b adds to the check at row r and offset t
abbrev term : BaseGraph → ℕ → (ℕ → Bool) → ℕ → ℕ → ℕ → Bool
term g z w r t b = eqb (edge_row g b) r && w (bit_at g z b t)

-- the bit at offset t of the parity column j; after the last column comes the first
abbrev parity_at : BaseGraph → ℕ → (ℕ → Bool) → ℕ → ℕ → Bool
parity_at g z w j t = w ((g.shape.k_b + j % g.shape.m_b) * z + t)

-- the check at row r and offset t, of the word's information and its parity columns
abbrev row_at : BaseGraph → ℕ → (ℕ → Bool) → ℕ → ℕ → Bool
row_at g z w r t =
    xor (info_sum g z w r t)
    (xor (xor (parity_at g z w r t) (parity_at g z w (suc r) t)) (eqb r (g.shape.m_b / 2) && parity_at g z w 0 ((t + 1) % z)))

-- the terms of the parity edges
module _ (g : BaseGraph) (z : ℕ) (w : ℕ → Bool) (n : ℕ) (size : g.shape.m_b ≡ suc n) (r t : ℕ)
    (below : r < suc n) (inside : t < z) where
  parity_term : (p : ℕ) → term g z w r t (3 * g.shape.k_b + p)
      ≡ (eqb (parity_row g.shape.m_b p) r && w ((g.shape.k_b + (p - 1) / 2) * z + (t + cond (eqb p 2) 1 0) % z))
  unfolding bit_at
  parity_term p =
      let l : 3 * g.shape.k_b ≤ 3 * g.shape.k_b + p = omega arith in
      rw (parity_row_lem g _ l, parity_column g _ l, parity_shift g _ l, add-sub_cancel_left)

  -- all but the third are unshifted: in the row i and the parity column j
  term_is : (p i j : ℕ) → (p ≡ 2 → ⊥) → parity_row g.shape.m_b p ≡ i → (p - 1) / 2 ≡ j % g.shape.m_b
      → term g z w r t (3 * g.shape.k_b + p) ≡ (eqb i r && parity_at g z w j t)
  term_is p i j other row column = rw (parity_term p, ne_eqb p 2 other, add-zero, mod-eq_of_lt inside, row, column)

  later_term : (p i j : ℕ) → j < n → (p - 1) / 2 ≡ suc j → suc j - (p + 1) % 2 ≡ i
      → term g z w r t (3 * g.shape.k_b + p) ≡ (eqb i r && parity_at g z w (suc j) t)
  later_term p i j h column row =
      let l : suc j < g.shape.m_b = omega arith in
      term_is p i (suc j) (omega arith) (omega (arith, stair_row g.shape.m_b p (omega arith))) (omega (arith, mod-eq_of_lt l))

  -- the sums of the terms: of the column k_b, of the columns after it, and what they come to by rows
  first_terms : xor_sum (λ p. term g z w r t (3 * g.shape.k_b + p)) 3
      ≡ xor (xor (eqb 0 r && parity_at g z w 0 t) (eqb n r && parity_at g z w (suc n) t))
      (eqb r (g.shape.m_b / 2) && parity_at g z w 0 ((t + 1) % z))
  unfolding xor_sum parity_row
  first_terms =
      let wraps : 0 ≡ suc n % g.shape.m_b = rw size (sym (mod_self (suc n))) in
      rw (
        term_is 0 0 0 (omega arith) refl (sym (zero-mod g.shape.m_b)),
        term_is 1 n (suc n) (omega arith) (omega arith) wraps,
        parity_term 2,
        zero-mod,
        eqb_comm (g.shape.m_b / 2) r,
        false_xor,
      )

  later_terms : xor_sum (λ i. term g z w r t (3 * g.shape.k_b + (3 + i))) (2 * n)
      ≡ xor (xor_sum (λ j. eqb (suc j) r && parity_at g z w (suc j) t) n) (xor_sum (λ j. eqb j r && parity_at g z w (suc j) t) n)
  later_terms =
      xor_sum_pairs (λ i. term g z w r t (3 * g.shape.k_b + (3 + i))) n
      ∙ xor_sum_ext _ _ n
      (λ j h.
      ap₂ xor (later_term (3 + 2 * j) (suc j) j h (omega arith) (omega arith))
      (later_term (3 + (2 * j + 1)) j j h (omega arith) (omega arith)))
      ∙ xor_sum_xor _ _ n

  own_sum : xor (eqb 0 r && parity_at g z w 0 t) (xor_sum (λ j. eqb (suc j) r && parity_at g z w (suc j) t) n) ≡ parity_at g z w r t
  own_sum = sym (xor_sum_first (λ j. eqb j r && parity_at g z w j t) n) ∙ xor_sum_at (λ j. parity_at g z w j t) r (suc n) below

  next_sum : xor (xor_sum (λ j. eqb j r && parity_at g z w (suc j) t) n) (eqb n r && parity_at g z w (suc n) t)
      ≡ parity_at g z w (suc r) t
  unfolding xor_sum
  next_sum = xor_sum_at (λ j. parity_at g z w (suc j) t) r (suc n) below

  row_sum_lem : row_sum g z w (edges g) r t ≡ row_at g z w r t
  unfolding row_sum info_sum edges
  row_sum_lem =
      let e : 3 * g.shape.k_b + 2 * g.shape.m_b + 1 ≡ 3 * g.shape.k_b + (3 + 2 * n) = omega arith in
      rw (
        e,
        xor_sum_add (term g z w r t) (3 * g.shape.k_b) (3 + 2 * n),
        xor_sum_add (λ p. term g z w r t (3 * g.shape.k_b + p)) 3 (2 * n),
        first_terms,
        later_terms,
        ← own_sum,
        ← next_sum,
      )
      (ap (xor (info_sum g z w r t)) (simp xor_laws))

-- all rows together: the staircase cancels, and the first parity column turned by one is left beside the information
module _ (g : BaseGraph) (z : ℕ) (m_least : 3 ≤ g.shape.m_b) (w : ℕ → Bool) (t : ℕ) (inside : t < z) where
  row_is : (r : ℕ) → r < g.shape.m_b → row_sum g z w (edges g) r t ≡ row_at g z w r t
  row_is r h = row_sum_lem g z w (g.shape.m_b - 1) (omega arith) r t (omega arith) inside

  staircase_cancels : xor_sum (λ r. xor (parity_at g z w r t) (parity_at g z w (suc r) t)) g.shape.m_b ≡ false
  staircase_cancels = xor_sum_steps (λ j. parity_at g z w j t) g.shape.m_b ∙ rw (mod_self, zero-mod, xor_self)

  middle_left : xor_sum (λ r. eqb r (g.shape.m_b / 2) && parity_at g z w 0 ((t + 1) % z)) g.shape.m_b
      ≡ parity_at g z w 0 ((t + 1) % z)
  middle_left = xor_sum_at (λ r. parity_at g z w 0 ((t + 1) % z)) (g.shape.m_b / 2) g.shape.m_b (omega arith)

  all_rows : xor_sum (λ r. row_sum g z w (edges g) r t) g.shape.m_b ≡ xor (total_sum g z w t) (parity_at g z w 0 ((t + 1) % z))
  unfolding total_sum
  all_rows =
      xor_sum_ext _ _ g.shape.m_b row_is ∙ xor_sum_xor _ _ g.shape.m_b
      ∙ ap (xor (total_sum g z w t)) (xor_sum_xor _ _ g.shape.m_b ∙ ap₂ xor staircase_cancels middle_left ∙ false_xor _)

-- a row is met exactly where the next column is what the staircase says
next_is : (s a b c : Bool) → xor s (xor (xor a b) c) ≡ false → b ≡ xor (xor s a) c
next_is s a b c e = xor_equal b (xor (xor s a) c) (simp xor_laws (simp xor_laws at e))

next_met : (s a b c : Bool) → b ≡ xor (xor s a) c → xor s (xor (xor a b) c) ≡ false
next_met s a b c e = rw e (simp xor_laws)

module _ (g : BaseGraph) (z : ℕ) (m_least : 3 ≤ g.shape.m_b) (lift : 0 < z) (w : ℕ → Bool) where
  at_column : (j t : ℕ) → j < g.shape.m_b → parity_at g z w j t ≡ w ((g.shape.k_b + j) * z + t)
  at_column j t h = rw (mod-eq_of_lt h)

  -- where every row is met, each parity column is that of the staircase
  module _ (rows : (r t : ℕ) → r < g.shape.m_b → t < z → row_sum g z w (edges g) r t ≡ false) where
    first_turned : (u : ℕ) → u < z → total_sum g z w u ≡ parity_at g z w 0 ((u + 1) % z)
    first_turned u h =
        xor_equal _ _ (sym (all_rows g z m_least w u h) ∙ xor_sum_none _ g.shape.m_b (λ r p. rows r u p h))

    first_is : (t : ℕ) → t < z → parity_at g z w 0 t ≡ first_parity g z w t
    unfolding first_parity
    first_is t h =
        ap (parity_at g z w 0) (sym (back_then_on t z h)) ∙ sym (first_turned ((t + z - 1) % z) (mod-lt (t + z - 1) lift))

    column_is : (j t : ℕ) → j < g.shape.m_b → t < z → parity_at g z w j t ≡ parity_bit g z w j t
    unfolding parity_bit
    column_is zero t h k = first_is t k
    column_is (suc j) t h k =
        next_is _ _ _ _ (sym (row_is g z m_least w t k j (omega arith)) ∙ rows j t (omega arith) k)
        ∙ ap₂ (λ (a b : Bool). xor (xor (info_sum g z w j t) a) (eqb j (g.shape.m_b / 2) && b))
        (column_is j t (omega arith) k) (first_is ((t + 1) % z) (mod-lt (t + 1) lift))

  -- where each parity column is that of the staircase, every row is met: the last, as the sum of all rows and the others are
  module _ (columns : (j t : ℕ) → j < g.shape.m_b → t < z → parity_at g z w j t ≡ parity_bit g z w j t) where
    inner_met : (r t : ℕ) → suc r < g.shape.m_b → t < z → row_sum g z w (edges g) r t ≡ false
    unfolding parity_bit
    inner_met r t h k =
        row_is g z m_least w t k r (omega arith)
        ∙ next_met _ _ _ _
        (rw (columns (suc r) t h k, columns r t (omega arith) k, columns 0 ((t + 1) % z) (omega arith) (mod-lt (t + 1) lift)))

    last_met : (n t : ℕ) → g.shape.m_b ≡ suc n → t < z → row_sum g z w (edges g) n t ≡ false
    unfolding parity_bit first_parity
    last_met n t e h =
        sym (xor_sum_last (λ r. row_sum g z w (edges g) r t) n (λ r p. inner_met r t (omega arith) h))
        ∙ ap (xor_sum (λ r. row_sum g z w (edges g) r t)) (sym e) ∙ all_rows g z m_least w t h
        ∙ rw (columns 0 ((t + 1) % z) (omega arith) (mod-lt (t + 1) lift), on_then_back t z h, xor_self)

    row_met_lem : (r t : ℕ) → r < g.shape.m_b → t < z → row_sum g z w (edges g) r t ≡ false
    row_met_lem r t h k = at (dec_lt (suc r) g.shape.m_b)
      where
        at : Dec (suc r < g.shape.m_b) → row_sum g z w (edges g) r t ≡ false
        at (yes l) = inner_met r t l k
        at (no l) = last_met r t (omega arith) k

  pub met→staircase : ((s : ℕ) → s < g.shape.m_b * z → check_sum g z w s ≡ false)
      → (j t : ℕ) → j < g.shape.m_b → t < z → w ((g.shape.k_b + j) * z + t) ≡ parity_bit g z w j t
  unfolding check_sum
  met→staircase met j t h k =
      sym (at_column j t h)
      ∙ column_is (λ r u p q. rw (slot_div r z u q, slot_mod r z u q) at (met (r * z + u) (slot_lt p q))) j t h k

  pub staircase→met : ((j t : ℕ) → j < g.shape.m_b → t < z → w ((g.shape.k_b + j) * z + t) ≡ parity_bit g z w j t)
      → (s : ℕ) → s < g.shape.m_b * z → check_sum g z w s ≡ false
  unfolding check_sum
  staircase→met columns s h =
      row_met_lem (λ j t p q. at_column j t p ∙ columns j t p q) (s / z) (s % z) (edge_lt lift h) (mod-lt s lift)
