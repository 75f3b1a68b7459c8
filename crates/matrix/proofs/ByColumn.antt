-- The base edges of one column in rising row: a fold over all base edges, row after row, that skips the other columns is a fold over
-- them; and which they are, in a column with three and in one with two. Assumes nothing.
use mathlib.Core.Path.{◌≡◌, sym, ap}
use mathlib.Core.Bool.{cond}
use mathlib.Core.List.{List, [], ◌∷◌}
use mathlib.Core.Logic.{◌↔◌}
use Prim.Native.Nat.{ℕ, zero, suc, ◌+◌, ◌*◌, ◌/◌, ◌-◌, ◌<◌, ◌≤◌}
use native.Mathlib.Omega.{arith}
use native.Mathlib.Decide.{dec_lt, ℕ_discrete}
use lib.Dec.{eqb}
use lib.ListN.{get_or}
use borrow.Author.Tests.{eq-eqb, eqb-true}
use Rattle.laws.specs.Range.{folded}
use Rattle.laws.proofs.Folded.{Picked, folded_picked}
use Rattle.laws.proofs.Columns.{stair_row}
use Rattle.tables.specs.declared.BaseGraph.{BaseGraph}
use Rattle.matrix.specs.Edges.{edges, edge_row, edge_column, edges_by_row, ColumnList}
use Rattle.matrix.proofs.Edges.{info_column, parity_row_lem, parity_column}
use Rattle.matrix.proofs.ByRow.{edge_place, by_row_entry, place_lt, place_holds, place_only}

module _ (g : BaseGraph) (v : ℕ) (l : List ℕ) (C : ColumnList g v l) (n : ℕ) (low : (b : ℕ) → b < edges g → edge_row g b < n) where
  -- its edges stand, row after row, in their order in l: an edge of a later row stands later
  picked : Picked (λ b. eqb (edge_column g b) v) (edges_by_row g n) l (λ i. edge_place g (get_or l i 0))
  picked =
      record {
        inside = λ i h. place_lt g n (get_or l i 0) (C.edge_lt i h) (low (get_or l i 0) (C.edge_lt i h));
        holds = λ i h. place_holds g n (get_or l i 0) (C.edge_lt i h) (low (get_or l i 0) (C.edge_lt i h));
        has = λ i h. eq-eqb (edge_column g (get_or l i 0)) v (C.column i h);
        rises = λ i h.
            omega (arith, place_lt g (edge_row g (get_or l (i + 1) 0)) (get_or l i 0) (C.edge_lt i (omega arith)) (C.rising i h));
        only = λ j h e.
            let b = get_or (edges_by_row g n) j 0 in
            let (i, inside, same) = C.all b (by_row_entry g n j h) (eqb-true (edge_column g b) v e) in
            (i, inside, sym (place_only g n (get_or l i 0) j h (sym same)));
      }

  pub by_column : {A : Type 0} (f : A → ℕ → A) (x : A)
      → folded (λ y b. cond (eqb (edge_column g b) v) (f y b) y) x (edges_by_row g n) ≡ folded f x l
  by_column f x = folded_picked (λ b. eqb (edge_column g b) v) f x (edges_by_row g n) l (λ i. edge_place g (get_or l i 0)) picked

-- the edges of a column up to k_b are 3 * v, 3 * v + 1 and 3 * v + 2
thirds : (g : BaseGraph) (v b : ℕ) → v ≤ g.shape.k_b → (b / 3 ≡ v) ↔ (edge_column g b ≡ v)
thirds g v b first = by (dec_lt b (3 * g.shape.k_b))
  where
    by : Dec (b < 3 * g.shape.k_b) → (b / 3 ≡ v) ↔ (edge_column g b ≡ v)
    by (yes h) = omega (arith, info_column g b h)
    by (no h) = omega (arith, parity_column g b (omega arith))

-- so in rising row they list it: three with rising rows are all of them
module _ (g : BaseGraph) (rows : 0 < g.shape.m_b) (v : ℕ) (first : v ≤ g.shape.k_b) (a b c : ℕ) (in_a : a / 3 ≡ v)
    (in_b : b / 3 ≡ v) (in_c : c / 3 ≡ v) (a_b : edge_row g a < edge_row g b) (b_c : edge_row g b < edge_row g c) where
  abbrev three : List ℕ
  three = a ∷ b ∷ c ∷ []

  three_in : (i : ℕ) → i < 3 → get_or three i 0 / 3 ≡ v
  three_in zero h = in_a
  three_in (suc zero) h = in_b
  three_in (suc (suc zero)) h = in_c
  three_in (suc (suc (suc i))) h = absurd (omega arith)

  three_rise : (i : ℕ) → i + 1 < 3 → edge_row g (get_or three i 0) < edge_row g (get_or three (i + 1) 0)
  three_rise zero h = a_b
  three_rise (suc zero) h = b_c
  three_rise (suc (suc i)) h = absurd (omega arith)

  apart : (e e' : ℕ) → edge_row g e < edge_row g e' → e ≡ e' → ⊥
  apart e e' h q = omega (arith, ap (edge_row g) q)

  three_all : (e : ℕ) → e / 3 ≡ v → Dec (a ≡ e) → Dec (b ≡ e) → (i : ℕ) × (i < 3) × (get_or three i 0 ≡ e)
  three_all e in_e (yes q) d = (0, omega arith, q)
  three_all e in_e (no q) (yes r) = (1, omega arith, r)
  three_all e in_e (no q) (no r) = (2, omega arith, omega (arith, apart a b a_b, apart b c b_c, apart a c (omega arith)))

  pub three_listed : ColumnList g v (a ∷ b ∷ c ∷ [])
  unfolding edges
  three_listed =
      record {
        edge_lt = λ i h. omega (arith, three_in i h);
        column = λ i h. (thirds g v (get_or three i 0) first).0 (three_in i h);
        rising = three_rise;
        all = λ e h q. three_all e ((thirds g v e first).1 q) (ℕ_discrete a e) (ℕ_discrete b e);
      }

-- column k_b + j is listed by its two edges, the second first: their rows are j - 1 and j
module _ (g : BaseGraph) (j : ℕ) (later : 0 < j) (low : j < g.shape.m_b) (b : ℕ) (is : b ≡ 3 * g.shape.k_b + 2 * j + 1)
  where
    abbrev two : List ℕ
    two = (b + 1) ∷ b ∷ []

    two_in : (i : ℕ) → i < 2 → (b ≤ get_or two i 0) × (get_or two i 0 ≤ b + 1)
    two_in zero h = omega arith
    two_in (suc zero) h = omega arith
    two_in (suc (suc i)) h = absurd (omega arith)

    two_rise : (i : ℕ) → i + 1 < 2 → edge_row g (get_or two i 0) < edge_row g (get_or two (i + 1) 0)
    two_rise zero h =
        omega (
          arith,
          parity_row_lem g b (omega arith),
          parity_row_lem g (b + 1) (omega arith),
          stair_row g.shape.m_b (b - 3 * g.shape.k_b) (omega arith),
          stair_row g.shape.m_b (b + 1 - 3 * g.shape.k_b) (omega arith),
        )
    two_rise (suc i) h = absurd (omega arith)

    two_all : (e : ℕ) → edge_column g e ≡ g.shape.k_b + j → Dec (e < 3 * g.shape.k_b) → Dec (b ≡ e)
        → (i : ℕ) × (i < 2) × (get_or two i 0 ≡ e)
    two_all e q (yes h) d = absurd (omega (arith, info_column g e h))
    two_all e q (no h) (yes r) = (1, omega arith, r)
    two_all e q (no h) (no r) = (0, omega arith, omega (arith, parity_column g e (omega arith)))

    pub two_listed : ColumnList g (g.shape.k_b + j) ((b + 1) ∷ b ∷ [])
    unfolding edges
    two_listed =
        record {
          edge_lt = λ i h. omega (arith, two_in i h);
          column = λ i h. omega (arith, two_in i h, parity_column g (get_or two i 0) (omega (arith, two_in i h)));
          rising = two_rise;
          all = λ e h q. two_all e q (dec_lt e (3 * g.shape.k_b)) (ℕ_discrete b e);
        }
