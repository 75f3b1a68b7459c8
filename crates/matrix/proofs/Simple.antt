-- In the graphs of the tables no two base edges join the same row and column, and every base edge joins a row and a column of
-- the graph. Assumes nothing.
use mathlib.Core.Path.{◌≡◌, refl, sym, ap, ap₂, ◌∙◌}
use mathlib.Core.Bool.{cond}
use Prim.Native.Nat.{ℕ, zero, suc, ◌+◌, ◌*◌, ◌/◌, ◌%◌, ◌-◌, ◌<◌, ◌≤◌}
use native.Mathlib.Omega.{arith}
use native.Mathlib.Decide.{dec_lt}
use lib.Dec.{eqb}
use lib.ListN.{get_or}
use borrow.Author.Tests.{eq-eqb, ne_eqb}
use Rattle.laws.proofs.Written.{get_d_tabulate}
use Rattle.tables.specs.Graph.{graph_of, shape_of, row_at, info_columns}
use Rattle.tables.specs.declared.BaseGraph.{BaseGraph}
use Rattle.tables.proofs.Sizes.{sizes}
use Rattle.tables.proofs.Columns as Columns
use Rattle.laws.specs.Columns.{parity_row}
use Rattle.matrix.specs.Edges.{edges, edge_row, edge_column}
use Rattle.laws.proofs.Columns.{stair_row}
use Rattle.matrix.proofs.Edges.{info_row, info_column, parity_row_lem, parity_column}

pub record Simple (g : BaseGraph) : Type 0 where
  pub once : (b b' : ℕ) → b < edges g → b' < edges g → edge_row g b ≡ edge_row g b' → edge_column g b ≡ edge_column g b' → b ≡ b'
  pub row_lt : (b : ℕ) → b < edges g → edge_row g b < g.shape.m_b
  pub column_lt : (b : ℕ) → b < edges g → edge_column g b < g.shape.n_b

-- the parity edge of row r in the parity column c
parity_edge : ℕ → ℕ → ℕ → ℕ
parity_edge m r c = cond (eqb c 0) (cond (eqb r 0) 0 (cond (eqb r (m - 1)) 1 2)) (2 * c + 1 + (c - r))

parity_edge_lem : (m : ℕ) → 3 ≤ m → (p : ℕ) → parity_edge m (parity_row m p) ((p - 1) / 2) ≡ p
unfolding parity_edge parity_row
parity_edge_lem m h zero = refl
parity_edge_lem m h (suc zero) = rw (ne_eqb (m - 1) 0 (omega arith), eq-eqb (m - 1) (m - 1) refl)
parity_edge_lem m h (suc (suc zero)) = rw (ne_eqb (m / 2) 0 (omega arith), ne_eqb (m / 2) (m - 1) (omega arith))
parity_edge_lem m h (suc (suc (suc p))) =
    let q : ℕ = suc (suc (suc p)) in
    rw (ne_eqb ((q - 1) / 2) 0 (omega arith)) (omega (arith, stair_row m q (omega arith)))

-- so a row and a column of the parity part tell the edge
parity_once : (m : ℕ) → 3 ≤ m → (p p' : ℕ) → parity_row m p ≡ parity_row m p' → (p - 1) / 2 ≡ (p' - 1) / 2 → p ≡ p'
parity_once m h p p' e c = sym (parity_edge_lem m h p) ∙ ap₂ (parity_edge m) e c ∙ parity_edge_lem m h p'

parity_row_lt : (m : ℕ) → 3 ≤ m → (p : ℕ) → p < 2 * m + 1 → parity_row m p < m
unfolding parity_row
parity_row_lt m h zero l = omega arith
parity_row_lt m h (suc zero) l = omega arith
parity_row_lt m h (suc (suc zero)) l = omega arith
parity_row_lt m h (suc (suc (suc p))) l = omega (arith, stair_row m (suc (suc (suc p))) (omega arith))

-- a graph with at least three rows is simple if its information part is
module _ (g : BaseGraph) (rows : 3 ≤ g.shape.m_b) (columns : g.shape.n_b ≡ g.shape.k_b + g.shape.m_b)
    (low : (b : ℕ) → b < 3 * g.shape.k_b → get_or g.rows b 0 < g.shape.m_b)
    (apart : (b b' : ℕ) → b < 3 * g.shape.k_b → b' < 3 * g.shape.k_b → b / 3 ≡ b' / 3
    → get_or g.rows b 0 ≡ get_or g.rows b' 0 → b ≡ b') where
  once : (b b' : ℕ) → Dec (b < 3 * g.shape.k_b) → Dec (b' < 3 * g.shape.k_b) → edge_row g b ≡ edge_row g b'
      → edge_column g b ≡ edge_column g b' → b ≡ b'
  once b b' (yes h) (yes h') e c =
      apart b b' h h' (sym (info_column g b h) ∙ c ∙ info_column g b' h') (sym (info_row g b h) ∙ e ∙ info_row g b' h')
  once b b' (yes h) (no h') e c = omega (arith, info_column g b h, parity_column g b' (omega arith))
  once b b' (no h) (yes h') e c = omega (arith, info_column g b' h', parity_column g b (omega arith))
  once b b' (no h) (no h') e c =
      let l : 3 * g.shape.k_b ≤ b = omega arith in
      let l' : 3 * g.shape.k_b ≤ b' = omega arith in
      let row = sym (parity_row_lem g b l) ∙ e ∙ parity_row_lem g b' l' in
      let same = parity_once g.shape.m_b rows _ _ row (omega (arith, parity_column g b l, parity_column g b' l')) in
      omega arith

  row_lt : (b : ℕ) → b < edges g → Dec (b < 3 * g.shape.k_b) → edge_row g b < g.shape.m_b
  unfolding edges
  row_lt b l (yes h) = rw (info_row g b h) (low b h)
  row_lt b l (no h) =
      let k : 3 * g.shape.k_b ≤ b = omega arith in
      rw (parity_row_lem g b k) (parity_row_lt g.shape.m_b rows _ (omega arith))

  column_lt : (b : ℕ) → b < edges g → Dec (b < 3 * g.shape.k_b) → edge_column g b < g.shape.n_b
  unfolding edges
  column_lt b l (yes h) = omega (arith, info_column g b h)
  column_lt b l (no h) = omega (arith, parity_column g b (omega arith))

  pub simple_of : Simple g
  simple_of =
      record {
        once = λ b b' h h'. once b b' (dec_lt b (3 * g.shape.k_b)) (dec_lt b' (3 * g.shape.k_b));
        row_lt = λ b h. row_lt b h (dec_lt b (3 * g.shape.k_b));
        column_lt = λ b h. column_lt b h (dec_lt b (3 * g.shape.k_b));
      }

-- the information part of a graph of the tables
module _ (n : ℕ) (n_lt : n < 18) where
  row_is : (b : ℕ) → b < 3 * info_columns n → get_or (graph_of n).rows b 0 ≡ row_at n b
  unfolding graph_of
  row_is b h = get_d_tabulate 0 (row_at n) 153 b (omega (arith, (sizes n n_lt).info_most))

  apart : (b b' : ℕ) → b < 3 * info_columns n → b' < 3 * info_columns n → b / 3 ≡ b' / 3 → row_at n b ≡ row_at n b' → b ≡ b'
  apart b b' h h' c e =
      let split : b ≡ 3 * (b / 3) + b % 3 = omega arith in
      let split' : b' ≡ 3 * (b / 3) + b' % 3 = omega arith in
      let rows = ap (row_at n) (sym split) ∙ e ∙ ap (row_at n) split' in
      let same = Columns.rows_differ n (b / 3) n_lt (omega arith) (b % 3) (b' % 3) (omega arith) (omega arith) rows in
      omega arith

  pub simple : Simple (graph_of n)
  unfolding graph_of shape_of
  simple =
      simple_of (graph_of n) (sizes n n_lt).rows (sym (sizes n n_lt).columns)
      (λ b h. rw (row_is b h) (Columns.row_lt n b n_lt h))
      (λ b b' h h' c e. apart b b' h h' c (sym (row_is b h) ∙ e ∙ row_is b' h'))
