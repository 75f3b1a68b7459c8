-- The base edges of a code's graph: rows, columns and shifts are within bounds; and what `edge_at` asks and tells of a graph
-- that is lent. Assumes nothing.
use mathlib.Core.Path.{◌≡◌, refl, sym, subst}
use mathlib.Core.Bool.{Bool, true, false, cond}
use Prim.Native.Nat.{ℕ, ◌*◌, ◌/◌, ◌-◌, ◌<◌, ◌≤◌}
use native.Mathlib.Omega.{arith}
use native.Mathlib.Decide.{dec_lt}
use borrow.Author.Tests.{lt-ltb}
use lib.Dec.{eqb}
use Rattle.laws.proofs.Written.{get_d_tabulate}
use Rattle.tables.specs.declared.BaseGraph.{BaseGraph}
use Rattle.tables.specs.Graph.{graph_number, info_columns, shift_at, shape_of, graph_of}
use Rattle.tables.proofs.Sizes.{number_lt, sizes}
use Rattle.tables.proofs.Columns as Columns
use Rattle.matrix.specs.Edges.{edges, edge_row, edge_column, edge_shift}
use Rattle.matrix.proofs.Edges.{parity_shift, info_column}
use Rattle.matrix.proofs.Simple.{Simple, simple}
use Rattle.base_edges.specs.declared.Edge.{Edge}
use Rattle.base_edges.specs.Edge.{edges_in, edge_of}
use Rattle.ldpc.specs.declared.choice.Code.{Code}
use Rattle.ldpc.specs.Choice.{made}
use Rattle.ldpc.specs.Code.{code_graph}
use Rattle.ldpc.proofs.Made.{sized}

third : (p : ℕ) → cond (eqb p 2) 1 0 < 512
third p = by (eqb p 2)
  where
    by : (t : Bool) → cond t 1 0 < 512
    by true = omega arith
    by false = omega arith

shift_lt_of : (n b : ℕ) → n < 18 → edge_shift (graph_of n) b < 512
unfolding graph_of shape_of edge_shift
shift_lt_of n b h = by (dec_lt b (3 * info_columns n))
  where
    by : Dec (b < 3 * info_columns n) → edge_shift (graph_of n) b < 512
    by (yes k) =
        rw (lt-ltb b (3 * info_columns n) k, get_d_tabulate 0 (shift_at n) 153 b (omega (arith, (sizes n h).info_most)))
        (Columns.shift_lt n b)
    by (no k) = rw (parity_shift (graph_of n) b (omega arith)) (third (b - 3 * info_columns n))

module _ (c : Code) where
  pub code_simple : Simple (code_graph c)
  unfolding code_graph
  code_simple = simple (graph_number c.rate c.family) (number_lt c.rate c.family)

  pub shift_lt : (b : ℕ) → edge_shift (code_graph c) b < 512
  unfolding code_graph
  shift_lt b = shift_lt_of (graph_number c.rate c.family) b (number_lt c.rate c.family)

-- e is base edge b of a code
pub record Edged (c : Code) (b : ℕ) (e : Edge) : Type 0 where
  pub row_is : e.row ≡ edge_row (code_graph c) b
  pub column_is : e.column ≡ edge_column (code_graph c) b
  pub shift_is : e.shift ≡ edge_shift (code_graph c) b
  pub row_lt : e.row < (code_graph c).shape.m_b
  pub column_lt : e.column < (code_graph c).shape.n_b
  pub shift_lt : e.shift < 512

-- a base edge of a code
module _ (c : Code) (b : ℕ) (h : b < edges (code_graph c)) where
  pub edge_asked : made c ≡ true → let s = (code_graph c).shape in (s.k_b ≤ 51) × (s.m_b ≤ 39) × (1 ≤ s.m_b) × (b < edges_in s)
  unfolding edges
  edge_asked m = let S = (sized c m).shape in (S.info_most, S.rows_most, omega (arith, S.rows), h)

  pub edged : {e : Edge} → e ≡ edge_of (code_graph c) b → Edged c b e
  unfolding edge_of
  edged told =
      subst (Edged c b) (sym told)
      (record {
        row_is = refl;
        column_is = refl;
        shift_is = refl;
        row_lt = (code_simple c).row_lt b h;
        column_lt = (code_simple c).column_lt b h;
        shift_lt = shift_lt c b;
      })

-- and where it lies
pub edge_within : (c : Code) (b : ℕ) → b < edges (code_graph c)
    → let e = edge_of (code_graph c) b in (e.row < (code_graph c).shape.m_b) × (e.column < (code_graph c).shape.n_b) × (e.shift < 512)
unfolding edge_of
edge_within c b h = ((code_simple c).row_lt b h, (code_simple c).column_lt b h, shift_lt c b)

-- the column of an edge among the first of all
pub info_edge_column : (g : BaseGraph) (b : ℕ) → b < 3 * g.shape.k_b → (edge_of g b).column ≡ b / 3
unfolding edge_of
info_edge_column g b h = info_column g b h
