-- A base edge by its parts: an information edge is read off the lists, a parity edge known by its place. Assumes nothing.
use mathlib.Core.Path.{◌≡◌, sym, ◌∙◌}
use mathlib.Core.Bool.{cond}
use Prim.Native.Nat.{ℕ, ◌+◌, ◌*◌, ◌/◌, ◌-◌, ◌<◌, ◌≤◌}
use borrow.Author.Tests.{lt-ltb}
use lib.Dec.{eqb}
use lib.ListN.{get_or}
use Rattle.laws.specs.Columns.{parity_row}
use Rattle.tables.specs.declared.BaseGraph.{BaseGraph}
use Rattle.matrix.specs.Edges.{edge_shift}
use Rattle.matrix.proofs.Edges.{info_row, info_column, parity_row_lem, parity_column, parity_shift}
use Rattle.base_edges.specs.declared.Edge.{Edge}
use Rattle.base_edges.specs.Edge.{edge_of}

-- an edge by its parts
edge : {r c s : ℕ} (e : Edge) → r ≡ e.row → c ≡ e.column → s ≡ e.shift → record { row = r; column = c; shift = s } ≡ e
edge e p q u = λ i. record { row = p i; column = q i; shift = u i }

module _ (g : BaseGraph) (b : ℕ) where
  pub info_is : b < 3 * g.shape.k_b → record { row = get_or g.rows b 0; column = b / 3; shift = get_or g.shifts b 0 } ≡ edge_of g b
  unfolding edge_of edge_shift
  info_is h = edge (edge_of g b) (sym (info_row g b h)) (sym (info_column g b h)) (rw (lt-ltb b (3 * g.shape.k_b) h))

  pub parity_is : (r c s : ℕ) → 3 * g.shape.k_b ≤ b → let p = b - 3 * g.shape.k_b in
      r ≡ parity_row g.shape.m_b p → c ≡ g.shape.k_b + (p - 1) / 2 → s ≡ cond (eqb p 2) 1 0
      → record { row = r; column = c; shift = s } ≡ edge_of g b
  unfolding edge_of
  parity_is r c s h er ec es =
      edge (edge_of g b) (er ∙ sym (parity_row_lem g b h)) (ec ∙ sym (parity_column g b h)) (es ∙ sym (parity_shift g b h))
