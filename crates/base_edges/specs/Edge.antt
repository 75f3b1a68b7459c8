-- A base edge as a record. Assumes nothing.
use Rattle.std.specs.Prelude.{ℕ, ◌+◌, ◌*◌}
use Rattle.tables.specs.declared.Shape.{Shape}
use Rattle.tables.specs.declared.BaseGraph.{BaseGraph}
use Rattle.matrix.specs.Edges.{edge_row, edge_column, edge_shift}
use Rattle.base_edges.specs.declared.Edge.{Edge}

-- how many base edges a shape has
abbrev pub edges_in : Shape → ℕ
edges_in s = 3 * s.k_b + 2 * s.m_b + 1

unfoldable pub edge_of : BaseGraph → ℕ → Edge
edge_of g b = record { row = edge_row g b; column = edge_column g b; shift = edge_shift g b }
