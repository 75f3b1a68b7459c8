-- What the getters answer of a code record. Assumes nothing.
use Rattle.std.specs.Prelude.{ℕ, ◌+◌, ◌*◌}
use Rattle.tables.specs.declared.BaseGraph.{BaseGraph}
use Rattle.tables.specs.Graph.{graph_number, graph_of}
use Rattle.matrix.specs.Edges.{edges}
use Rattle.ldpc.specs.declared.choice.Code.{Code}

-- the graph of a code
unfoldable pub code_graph : Code → BaseGraph
code_graph c = graph_of (graph_number c.rate c.family)

-- where the parity columns begin in the lifted word
unfoldable pub info_end : Code → ℕ
info_end c = (code_graph c).shape.k_b * c.z

-- how many checks there are
unfoldable pub checks_of : Code → ℕ
checks_of c = (code_graph c).shape.m_b * c.z

-- the work memory: 2 * N + 2 * E, for the N bits and the E messages of a lifted graph
unfoldable pub work_of : Code → ℕ
work_of c = 2 * ((code_graph c).shape.n_b * c.z) + 2 * (edges (code_graph c) * c.z)
