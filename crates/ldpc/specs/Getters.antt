-- What the computed getters answer: of a record that Choice does not give, 0 or none. Assumes nothing.
use Rattle.std.specs.Prelude.{false, cond, ◌&&◌, ℕ, ltb, pos, Float, Option, Some, None}
use Rattle.std.specs.Float.{binary32, fin}
use Rattle.std.specs.Float.Ieee.{div, of_int}
use Rattle.tables.specs.declared.Shape.{Shape}
use Rattle.matrix.specs.Edges.{edges}
use Rattle.base_edges.specs.declared.Edge.{Edge}
use Rattle.base_edges.specs.Edge.{edge_of}
use Rattle.ldpc.specs.declared.choice.Code.{Code}
use Rattle.ldpc.specs.Choice.{made}
use Rattle.ldpc.specs.Code.{code_graph, checks_of, work_of}

unfoldable pub checks_told : Code → ℕ
checks_told c = cond (made c) (checks_of c) 0

unfoldable pub shape_told : Code → Shape
shape_told c = cond (made c) (code_graph c).shape (record { n_b = 0; k_b = 0; m_b = 0 })

-- k / n_tx in f32
unfoldable pub rate_told : Code → Float
rate_told c =
    cond (made c) (div binary32 (of_int binary32 (pos c.k)) (of_int binary32 (pos c.n_tx))) (fin false 0 (pos 0))

unfoldable pub edge_told : Code → ℕ → Option Edge
edge_told c b = cond (made c && ltb b (edges (code_graph c))) (Some (edge_of (code_graph c) b)) None

unfoldable pub work_told : Code → ℕ
work_told c = cond (made c) (work_of c) 0
