-- A check's members in the terms of the loops that find them. Assumes nothing.
use Rattle.std.specs.Prelude.{Bool, cond, ◌&&◌, ℕ, ◌/◌, ◌%◌, eqb, Option, Some, None}
use Rattle.matrix.specs.Edges.{edge_row, bit_at}
use Rattle.matrix.specs.Checks.{is_sent, place_of}
use Rattle.ldpc.specs.declared.choice.Code.{Code}
use Rattle.ldpc.specs.Code.{code_graph, info_end}

-- base edge b brings the check a transmitted bit, and its place
unfoldable pub is_member : Code → ℕ → ℕ → Bool
is_member c check b =
    eqb (edge_row (code_graph c) b) (check / c.z) && is_sent c.k (info_end c) (bit_at (code_graph c) c.z b (check % c.z))

unfoldable pub member_place : Code → ℕ → ℕ → ℕ
member_place c check b = place_of c.k (info_end c) (bit_at (code_graph c) c.z b (check % c.z))

unfoldable pub member_at : Code → ℕ → ℕ → Option ℕ
member_at c check b = cond (is_member c check b) (Some (member_place c check b)) None
