-- The base edges of a graph, by their numbers: three for each information column, in the table's order, then those of the parity
-- columns. Assumes nothing.
use Rattle.std.specs.Prelude.{◌≡◌, cond, List, [], ◌++◌, ℕ, zero, suc, ◌+◌, ◌*◌, ◌/◌, ◌%◌, ◌-◌, ◌<◌, ltb, eqb, length, get_or}
use Rattle.laws.specs.Range.{collect}
use Rattle.laws.specs.Columns.{parity_row}
use Rattle.tables.specs.declared.BaseGraph.{BaseGraph}

-- three in each information column, three in column k_b, two in each of the m_b - 1 columns after it
unfoldable pub edges : BaseGraph → ℕ
edges g = 3 * g.shape.k_b + 2 * g.shape.m_b + 1

unfoldable pub edge_row : BaseGraph → ℕ → ℕ
edge_row g b = cond (ltb b (3 * g.shape.k_b)) (get_or g.rows b 0) (parity_row g.shape.m_b (b - 3 * g.shape.k_b))

-- the parity edges 0, 1 and 2 stand in column k_b, 2j + 1 and 2j + 2 in column k_b + j
unfoldable pub edge_column : BaseGraph → ℕ → ℕ
edge_column g b = cond (ltb b (3 * g.shape.k_b)) (b / 3) (g.shape.k_b + (b - 3 * g.shape.k_b - 1) / 2)

unfoldable pub edge_shift : BaseGraph → ℕ → ℕ
edge_shift g b = cond (ltb b (3 * g.shape.k_b)) (get_or g.shifts b 0) (cond (eqb (b - 3 * g.shape.k_b) 2) 1 0)

-- the bit that base edge b joins to the check at offset t of its base row, at lift z: Fossorier's circulant
unfoldable pub bit_at : BaseGraph → ℕ → ℕ → ℕ → ℕ
bit_at g z b t = edge_column g b * z + (t + edge_shift g b) % z

-- the base edges of base row r, in rising number
unfoldable pub row_edges : BaseGraph → ℕ → List ℕ
row_edges g r = collect (λ b. eqb (edge_row g b) r) (λ b. b) (edges g)

-- those of the first n base rows, row after row
unfoldable pub edges_by_row : BaseGraph → ℕ → List ℕ
edges_by_row g zero = []
edges_by_row g (suc n) = edges_by_row g n ++ row_edges g n

-- l lists the base edges of column v, in rising row
pub record ColumnList (g : BaseGraph) (v : ℕ) (l : List ℕ) : Type 0 where
  pub edge_lt : (i : ℕ) → i < length l → get_or l i 0 < edges g
  pub column : (i : ℕ) → i < length l → edge_column g (get_or l i 0) ≡ v
  pub rising : (i : ℕ) → i + 1 < length l → edge_row g (get_or l i 0) < edge_row g (get_or l (i + 1) 0)
  pub all : (b : ℕ) → b < edges g → edge_column g b ≡ v → (i : ℕ) × (i < length l) × (get_or l i 0 ≡ b)

-- the slot, b * z + t, at which base edge b joins bit v of its column; t turned by the shift is v's offset
unfoldable pub slot_of : BaseGraph → ℕ → ℕ → ℕ → ℕ
slot_of g z b v = b * z + (v % z + z - edge_shift g b % z) % z
