-- The 18 base graphs over the flat lists, by their numbers 0 to 17. Assumes nothing.
use Rattle.std.specs.Prelude.{◌≡◌, ◌≤◌, List, [], ◌∷◌, cond, ℕ, ◌+◌, ◌*◌, ◌/◌, ◌%◌, ◌-◌, min, ltb, get_or}
use Rattle.laws.specs.Range.{sum}
use Rattle.laws.specs.Columns.{information_columns}
use Rattle.laws.specs.Written.{tabulate}
use Rattle.tables.specs.Flat.{row_list, shift_list}
use Rattle.tables.specs.declared.Shape.{Shape}
use Rattle.tables.specs.declared.BaseGraph.{BaseGraph}

-- the graph of a rate and a family (0 large, 1 small, 2 tiny); a rate above 5 counts as 5, a family above 2 as 2
unfoldable pub graph_number : ℕ → ℕ → ℕ
graph_number rate family = 6 * min family 2 + min rate 5

-- n_b of the graph g
unfoldable pub base_columns : ℕ → ℕ
base_columns g = get_or (60 ∷ 20 ∷ 10 ∷ []) (g / 6) 0

-- k_b of the graph g, by the rule of graph design at 85, 75, 65, 55, 45 or 35 percent
unfoldable pub info_columns : ℕ → ℕ
info_columns g = information_columns (base_columns g) (85 - 10 * (g % 6))

-- m_b of the graph g
unfoldable pub base_rows : ℕ → ℕ
base_rows g = base_columns g - info_columns g

-- how many information columns stand before the graph g in the flat lists
unfoldable pub first_column : ℕ → ℕ
first_column g = sum info_columns g

-- entry b of the graph g in a flat list, three entries a column; 0 past the last column
unfoldable pub entry_at : List ℕ → ℕ → ℕ → ℕ
entry_at table g b = cond (ltb b (3 * info_columns g)) (get_or table (3 * first_column g + b) 0) 0

-- the row and the shift of entry b of the graph g
unfoldable pub row_at : ℕ → ℕ → ℕ
row_at g b = entry_at row_list g b

unfoldable pub shift_at : ℕ → ℕ → ℕ
shift_at g b = entry_at shift_list g b

-- what the calls answer; 153 entries hold the largest graph's 51 columns
unfoldable pub shape_of : ℕ → Shape
shape_of g = record { n_b = base_columns g; k_b = info_columns g; m_b = base_rows g }

-- the bounds of the 18 shapes
abbrev pub IsTableShape : Shape → Type 0
IsTableShape s = (1 ≤ s.k_b) × (s.k_b ≤ 51) × (3 ≤ s.m_b) × (s.m_b ≤ 39) × (s.k_b + s.m_b ≡ s.n_b) × (s.n_b ≤ 60)

unfoldable pub graph_of : ℕ → BaseGraph
graph_of g = record { shape = shape_of g; rows = tabulate (row_at g) 153; shifts = tabulate (shift_at g) 153 }
