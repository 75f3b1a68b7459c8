-- Progressive edge growth over a base graph of m rows and k information columns, after Hu, Eleftheriou and Arnold.
-- The rows chosen so far are a flat list, three a column; the next one is of column length rows / 3. Assumes nothing.
use Rattle.std.specs.Prelude.{Bool, not, cond, ◌&&◌, ◌||◌, List, [], ◌∷◌, ◌++◌, ℕ, zero, suc, ◌+◌, ◌*◌, ◌/◌, ◌-◌, ltb, eqb, length}
use Rattle.laws.specs.Range.{some, count, first, foremost}
use Rattle.laws.specs.Columns.{has_row}

-- parity column c, which is column k + c of the graph, has an edge on row r
unfoldable pub parity_has : ℕ → ℕ → ℕ → Bool
parity_has m c r = cond (eqb c 0) (eqb r 0 || eqb r (m - 1) || eqb r (m / 2)) (eqb r c || eqb (r + 1) c)

-- steps between m rows, over the links of a row to another
module _ (m : ℕ) (link : ℕ → ℕ → Bool) (from : ℕ → Bool) where
  -- n steps or fewer lead from those rows to row r
  unfoldable pub reached : ℕ → ℕ → Bool
  reached zero r = from r
  reached (suc n) r = reached n r || some (λ q. reached n q && link q r) m

  -- the fewest that do; m where none do
  unfoldable pub steps : ℕ → ℕ
  steps r = first (λ n. reached n r) m

-- farther, or as far with fewer edges
abbrev pub ahead_by : (ℕ → ℕ) → (ℕ → ℕ) → ℕ → ℕ → Bool
ahead_by far edges q r = ltb (far r) (far q) || eqb (far q) (far r) && ltb (edges q) (edges r)

module _ (m k : ℕ) (rows : List ℕ) where
  -- column c has an edge on row r
  unfoldable pub joins : ℕ → ℕ → Bool
  joins c r = cond (ltb c k) (has_row rows c r) (parity_has m (c - k) r)

  -- how many edges row r has
  unfoldable pub edges_on : ℕ → ℕ
  edges_on r = count (λ c. joins c r) (k + m)

  -- rows q and r share a column: one leads to the other in one step
  unfoldable pub shares : ℕ → ℕ → Bool
  shares q r = some (λ c. joins c q && joins c r) (k + m)

  -- row r is one of the column's rows so far
  unfoldable pub taken : ℕ → Bool
  taken r = has_row rows (length rows / 3) r

  -- how far row r is from those; m for every row while the column has none, so that its first row has the fewest edges
  unfoldable pub distance : ℕ → ℕ
  distance r = steps m shares taken r

  -- of the rows not taken, the farthest, then with the fewest edges, then the lowest
  unfoldable pub next_row : ℕ
  next_row = foremost (λ r. not (taken r)) (ahead_by distance edges_on) m

-- the first p rows
unfoldable pub grown : ℕ → ℕ → ℕ → List ℕ
grown m k zero = []
grown m k (suc p) = grown m k p ++ (next_row m k (grown m k p) ∷ [])

-- the rows of all k columns
unfoldable pub rows_of : ℕ → ℕ → List ℕ
rows_of m k = grown m k (3 * k)
