-- What the functions of growth say of their lists: which rows share a column, as a set of rows for each row; and the choice of a row.
-- Assumes nothing.
use Rattle.std.specs.Prelude.{Bool, true, not, cond, ◌&&◌, ◌||◌, List, Option, Some, None, ℕ, ◌+◌, ◌*◌, ◌/◌, ◌%◌, ◌-◌, ltb, leb, eqb, get_or}
use Rattle.laws.specs.Range.{every, some, foremost}
use Rattle.growth.specs.declared.rows.RowSet.{RowSet}
use Rattle.growth.specs.Growth.{steps, ahead_by}
use Rattle.growth.specs.Rows.{has}

-- rows q and r share a column
abbrev pub meets : List RowSet → ℕ → ℕ → Bool
meets near q r = has (get_or near q (record { bits = 0 })) r

-- the rows of parity column 0; and two rows share a parity column, in closed form
unfoldable pub ends : ℕ → ℕ → Bool
ends m r = eqb r 0 || eqb r (m - 1) || eqb r (m / 2)

unfoldable pub beside : ℕ → ℕ → ℕ → Bool
beside m q r = eqb q r || eqb (q + 1) r || eqb (r + 1) q || ends m q && ends m r

-- the edges of a row in the parity columns, in closed form
unfoldable pub parity_edges : ℕ → ℕ → ℕ
parity_edges m r = cond (eqb r (m / 2)) 3 2

-- r is one of the first p rows that are in the column of place p
unfoldable pub begun : List ℕ → ℕ → ℕ → Bool
begun rows p r = some (λ e. eqb (get_or rows (3 * (p / 3) + e) 0) r) (p % 3)

-- q and s are a and b, in some order
unfoldable pub paired : ℕ → ℕ → ℕ → ℕ → Bool
paired a b q s = eqb q a && eqb s b || eqb q b && eqb s a

-- q and s are x and one of the rows of x's column before it
unfoldable pub joined : List ℕ → ℕ → ℕ → ℕ → ℕ → ℕ → Bool
joined rows p n x q s = some (λ e. paired (get_or rows (3 * (p / 3) + e) 0) x q s) n

-- row q has fewer edges than row r
abbrev pub fewer : (ℕ → ℕ) → ℕ → ℕ → Bool
fewer edges q r = ltb (edges q) (edges r)

-- of m rows, with their links: row r is not one of the rows `from`, and of the others none is more steps away from these
unfoldable pub farthest : ℕ → (ℕ → ℕ → Bool) → (ℕ → Bool) → ℕ → Bool
farthest m link from r =
    not (from r) && every (λ q. from q || leb (steps m link from q) (steps m link from r)) m

-- row r goes before the best one so far, or there is none
abbrev pub leads_over : (ℕ → ℕ → Bool) → ℕ → Option ℕ → Bool
leads_over ahead r None = true
leads_over ahead r (Some q) = ahead r q

-- the row to choose, by those lists
unfoldable pub chosen : ℕ → List RowSet → List ℕ → List ℕ → ℕ → ℕ
chosen m near degree rows p =
    foremost (λ r. not (begun rows p r)) (ahead_by (steps m (meets near) (begun rows p)) (λ r. get_or degree r 0)) m
