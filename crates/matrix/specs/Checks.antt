-- The parity-check matrix at lift z, over the bits of a lifted word, quasi-cyclic (Fossorier, 2004): a base edge of row r, column c
-- and shift s joins check r * z + t to bit c * z + (t + s) mod z, for each t below z. Check s is the offset s % z of base row s / z.
-- Assumes nothing.
use Rattle.std.specs.Prelude.{◌≡◌, Bool, cond, ◌&&◌, ◌||◌, List, ℕ, ◌+◌, ◌*◌, ◌/◌, ◌%◌, ◌-◌, ◌<◌, ltb, leb, eqb, get_or}
use Rattle.laws.specs.Range.{xor_sum, count, collect}
use Rattle.tables.specs.declared.BaseGraph.{BaseGraph}
use Rattle.matrix.specs.Edges.{edges, edge_row, bit_at}

-- the matrix joins check s to bit v, by the base edge `edge`
pub record Joins (g : BaseGraph) (z s v : ℕ) : Type 0 where
  pub edge : ℕ
  pub edge_lt : edge < edges g
  pub row : edge_row g edge ≡ s / z
  pub bit : bit_at g z edge (s % z) ≡ v

-- the sum modulo 2, over the first n base edges, of the bits w that are joined to the check at row r and offset t
unfoldable pub row_sum : BaseGraph → ℕ → (ℕ → Bool) → ℕ → ℕ → ℕ → Bool
row_sum g z w n r t = xor_sum (λ b. eqb (edge_row g b) r && w (bit_at g z b t)) n

-- whether check s is not met
unfoldable pub check_sum : BaseGraph → ℕ → (ℕ → Bool) → ℕ → Bool
check_sum g z w s = row_sum g z w (edges g) (s / z) (s % z)

-- how many checks are not met
unfoldable pub unmet : BaseGraph → ℕ → (ℕ → Bool) → ℕ
unmet g z w = count (check_sum g z w) (g.shape.m_b * z)

-- the transmitted order: bits 0 to k - 1, then from k on the parity columns' bits, which begin at `info` in the lifted word
unfoldable pub is_sent : ℕ → ℕ → ℕ → Bool
is_sent k info v = ltb v k || leb info v

unfoldable pub place_of : ℕ → ℕ → ℕ → ℕ
place_of k info v = cond (ltb v k) v (k + (v - info))

-- the lifted word of a transmitted one: a bit that is shortened, or past the word's end, is 0
unfoldable pub lifted : ℕ → ℕ → List ℕ → ℕ → Bool
lifted k info word v = is_sent k info v && eqb (get_or word (place_of k info v) 0) 1

-- the transmitted members of check s, in edge order
unfoldable pub members_of : BaseGraph → ℕ → ℕ → ℕ → ℕ → List ℕ
members_of g z k info s =
    collect (λ b. eqb (edge_row g b) (s / z) && is_sent k info (bit_at g z b (s % z))) (λ b. place_of k info (bit_at g z b (s % z))) (edges g)
