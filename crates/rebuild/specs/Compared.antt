-- The seeds of the table's graphs, and the comparison of two lists of columns. Assumes nothing.
use Rattle.std.specs.Prelude.{Bool, not, ◌||◌, List, ℕ, ◌+◌, ◌*◌, eqb, get_or}
use Rattle.laws.specs.Range.{some, count}

-- the seed of the graph of a rate: hexadecimal 5EED0000 + 977 * rate index + n_b
unfoldable pub table_seed : ℕ → ℕ → ℕ
table_seed rate n_b = 1592590336 + 977 * rate + n_b

-- place p has another row or another shift
unfoldable pub differs_at : List ℕ → List ℕ → List ℕ → List ℕ → ℕ → Bool
differs_at rows shifts rows' shifts' p =
    not (eqb (get_or rows p 0) (get_or rows' p 0)) || not (eqb (get_or shifts p 0) (get_or shifts' p 0))

-- how many of the first n columns differ at one of their places
unfoldable pub columns_differ : List ℕ → List ℕ → List ℕ → List ℕ → ℕ → ℕ
columns_differ rows shifts rows' shifts' n = count (λ c. some (λ e. differs_at rows shifts rows' shifts' (3 * c + e)) 3) n
