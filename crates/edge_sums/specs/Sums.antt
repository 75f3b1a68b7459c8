-- Sums modulo 2 over the base edges of a code, in the terms of the loops that add them. Assumes nothing.
use Rattle.std.specs.Prelude.{◌≡◌, List, ℕ, ◌+◌, ◌*◌, ◌/◌, ◌%◌, ◌<◌, ◌≤◌, eqb, length, get_or}
use Rattle.laws.specs.Written.{Written, tabulate}
use Rattle.matrix.specs.Checks.{row_sum, lifted}
use Rattle.matrix.specs.Encoding.{bit}
use Rattle.bits.specs.Sums.{differing}
use Rattle.ldpc.specs.declared.choice.Code.{Code}
use Rattle.ldpc.specs.Code.{code_graph, info_end, checks_of}

-- the part of a transmitted word that is the column of a lifted one
pub record PartOf (c : Code) (word : List ℕ) (column : ℕ) (part : List ℕ) : Type 0 where
  pub there_most : length part ≤ c.z
  pub reads : (p : ℕ) → p < c.z → lifted c.k (info_end c) word (column * c.z + p) ≡ eqb (get_or part p 0) 1

-- the bits of a column, turned by s, are added to the z sums from `at` on
abbrev pub RowAdded : ℕ → ℕ → ℕ → List ℕ → List ℕ → List ℕ → Type 0
RowAdded at z s part l l' = Written 0 at (λ t. t < z) (λ t. differing (get_or l (at + t) 0) (get_or part ((t + s) % z) 0)) l l'

-- the sums over the first n base edges, for every check
unfoldable pub sums_of : Code → List ℕ → ℕ → List ℕ
sums_of c word n =
    tabulate (λ s. bit (row_sum (code_graph c) c.z (lifted c.k (info_end c) word) n (s / c.z) (s % c.z))) (checks_of c)
