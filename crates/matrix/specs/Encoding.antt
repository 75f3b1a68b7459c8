-- The encoding by sums and the staircase. The information stands in the bits w of the lifted word below
-- k_b * z. Assumes nothing.
use Rattle.std.specs.Prelude.{Bool, true, false, cond, ◌&&◌, List, ℕ, zero, suc, ◌+◌, ◌*◌, ◌/◌, ◌%◌, ◌-◌, ltb, eqb, get_or}
use Rattle.std.specs.Bool.{xor}
use Rattle.laws.specs.Range.{xor_sum}
use Rattle.laws.specs.Written.{tabulate}
use Rattle.tables.specs.declared.BaseGraph.{BaseGraph}
use Rattle.matrix.specs.Checks.{row_sum, lifted}

-- S_i: the information sum of base row i
unfoldable pub info_sum : BaseGraph → ℕ → (ℕ → Bool) → ℕ → ℕ → Bool
info_sum g z w i t = row_sum g z w (3 * g.shape.k_b) i t

-- T: the sum of all S_i
unfoldable pub total_sum : BaseGraph → ℕ → (ℕ → Bool) → ℕ → Bool
total_sum g z w t = xor_sum (λ i. info_sum g z w i t) g.shape.m_b

-- p_0
unfoldable pub first_parity : BaseGraph → ℕ → (ℕ → Bool) → ℕ → Bool
first_parity g z w t = total_sum g z w ((t + z - 1) % z)

-- p_i; p_(i+1) is S_i + p_i, plus p_0 turned by one at i = m_b / 2, which is not 0
unfoldable pub parity_bit : BaseGraph → ℕ → (ℕ → Bool) → ℕ → ℕ → Bool
parity_bit g z w zero t = first_parity g z w t
parity_bit g z w (suc i) t =
    xor (xor (info_sum g z w i t) (parity_bit g z w i t)) (eqb i (g.shape.m_b / 2) && first_parity g z w ((t + 1) % z))

-- a bit as a byte
abbrev pub bit : Bool → ℕ
bit true = 1
bit false = 0

-- the encoding of k information bits: themselves, then the parity columns
unfoldable pub encoding : BaseGraph → ℕ → ℕ → List ℕ → List ℕ
encoding g z k info =
    tabulate
    (λ i.
    cond (ltb i k) (get_or info i 0) (bit (parity_bit g z (lifted k (g.shape.k_b * z) info) ((i - k) / z) ((i - k) % z))))
    (k + g.shape.m_b * z)
