-- The parity part of an output, row by row, in the terms of the loops that write it. Assumes nothing.
use Rattle.std.specs.Prelude.{Bool, cond, List, ℕ, ◌/◌, ◌%◌, ltb}
use Rattle.laws.specs.Written.{tabulate}
use Rattle.matrix.specs.Checks.{lifted}
use Rattle.matrix.specs.Encoding.{info_sum, total_sum, parity_bit, bit}
use Rattle.ldpc.specs.declared.choice.Code.{Code}
use Rattle.ldpc.specs.Code.{code_graph, info_end, checks_of}

-- S_i, T and p_i of a code's information
unfoldable pub sum_bit : Code → List ℕ → ℕ → ℕ → Bool
sum_bit c info i t = info_sum (code_graph c) c.z (lifted c.k (info_end c) info) i t

unfoldable pub total_bit : Code → List ℕ → ℕ → Bool
total_bit c info t = total_sum (code_graph c) c.z (lifted c.k (info_end c) info) t

unfoldable pub stair_bit : Code → List ℕ → ℕ → ℕ → Bool
stair_bit c info i t = parity_bit (code_graph c) c.z (lifted c.k (info_end c) info) i t

-- the parity part when i rows of it are parity and the others still sums
unfoldable pub stairs : Code → List ℕ → ℕ → List ℕ
stairs c info i =
    tabulate (λ s. bit (cond (ltb (s / c.z) i) (stair_bit c info (s / c.z) (s % c.z)) (sum_bit c info (s / c.z) (s % c.z)))) (checks_of c)
