-- An iteration reads and writes the needed numbers alone, and so do the test of convergence and the decisions. Assumes nothing.
use mathlib.Core.Path.{◌≡◌, ap, ap₂}
use mathlib.Core.List.{List, ◌++◌}
use Prim.Native.Nat.{ℕ, ◌+◌, ◌*◌, ◌/◌, ◌%◌, ◌<◌, ◌≤◌}
use native.Mathlib.Omega.{arith}
use lib.Dec.{eqb}
use lib.ListN.{length, get_or, get_or-append}
use lib.Ieee.{Float, nan, sub, binary32}
use Rattle.laws.specs.Floats.{negative}
use Rattle.laws.proofs.Range.{count_ext}
use Rattle.laws.proofs.Parity.{xor_sum_ext}
use Rattle.laws.proofs.Slots.{edge_lt}
use Rattle.laws.proofs.Front.{Front, front_then, front_rewritten}
use Rattle.tables.specs.declared.BaseGraph.{BaseGraph}
use Rattle.matrix.specs.Edges.{edges, bit_at}
use Rattle.matrix.specs.Checks.{unmet, check_sum, row_sum}
use Rattle.matrix.proofs.Simple.{Simple}
use Rattle.messages.specs.Memory.{bits_of, slots_of, to_checks_at, to_bits_at, needed, reading}
use Rattle.messages.specs.Iteration.{to_bit, check_pass, total, total_pass, to_check, send_pass, iteration, decision, settled}
use Rattle.messages.proofs.Local.{edge_bit, to_bit_agrees, total_agrees}

module _ (g : BaseGraph) (simple : Simple g) (z : ℕ) (lift : 0 < z) where
  -- in front of x
  module _ (w x : List Float) (long : needed g z ≤ length w) where
    inside : (i : ℕ) → i < needed g z → get_or (w ++ x) i nan ≡ get_or w i nan
    inside i h = get_or-append w x nan i (omega arith)

    same_to_bit : (factor : Float) (s : ℕ) → s < slots_of g z
        → to_bit factor g z (reading (w ++ x) (to_checks_at g z)) s ≡ to_bit factor g z (reading w (to_checks_at g z)) s
    unfolding to_checks_at needed
    same_to_bit = to_bit_agrees g z lift _ _ (λ s h. inside (to_checks_at g z + s) (omega arith))

    same_total : (v : ℕ) → v < bits_of g z → total g z (w ++ x) v ≡ total g z w v
    unfolding to_bits_at needed
    same_total v h = total_agrees g z lift w (w ++ x) (λ s k. inside (to_bits_at g z + s) (omega arith)) v (inside v (omega arith))

    same_to_check : (s : ℕ) → s < slots_of g z → to_check g z (w ++ x) s ≡ to_check g z w s
    unfolding to_check to_bits_at slots_of needed
    same_to_check s h =
        let k = edge_bit g simple z lift (s / z) (s % z) (edge_lt lift h) in
        ap₂ (sub binary32) (inside (bits_of g z + bit_at g z (s / z) (s % z)) (omega arith)) (inside (to_bits_at g z + s) (omega arith))

    pub same_decision : (v : ℕ) → v < bits_of g z → decision g z (w ++ x) v ≡ decision g z w v
    unfolding decision needed
    same_decision v h = ap negative (inside (bits_of g z + v) (omega arith))

    pub same_settled : settled g z (w ++ x) ≡ settled g z w
    unfolding settled unmet check_sum row_sum
    same_settled =
        ap (λ n. eqb n 0)
        (count_ext _ _ (g.shape.m_b * z)
        (λ s h. xor_sum_ext _ _ (edges g) (λ b k. rw (same_decision (bit_at g z b (s % z)) (edge_bit g simple z lift b (s % z) k)))))

  module _ (factor : Float) where
    check_front : Front (needed g z) (check_pass factor g z)
    unfolding check_pass to_bits_at needed
    check_front =
        front_rewritten nan (to_bits_at g z) (slots_of g z) (λ w. to_bit factor g z (reading w (to_checks_at g z))) (omega arith)
        (λ w x h. same_to_bit w x h factor)

    total_front : Front (needed g z) (total_pass g z)
    unfolding total_pass needed
    total_front = front_rewritten nan (bits_of g z) (bits_of g z) (total g z) (omega arith) same_total

    send_front : Front (needed g z) (send_pass g z)
    unfolding send_pass to_checks_at needed
    send_front = front_rewritten nan (to_checks_at g z) (slots_of g z) (to_check g z) (omega arith) same_to_check

    pub iteration_front : Front (needed g z) (iteration factor g z)
    unfolding iteration
    iteration_front = front_then (front_then check_front total_front) send_front
