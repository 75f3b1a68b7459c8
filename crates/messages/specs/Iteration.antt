-- One iteration of normalised min-sum (Chen and Fossorier, 2002), for a graph at lift z: every check sends to its bits, every bit
-- adds up what it got and sends to its checks. The factor is an argument. Assumes nothing.
use Rattle.std.specs.Prelude.{Bool, cond, List, ℕ, ◌+◌, ◌*◌, ◌/◌, ◌%◌, eqb, get_or, Float}
use Rattle.std.specs.Float.{nan, binary32}
use Rattle.std.specs.Float.Ieee.{add, sub}
use Rattle.laws.specs.Range.{folded}
use Rattle.laws.specs.Written.{rewritten}
use Rattle.laws.specs.Floats.{negative}
use Rattle.tables.specs.declared.BaseGraph.{BaseGraph}
use Rattle.matrix.specs.Edges.{edge_row, edge_column, bit_at, row_edges, edges_by_row, slot_of}
use Rattle.matrix.specs.Checks.{unmet}
use Rattle.rule.specs.declared.Least.{Least}
use Rattle.rule.specs.Rule.{started, taken, answered}
use Rattle.messages.specs.Memory.{bits_of, slots_of, to_checks_at, to_bits_at, reading}

-- what the messages m of some base edges, at offset t, come to
unfoldable pub gathered : (ℕ → Float) → ℕ → ℕ → List ℕ → Least
gathered m z t l = folded (λ x b. taken x (m (b * z + t)) b) started l

-- what a check with these base edges sends to slot s, of the messages m
unfoldable pub answer : Float → ℕ → List ℕ → (ℕ → Float) → ℕ → Float
answer factor z l m s = answered factor (gathered m z (s % z) l) (m s) (s / z)

-- the message to the bit of slot s, from its check
unfoldable pub to_bit : Float → BaseGraph → ℕ → (ℕ → Float) → ℕ → Float
to_bit factor g z m s = answer factor z (row_edges g (edge_row g (s / z))) m s

unfoldable pub check_pass : Float → BaseGraph → ℕ → List Float → List Float
check_pass factor g z w = rewritten (to_bits_at g z) (slots_of g z) (to_bit factor g z (reading w (to_checks_at g z))) w

-- y, and the message m to bit v over base edge b, where b is of v's column
unfoldable pub added : BaseGraph → ℕ → (ℕ → Float) → ℕ → Float → ℕ → Float
added g z m v y b = cond (eqb (edge_column g b) (v / z)) (add binary32 y (m (slot_of g z b v))) y

-- the total of bit v: its channel value and its incoming messages, added in rising check number
unfoldable pub total : BaseGraph → ℕ → List Float → ℕ → Float
total g z w v = folded (added g z (reading w (to_bits_at g z)) v) (get_or w v nan) (edges_by_row g g.shape.m_b)

unfoldable pub total_pass : BaseGraph → ℕ → List Float → List Float
total_pass g z w = rewritten (bits_of g z) (bits_of g z) (total g z w) w

-- the message to the check of slot s: the total of its bit, minus what came in there
unfoldable pub to_check : BaseGraph → ℕ → List Float → ℕ → Float
to_check g z w s = sub binary32 (reading w (bits_of g z) (bit_at g z (s / z) (s % z))) (reading w (to_bits_at g z) s)

unfoldable pub send_pass : BaseGraph → ℕ → List Float → List Float
send_pass g z w = rewritten (to_checks_at g z) (slots_of g z) (to_check g z w) w

unfoldable pub iteration : Float → BaseGraph → ℕ → List Float → List Float
iteration factor g z w = send_pass g z (total_pass g z (check_pass factor g z w))

-- the decision on bit v
unfoldable pub decision : BaseGraph → ℕ → List Float → ℕ → Bool
decision g z w v = negative (reading w (bits_of g z) v)

-- converged: the decisions meet every check, shortened bits included
unfoldable pub settled : BaseGraph → ℕ → List Float → Bool
settled g z w = eqb (unmet g z (decision g z w)) 0
