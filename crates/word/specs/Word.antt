-- The word that a read writes. Assumes nothing.
use Rattle.std.specs.Prelude.{◌≡◌, cond, List, ℕ, ◌+◌, ◌-◌, ltb, map, take, Float}
use Rattle.laws.specs.Floats.{negative}
use Rattle.laws.specs.Written.{tabulate}
use Rattle.matrix.specs.Encoding.{bit}
use Rattle.messages.specs.Iteration.{decision}
use Rattle.ldpc.specs.declared.choice.Code.{Code}
use Rattle.ldpc.specs.Code.{code_graph, info_end}

-- the decisions on some totals
abbrev pub decisions_of : List Float → List ℕ
decisions_of totals = map (λ x. bit (negative x)) totals

-- the first n of them are written to the front of a list
abbrev pub Decided : ℕ → List Float → List ℕ → Type 0
Decided n totals out = take n out ≡ decisions_of (take n totals)

-- the n_tx decisions in transmitted order
unfoldable pub word_of : Code → List Float → List ℕ
word_of c w =
    tabulate (λ i. bit (decision (code_graph c) c.z w (cond (ltb i c.k) i (info_end c + (i - c.k))))) c.n_tx
