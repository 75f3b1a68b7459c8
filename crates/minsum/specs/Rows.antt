-- What the checks of a base row write in an iteration. Assumes nothing.
use Rattle.std.specs.Prelude.{List, ℕ, ◌/◌, ◌<◌, Float}
use Rattle.std.specs.Float.{nan}
use Rattle.laws.specs.Written.{Written, At}
use Rattle.tables.specs.declared.BaseGraph.{BaseGraph}
use Rattle.matrix.specs.Edges.{edge_row}
use Rattle.messages.specs.Memory.{slots_of, number}
use Rattle.messages.specs.Iteration.{to_bit}

-- the checks of base row r have sent their messages to bits, of the messages m to them
abbrev pub RowDone : Float → BaseGraph → ℕ → ℕ → List Float → List Float → List Float → Type 0
RowDone factor g z r m w w' =
    Written nan 0 (At (λ s. s < slots_of g z) (λ s. edge_row g (s / z)) r) (to_bit factor g z (number m)) w w'
