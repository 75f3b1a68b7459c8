-- The bit pass of an iteration in one, column after column. Assumes nothing.
use Rattle.std.specs.Prelude.{List, ℕ, ◌/◌, ◌<◌, Float}
use Rattle.std.specs.Float.{nan}
use Rattle.laws.specs.Written.{Written, At}
use Rattle.tables.specs.declared.BaseGraph.{BaseGraph}
use Rattle.matrix.specs.Edges.{edge_column}
use Rattle.messages.specs.Memory.{bits_of, slots_of}
use Rattle.messages.specs.Regions.{total_of, to_check_of}

-- of column v, with a channel and messages to bits: the totals of its bits
abbrev pub TotalsDone : BaseGraph → ℕ → List Float → List Float → ℕ → List Float → List Float → Type 0
TotalsDone g z channel to_bits v w w' = Written nan 0 (At (λ u. u < bits_of g z) (λ u. u / z) v) (total_of g z channel to_bits) w w'

-- and the messages to checks over its base edges
abbrev pub SentDone : BaseGraph → ℕ → List Float → List Float → ℕ → List Float → List Float → Type 0
SentDone g z channel to_bits v w w' =
    Written nan 0 (At (λ s. s < slots_of g z) (λ s. edge_column g (s / z)) v) (to_check_of g z channel to_bits) w w'
