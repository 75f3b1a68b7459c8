-- The work memory and its four regions, for a graph at lift z. Assumes nothing.
use Rattle.std.specs.Prelude.{List, ℕ, ◌+◌, ◌*◌, get_or, Float}
use Rattle.std.specs.Float.{nan}
use Rattle.tables.specs.declared.BaseGraph.{BaseGraph}
use Rattle.matrix.specs.Edges.{edges}

-- N, the bits of a lifted word, and E, the slots of its edges
unfoldable pub bits_of : BaseGraph → ℕ → ℕ
bits_of g z = g.shape.n_b * z

unfoldable pub slots_of : BaseGraph → ℕ → ℕ
slots_of g z = edges g * z

-- the channel stands from 0 on, the totals from N on, then the messages to checks and the messages to bits
unfoldable pub to_checks_at : BaseGraph → ℕ → ℕ
to_checks_at g z = 2 * bits_of g z

unfoldable pub to_bits_at : BaseGraph → ℕ → ℕ
to_bits_at g z = 2 * bits_of g z + slots_of g z

unfoldable pub needed : BaseGraph → ℕ → ℕ
needed g z = 2 * bits_of g z + 2 * slots_of g z

-- number s of a region that is lent
abbrev pub number : List Float → ℕ → Float
number r s = get_or r s nan

-- number s of the region that begins at a place
abbrev pub reading : List Float → ℕ → ℕ → Float
reading w at s = get_or w (at + s) nan
