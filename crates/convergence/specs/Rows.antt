-- What a base row's checks read, and the parity of one. Assumes nothing.
use Rattle.std.specs.Prelude.{Bool, ℕ, ◌+◌, ◌-◌, ◌*◌, ◌%◌, length, get_or}
use Rattle.laws.specs.Floats.{negative}
use Rattle.messages.specs.Memory.{reading}
use Rattle.convergence.specs.Decided.{odd_of, Joined}
use Rattle.convergence.specs.declared.row.Row.{Row}

-- base edge b is one that the row may have
abbrev pub Joins : Row → ℕ → Type 0
Joins r b = Joined r.z r.totals (length r.work.now - 8) r.column.now r.turn.now b

-- the bit that base edge b joins to offset t
abbrev pub bit_joined : Row → ℕ → ℕ → ℕ
bit_joined r t b = get_or r.column.now b 0 * r.z + (t + get_or r.turn.now b 0) % r.z

-- the decision on it
abbrev pub decided_at : Row → ℕ → ℕ → Bool
decided_at r t b = negative (reading r.work.now r.totals (bit_joined r t b))

-- the decisions on the bits of the check at offset t, added modulo 2
abbrev pub odd_at : Row → ℕ → Bool
odd_at r t = odd_of r.work.now r.totals r.z t r.column.now r.turn.now r.edges.now
