-- Sums modulo 2 as bytes, in the terms of the loops that add them. Assumes nothing.
use Rattle.std.specs.Prelude.{◌≡◌, cond, List, ℕ, ◌+◌, ◌%◌, ◌<◌, ◌≤◌, eqb, length, get_or}

-- the sum modulo 2 of two bits that are bytes
abbrev pub differing : ℕ → ℕ → ℕ
differing a b = cond (eqb a b) 0 1

-- every byte is a bit
abbrev pub Bits : List ℕ → Type 0
Bits l = (i : ℕ) → i < length l → get_or l i 0 ≤ 1

-- bits are added to the sums from the front on
abbrev pub Added : List ℕ → List ℕ → List ℕ → Type 0
Added bits l l' =
    ((i : ℕ) → i < length bits → get_or l' i 0 ≡ differing (get_or l i 0) (get_or bits i 0))
    × ((i : ℕ) → length bits ≤ i → get_or l' i 0 ≡ get_or l i 0)

-- a column's bits, turned by s, are added to the sums
abbrev pub AddedTurned : ℕ → List ℕ → List ℕ → List ℕ → Type 0
AddedTurned s column l l' = (t : ℕ) → t < length l → get_or l' t 0 ≡ differing (get_or l t 0) (get_or column ((t + s) % length l) 0)
