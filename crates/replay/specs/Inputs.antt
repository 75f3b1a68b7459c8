-- Lengths and words that the program computes. The oracle's driver computes the same. Assumes nothing.
use Rattle.std.specs.Prelude.{Bool, cond, List, ℕ, ◌+◌, ◌*◌, ◌/◌, ◌%◌, ◌-◌, ltb, leb, eqb, length, get_or, set}

-- the lengths of the spread: every 487th, then those next to every 25th multiple of 60, up to 19,440
unfoldable pub spread_length : ℕ → ℕ
spread_length i = cond (ltb i 39) (487 * (i + 1)) (1439 + 1500 * ((i - 39) / 3) + (i - 39) % 3)

-- whether the check lists of a code with so many checks are printed in full
abbrev pub in_full : ℕ → Bool
in_full checks = leb checks 40

-- a word with the bit at a place changed
unfoldable pub flipped : List ℕ → ℕ → List ℕ
flipped word i = cond (ltb i (length word)) (set word i (cond (eqb (get_or word i 0) 0) 1 0)) word

-- a word with the bits changed that the program changes: at a third of its length, at three quarters, and the first
unfoldable pub changed : List ℕ → List ℕ
changed word = flipped (flipped (flipped word (length word / 3)) (length word - length word / 4)) 0
