-- What the loops over the base edges of a row read and write. Assumes nothing.
use Rattle.std.specs.Prelude.{◌≡◌, false, List, ℕ, ◌+◌, ◌*◌, ◌/◌, ◌%◌, ◌<◌, ◌≤◌, length, get_or, Float, ◌⊎◌}
use Rattle.std.specs.Float.{nan}
use Rattle.laws.specs.Written.{Written}
use Rattle.rule.specs.declared.Least.{Least}

-- slot s is one of the first n base edges of l
pub record Of (l : List ℕ) (n z s : ℕ) : Type 0 where
  pub index : ℕ
  pub inside : index < n
  pub is : get_or l index 0 ≡ s / z

-- every slot of the base edges l is below an end
abbrev pub Within : ℕ → ℕ → List ℕ → Type 0
Within z end l = (i : ℕ) → i < length l → get_or l i 0 * z + z ≤ end

-- n numbers from `at` on get f
abbrev pub Ran : ℕ → ℕ → (ℕ → Float) → List Float → List Float → Type 0
Ran at n f w w' = Written nan at (λ i. i < n) f w w'

-- what stands for the records past the end of a list
abbrev pub past : Least
past = record { «min1» = nan; «min2» = nan; argmin = 0; sign = false }

-- offset x is one of the four from t on
pub record Near (t x : ℕ) : Type 0 where
  pub from : t ≤ x
  pub to : x < t + 4

-- slot s is one of the first n base edges of l, at an offset of the blocks from t on and from u on
pub record Pairs (l : List ℕ) (n z t u s : ℕ) : Type 0 where
  pub of : Of l n z s
  pub near : Near t (s % z) ⊎ Near u (s % z)
