-- A record of vectors, as the list of records that its lanes are. Assumes nothing.
use Rattle.std.specs.Prelude.{◌≡◌, List, ℕ, ◌+◌, ◌<◌, length, map, get_or, Float}
use Rattle.rule.specs.declared.Least.{Least}
use Rattle.messages.specs.Iteration.{gathered}
use Rattle.slots.specs.Row.{past}
use Rattle.lanes.specs.Masks.{mask_of}
use Rattle.checks.specs.declared.vectors.Four.{Four}

-- lane j of f is record j of the list
pub record Shows (f : Four) (rs : List Least) : Type 0 where
  pub least : f.«min1» ≡ map (λ (r : Least). r.«min1») rs
  pub second : f.«min2» ≡ map (λ (r : Least). r.«min2») rs
  pub place : f.place ≡ map (λ (r : Least). r.argmin) rs
  pub sign : f.sign ≡ map mask_of (map (λ (r : Least). r.sign) rs)

-- the first n lanes of f are what the checks at the offsets from t on gather of the messages m, over the base edges l
pub record Gathers (f : Four) (n : ℕ) (m : ℕ → Float) (z t : ℕ) (l : List ℕ) : Type 0 where
  pub records : List Least
  pub long : length records ≡ 4
  pub shows : Shows f records
  pub are : (j : ℕ) → j < n → get_or records j past ≡ gathered m z (t + j) l
