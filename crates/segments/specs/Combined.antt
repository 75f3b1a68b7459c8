-- What an operation makes of a list and of two beside it, number by number. Assumes nothing.
use Rattle.std.specs.Prelude.{◌≡◌, List, ℕ, ◌+◌, ◌<◌, ◌≤◌, length, Float}
use Rattle.laws.specs.Written.{tabulate}
use Rattle.messages.specs.Memory.{number}

module _ (op : Float → Float → Float → Float) (to a b : List Float) where
  unfoldable pub combined : List Float
  combined = tabulate (λ i. op (number to i) (number a i) (number b i)) (length to)

  -- n of those numbers, from number m on
  unfoldable pub combined_block : ℕ → ℕ → List Float
  combined_block m n = tabulate (λ j. op (number to (m + j)) (number a (m + j)) (number b (m + j))) n

  -- the list on the way there: its first i numbers are combined, and the rest is as it was
  pub record CombinedUpto (i : ℕ) (w : List Float) : Type 0 where
    pub long : length w ≡ length to
    pub done : (k : ℕ) → k < i → number w k ≡ op (number to k) (number a k) (number b k)
    pub rest : (k : ℕ) → i ≤ k → number w k ≡ number to k
