-- A loop that fills a list from the front with what f says of each place and of the generator's state there. Assumes nothing.
use mathlib.Core.Path.{◌≡◌, refl, ap, ◌∙◌}
use mathlib.Core.List.{List}
use Prim.Native.Nat.{ℕ, suc, ◌+◌, ◌≤◌, ◌<◌}
use native.Mathlib.Omega.{arith}
use native.Mathlib.Numerals.{add-one}
use lib.ListN.{length, set}
use Rattle.laws.specs.Written.{Written, tabulate}
use Rattle.laws.proofs.Written.{Upto, upto_none, upto_front, filled}
use Rattle.readings.specs.Generator.{next_state, state_at}

-- before turn i: the state after i steps, and i places written
pub record Filling {A : Type 0} (d : A) (f : ℕ → ℕ → A) (seed : ℕ) (w w' : List A) (state i : ℕ) : Type 0 where
  pub within : i ≤ length w
  pub reached : state ≡ state_at seed i
  pub written : Written d 0 (Upto (λ s. s < length w) (λ s. s) i) (λ s. f s (state_at seed (suc s))) w w'

module _ {A : Type 0} {d : A} {f : ℕ → ℕ → A} {seed : ℕ} {w : List A} where
  pub begun : Filling d f seed w w seed 0
  unfolding state_at
  begun = record { within = omega arith; reached = refl; written = upto_none }

  pub turn : {w' : List A} {state i : ℕ} (next : ℕ) (v : A) → Filling d f seed w w' state i → i < length w' → next ≡ next_state state
      → v ≡ f i next → Filling d f seed w (set w' i v) next (i + 1)
  unfolding state_at
  turn {w'} {state} {i} next v F inside e q =
      let h : i < length w = omega (arith, F.written.long) in
      let n : next ≡ state_at seed (suc i) = e ∙ ap next_state F.reached in
      record { within = omega arith; reached = rw add-one n; written = upto_front v F.written h h (q ∙ ap (f i) n) }

  pub ended : {w' : List A} {state i : ℕ} → Filling d f seed w w' state i → length w' ≤ i
      → w' ≡ tabulate (λ s. f s (state_at seed (suc s))) (length w)
  ended {w'} {state} {i} F h =
      filled d (λ s. f s (state_at seed (suc s))) w i F.written (λ s k b. absurd (omega (arith, F.written.long)))
