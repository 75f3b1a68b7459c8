-- Runs of numbers that grow by a block or by one number. Assumes nothing.
use Rattle.std.proofs.Common.{◌≡◌, List, ap, ◌∙◌, ℕ, ◌+◌, ◌<◌, ◌≤◌, length, arith}
use mathlib.Core.Logic.{◌⊎◌, inl, inr}
use native.Mathlib.Decide.{dec_lt}
use lib.ListN.{get_or, set}
use Rattle.laws.specs.Written.{Written, tabulate}
use Rattle.laws.proofs.Written.{Among, get_d_tabulate, store, run_more}

module _ {X : Type 0} (d : X) where
  -- the first n places from `at` on are written
  abbrev Run : ℕ → ℕ → (ℕ → X) → List X → List X → Type 0
  Run at n f w w' = Written d at (λ i. i < n) f w w'

  -- a run, and a block over its end and on, which says what f says
  pub block_more : {at i : ℕ} {f : ℕ → X} {w w' w'' : List X} (m n : ℕ) (g : ℕ → X) {block : List X} → Run at i f w w'
      → block ≡ tabulate g n → Run (at + m) n (λ j. get_or block j d) w' w'' → m ≤ i → i ≤ m + n
      → ((j : ℕ) → j < n → g j ≡ f (m + j)) → Run at (m + n) f w w''
  block_more {i = i} m n g W e U low_end high_end is =
      run_more m n W U (λ j l. ap (λ x. get_or x j d) e ∙ get_d_tabulate d g n j l ∙ is j l)
      (λ s p. omega (arith, p, high_end)) (λ j l. omega arith) (λ s q. part s q (dec_lt s m))
    where
      part : (s : ℕ) → s < m + n → Dec (s < m) → (s < i) ⊎ Among m n s
      part s q (yes p) = inl (omega (arith, p, low_end))
      part s q (no p) = inr (omega arith, q)

  -- one number more
  pub one_more : {at : ℕ} {f : ℕ → X} {w w' : List X} (i : ℕ) (v : X) → Run at i f w w' → at + i < length w → v ≡ f i
      → Run at (i + 1) f w (set w' (at + i) v)
  one_more i v W h e = store {P = λ s. s < i} i v W h e (omega arith) (λ s p. omega arith) (λ s q n. omega (arith, q, n))

-- a place of a list, by another sum
pub place : {X : Type 0} (d : X) (w : List X) (i j : ℕ) → i ≡ j → get_or w i d ≡ get_or w j d
place d w i j e = ap (λ (x : ℕ). get_or w x d) e
