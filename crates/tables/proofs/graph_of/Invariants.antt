-- `tables::graph_of` meets its contract. The invariant: the first i entries of both lists are the graph's. Assumes nothing.
use mathlib.Core.Path.{◌≡◌, ◌∙◌}
use mathlib.Core.List.{List}
use Prim.Native.Nat.{ℕ, ◌+◌, ◌*◌, ◌<◌, ◌≤◌}
use native.Mathlib.Omega.{arith}
use borrow.Author.Tests.{lt-ltb, le-ltb}
use lib.ListN.{length, get_or, set, replicate, get_or-replicate}
use Rattle.laws.specs.Written.{Written, tabulate}
use Rattle.laws.proofs.Written.{Upto, upto_front, filled}
use Rattle.tables.specs.Flat.{row_list, shift_list}
use Rattle.tables.specs.Graph.{info_columns, first_column, entry_at}
use Rattle.tables.proofs.graph_of.Given as goal

-- the first i entries of the graph g are copied from a flat list
abbrev pub Copied : List ℕ → ℕ → ℕ → List ℕ → List ℕ → Type 0
Copied table g i l₀ l = Written 0 0 (Upto (λ s. s < length l₀) (λ s. s) i) (entry_at table g) l₀ l

module _ (table : List ℕ) (g : ℕ) where
  pub turn : (at i : ℕ) (l₀ l : List ℕ) → at ≡ 3 * first_column g → i < 3 * info_columns g → i < length l₀ → Copied table g i l₀ l
      → Copied table g (i + 1) l₀ (set l i (get_or table (at + i) 0))
  unfolding entry_at
  turn at i l₀ l e h inside W = upto_front (get_or table (at + i) 0) W inside inside (rw (e, lt-ltb i (3 * info_columns g) h))

  pub whole : (l : List ℕ) (i : ℕ) → 3 * info_columns g ≤ i → Copied table g i (replicate 153 0) l → l ≡ tabulate (entry_at table g) 153
  unfolding entry_at
  whole l i h W =
      filled 0 (entry_at table g) (replicate 153 0) i W
      (λ s k b. get_or-replicate 153 s 0 0 b ∙ (rw (le-ltb s (3 * info_columns g) (omega arith))))

abbrev pub invariant-loop-i : goal.invariant-loop-i
invariant-loop-i l = Copied row_list l.g l.i l.initial.rows l.rows × Copied shift_list l.g l.i l.initial.shifts l.shifts
