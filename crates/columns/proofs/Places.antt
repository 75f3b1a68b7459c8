-- Rows by the places of a column. Assumes nothing.
use mathlib.Core.Path.{◌≡◌, refl, ◌∙◌}
use mathlib.Core.Bool.{Bool, true, false, ◌&&◌}
use mathlib.Core.List.{List}
use Prim.Native.Nat.{ℕ, ◌+◌, ◌*◌, ◌<◌, ◌≤◌}
use native.Mathlib.Omega.{arith}
use lib.Dec.{ltb, eqb}
use lib.ListN.{length}
use borrow.Author.Tests.{lt-ltb, ltb-false, eqb-false}
use Rattle.laws.specs.Range.{first, some}
use Rattle.laws.specs.Columns.{has_row, entry_of}
use Rattle.laws.proofs.First.{Least, first_least}
use Rattle.laws.proofs.Some.{some_first, some_ext}

-- the test for a row at a place
abbrev pub is_row : List ℕ → ℕ → ℕ → ℕ → Bool
is_row rows c r e = eqb (entry_of rows c e) r

module _ (rows : List ℕ) (c : ℕ) (whole : 3 * c + 3 ≤ length rows) where
  pub has_some : (r : ℕ) → has_row rows c r ≡ some (is_row rows c r) 3
  unfolding has_row
  has_some r =
      some_ext (λ e. ltb (3 * c + e) (length rows) && is_row rows c r e) (is_row rows c r) 3
      (λ e h. rw (lt-ltb (3 * c + e) (length rows) (omega arith)))

  pub has_first : (r : ℕ) → has_row rows c r ≡ ltb (first (is_row rows c r) 3) 3
  has_first r = has_some r ∙ some_first (is_row rows c r) 3

  -- a column has the rows of its places
  pub has_at : (r e : ℕ) → e < 3 → entry_of rows c e ≡ r → has_row rows c r ≡ true
  has_at r e h q = has_first r ∙ by (first_least (is_row rows c r) 3) (ltb (first (is_row rows c r) 3) 3) refl
    where
      by : Least (is_row rows c r) 3 (first (is_row rows c r) 3) → (t : Bool) → ltb (first (is_row rows c r) 3) 3 ≡ t
          → ltb (first (is_row rows c r) 3) 3 ≡ true
      by L true t = t
      by L false t = absurd (eqb-false (entry_of rows c e) r (L.before e (omega (arith, ltb-false (first (is_row rows c r) 3) 3 t))) q)

  pub has_own : (e : ℕ) → e < 3 → has_row rows c (entry_of rows c e) ≡ true
  has_own e h = has_at (entry_of rows c e) e h refl
