-- A column's rows so far: where they stand, and that they are below m where none is faulty. Assumes nothing.
use mathlib.Core.Path.{◌≡◌}
use mathlib.Core.Bool.{true, false}
use mathlib.Core.List.{List}
use Prim.Native.Nat.{ℕ, ◌+◌, ◌*◌, ◌/◌, ◌%◌, ◌-◌, ◌<◌, ◌≤◌}
use native.Mathlib.Omega.{arith}
use lib.Dec.{leb, eqb}
use lib.ListN.{length, get_or, take, drop}
use Rattle.std.proofs.lemmas.Grind.{common_steps}
use borrow.Author.Tests.{leb-false, eqb-true}
use Rattle.laws.specs.Range.{some}
use Rattle.laws.specs.Columns.{faulty}
use Rattle.std.proofs.lemmas.Bool.{both_ways, false_from_ne_true, or_left}
use Rattle.laws.proofs.Some.{some_from}
use Rattle.growth.specs.Search.{begun}

-- the rows of place p's column so far
pub column_at : (rows : List ℕ) (p n : ℕ) → p ≤ length rows → n < p % 3
    → get_or (take (p - 3 * (p / 3)) (drop (3 * (p / 3)) rows)) n 0 ≡ get_or rows (3 * (p / 3) + n) 0
column_at rows p n h l = let a : 3 * (p / 3) + n < p = omega arith in grind (arith, common_steps)

-- rows that are not faulty are below m
pub good_low : (m : ℕ) (rows : List ℕ) (p : ℕ) → ((j : ℕ) → j < p → faulty m rows j ≡ false) → (j : ℕ) → j < p → get_or rows j 0 < m
unfolding faulty
good_low m rows p good j h =
    leb-false m (get_or rows j 0)
    (false_from_ne_true (leb m (get_or rows j 0))
    (λ t. both_ways (faulty m rows j) (good j h) (or_left (leb m (get_or rows j 0)) (some (λ e. eqb (get_or rows (3 * (j / 3) + e) 0) (get_or rows j 0)) (j % 3)) t)))

pub begun_low : (m : ℕ) (rows : List ℕ) (p r : ℕ) → ((j : ℕ) → j < p → faulty m rows j ≡ false) → begun rows p r ≡ true → r < m
unfolding begun
begun_low m rows p r good t =
    let s = some_from (λ e. eqb (get_or rows (3 * (p / 3) + e) 0) r) (p % 3) t in
    let l = s.below in
    rw (← eqb-true (get_or rows (3 * (p / 3) + s.at) 0) r s.has) (good_low m rows p good (3 * (p / 3) + s.at) (omega arith))
