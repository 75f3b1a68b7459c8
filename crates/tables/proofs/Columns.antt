-- In every column the three rows differ and lie below m_b, and shifts lie below 512. Each is one test that is
-- computed over all the columns, and a law that gives it at any graph and entry. Assumes nothing.
use mathlib.Core.Path.{◌≡◌, sym}
use mathlib.Core.Bool.{Bool, true, false, not, cond}
use Prim.Native.Nat.{ℕ, ◌+◌, ◌*◌, ◌<◌}
use native.Mathlib.Omega.{arith}
use native.Mathlib.Decide.{dec_lt}
use lib.Dec.{T, ltb, eqb, eqb_refl, T_not}
use lib.ListN.{get_or, get_or-eq_default}
use Rattle.laws.specs.Range.{every, sum}
use Rattle.laws.specs.Columns.{information_columns}
use Rattle.laws.proofs.Range.{every_at, lt_at}
use Rattle.tables.proofs.Sizes.{covered}
use Rattle.tables.specs.Flat.{row_list, shift_list}
use Rattle.tables.specs.Graph.{base_columns, info_columns, base_rows, first_column, entry_at, row_at, shift_at}

low : ℕ → ℕ → Bool
low g b = ltb (row_at g b) (base_rows g)

rows_low : T (every (λ g. every (low g) (3 * info_columns g)) 18)
unfolding every low row_at entry_at info_columns base_rows base_columns first_column sum information_columns row_list
rows_low = tt

pub row_lt : (g b : ℕ) → g < 18 → b < 3 * info_columns g → row_at g b < base_rows g
unfolding low
row_lt g b h k =
    lt_at (row_at g) (λ b. base_rows g) (3 * info_columns g) (every_at (λ g. every (low g) (3 * info_columns g)) 18 rows_low g h) b k

-- pairs i and i' of the column j have different rows, i' being below i
apart : ℕ → ℕ → ℕ → ℕ → Bool
apart g j i i' = not (eqb (row_at g (3 * j + i)) (row_at g (3 * j + i')))

column_apart : ℕ → ℕ → Bool
column_apart g j = every (λ i. every (apart g j i) i) 3

rows_apart : T (every (λ g. every (column_apart g) (info_columns g)) 18)
unfolding every column_apart apart row_at entry_at info_columns base_columns first_column sum information_columns row_list
rows_apart = tt

module _ (g j : ℕ) (g_lt : g < 18) (j_lt : j < info_columns g) where
  lower : (i i' : ℕ) → i < 3 → i' < i → row_at g (3 * j + i) ≡ row_at g (3 * j + i') → ⊥
  unfolding column_apart apart
  lower i i' h k e =
      let t = every_at (column_apart g) (info_columns g) (every_at (λ g. every (column_apart g) (info_columns g)) 18 rows_apart g g_lt) j j_lt in
      let u = every_at (apart g j i) i (every_at (λ i. every (apart g j i) i) 3 t i h) i' k in
      T_not (eqb (row_at g (3 * j + i)) (row_at g (3 * j + i'))) u (rw e (eqb_refl (row_at g (3 * j + i'))))

  pub rows_differ : (i i' : ℕ) → i < 3 → i' < 3 → row_at g (3 * j + i) ≡ row_at g (3 * j + i') → i ≡ i'
  rows_differ i i' h h' e = by (dec_lt i i') (dec_lt i' i)
    where
      by : Dec (i < i') → Dec (i' < i) → i ≡ i'
      by (yes k) d = absurd (lower i' i h' k (sym e))
      by (no k) (yes k') = absurd (lower i i' h k' e)
      by (no k) (no k') = omega arith

shifts_low : T (every (λ p. ltb (get_or shift_list p 0) 512) 960)
unfolding every shift_list
shifts_low = tt

place_lt : (p : ℕ) → Dec (p < 960) → get_or shift_list p 0 < 512
place_lt p (yes h) = lt_at (λ p. get_or shift_list p 0) (λ p. 512) 960 shifts_low p h
place_lt p (no h) = rw (get_or-eq_default shift_list 0 {n = p} (omega (arith, covered.shift_entries))) (omega arith)

pub shift_lt : (g b : ℕ) → shift_at g b < 512
unfolding shift_at entry_at
shift_lt g b = by (ltb b (3 * info_columns g))
  where
    by : (t : Bool) → cond t (get_or shift_list (3 * first_column g + b) 0) 0 < 512
    by true = place_lt (3 * first_column g + b) (dec_lt (3 * first_column g + b) 960)
    by false = omega arith
