-- The sizes of the graphs, by one computed test over all 18; and that they cover the flat lists. Assumes nothing.
use mathlib.Core.Path.{◌≡◌, refl}
use Prim.Native.Nat.{ℕ, ◌+◌, ◌*◌, ◌<◌, ◌≤◌}
use native.Mathlib.Omega.{arith}
use native.Mathlib.Numerals.{add-one}
use lib.ListN.{length}
use Rattle.laws.specs.Range.{every, sum}
use Rattle.laws.specs.Columns.{information_columns}
use Rattle.laws.proofs.Range.{le_at, eq_at}
use Rattle.tables.specs.Flat.{row_list, shift_list}
use Rattle.tables.specs.declared.Shape.{Shape}
use Rattle.tables.specs.Graph.{graph_number, base_columns, info_columns, base_rows, first_column, shape_of}

-- a rate and a family have a graph
pub number_lt : (rate family : ℕ) → graph_number rate family < 18
unfolding graph_number
number_lt rate family = omega arith

pub record Sizes (g : ℕ) : Type 0 where
  pub info : 1 ≤ info_columns g
  pub rows : 3 ≤ base_rows g
  pub columns : info_columns g + base_rows g ≡ base_columns g
  pub info_most : info_columns g ≤ 51
  pub rows_most : base_rows g ≤ 39
  pub columns_most : base_columns g ≤ 60
  pub inside : first_column g + info_columns g ≤ 320

pub sizes : (g : ℕ) → g < 18 → Sizes g
unfolding every info_columns base_rows base_columns first_column sum information_columns
sizes g h =
    record {
      info = le_at (λ k. 1) info_columns 18 tt g h;
      rows = le_at (λ k. 3) base_rows 18 tt g h;
      columns = eq_at (λ k. info_columns k + base_rows k) base_columns 18 tt g h;
      info_most = le_at info_columns (λ k. 51) 18 tt g h;
      rows_most = le_at base_rows (λ k. 39) 18 tt g h;
      columns_most = le_at base_columns (λ k. 60) 18 tt g h;
      inside = le_at (λ k. first_column k + info_columns k) (λ k. 320) 18 tt g h;
    }

-- the same of the shape that a call answers
pub record Shaped (s : Shape) : Type 0 where
  pub info : 1 ≤ s.k_b
  pub rows : 3 ≤ s.m_b
  pub columns : s.k_b + s.m_b ≡ s.n_b
  pub info_most : s.k_b ≤ 51
  pub rows_most : s.m_b ≤ 39
  pub columns_most : s.n_b ≤ 60

pub shaped : (rate family : ℕ) → Shaped (shape_of (graph_number rate family))
unfolding shape_of
shaped rate family =
    let z = sizes (graph_number rate family) (number_lt rate family) in
    record {
      info = z.info;
      rows = z.rows;
      columns = z.columns;
      info_most = z.info_most;
      rows_most = z.rows_most;
      columns_most = z.columns_most;
    }

-- the graphs follow one another from column 0 to column 320, and the lists have three entries a column
pub record Covered : Type 0 where
  pub first : first_column 0 ≡ 0
  pub next : (g : ℕ) → first_column (g + 1) ≡ first_column g + info_columns g
  pub last : first_column 18 ≡ 320
  pub row_entries : length row_list ≡ 3 * 320
  pub shift_entries : length shift_list ≡ 3 * 320

pub covered : Covered
unfolding info_columns base_columns first_column sum information_columns row_list shift_list
covered = record { first = refl; next = λ g. rw add-one; last = refl; row_entries = refl; shift_entries = refl }
