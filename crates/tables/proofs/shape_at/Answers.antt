-- `tables::shape_at` meets its contract, by a test over its 18 entries. Assumes nothing.
use mathlib.Core.Path.{◌≡◌, ap}
use mathlib.Core.List.{List, [], ◌∷◌}
use Prim.Native.Nat.{ℕ, ◌<◌, ◌-◌}
use native.Mathlib.Omega.{arith}
use lib.ListN.{get_or}
use Rattle.laws.specs.Range.{every}
use Rattle.laws.specs.Columns.{information_columns}
use Rattle.laws.proofs.Range.{eq_at}
use Rattle.tables.specs.declared.Shape.{Shape}
use Rattle.tables.specs.Graph.{base_columns, info_columns, base_rows, shape_of}
use Rattle.tables.proofs.Sizes.{sizes}
use Rattle.tables.proofs.shape_at.Goals as goal

abbrev table : List ℕ
table = 51 ∷ 45 ∷ 39 ∷ 33 ∷ 27 ∷ 21 ∷ 17 ∷ 15 ∷ 13 ∷ 11 ∷ 9 ∷ 7 ∷ 7 ∷ 7 ∷ 6 ∷ 5 ∷ 4 ∷ 3 ∷ []

info : (g : ℕ) → g < 18 → get_or table g 0 ≡ info_columns g
unfolding every information_columns base_columns info_columns
info g h = eq_at (λ g. get_or table g 0) info_columns 18 tt g h

shape_with : ℕ → ℕ → Shape
shape_with g k = record { n_b = base_columns g; k_b = k; m_b = base_columns g - k }

pub overflow_sub-result : goal.overflow_sub-result
unfolding base_columns
overflow_sub-result c = omega (arith, info c.args.g c.requires, (sizes c.args.g c.requires).columns)

pub returns : goal.returns
unfolding base_columns base_rows shape_of shape_with
returns c =
    let e = info c.args.g c.requires in
    let z = sizes c.args.g c.requires in
    record {
      value = ap (shape_with c.args.g) e;
      columns = e;
      bounds =
          (omega (arith, e, z.info), omega (arith, e, z.info_most), omega (arith, e, z.rows, z.columns), omega (arith, e, z.rows_most, z.columns), omega (arith, e, z.columns), omega (arith, z.columns_most));
    }
