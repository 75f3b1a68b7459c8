-- `tables::first_column` meets its contract, by a test over its 18 entries. Assumes nothing.
use mathlib.Core.List.{List, [], ◌∷◌}
use Prim.Native.Nat.{ℕ}
use native.Mathlib.Omega.{arith}
use lib.ListN.{get_or}
use Rattle.laws.specs.Range.{every, sum}
use Rattle.laws.specs.Columns.{information_columns}
use Rattle.laws.proofs.Range.{eq_at}
use Rattle.tables.specs.Graph.{base_columns, info_columns, first_column}
use Rattle.tables.proofs.Sizes.{sizes}
use Rattle.tables.proofs.first_column.Goals as goal

abbrev table : List ℕ
table = 0 ∷ 51 ∷ 96 ∷ 135 ∷ 168 ∷ 195 ∷ 216 ∷ 233 ∷ 248 ∷ 261 ∷ 272 ∷ 281 ∷ 288 ∷ 295 ∷ 302 ∷ 308 ∷ 313 ∷ 317 ∷ []

pub returns : goal.returns
unfolding every sum information_columns base_columns info_columns first_column
returns c =
    let value = eq_at (λ g. get_or table g 0) first_column 18 tt c.args.g c.requires in
    record { value = value; inside = omega (arith, value, (sizes c.args.g c.requires).inside) }
