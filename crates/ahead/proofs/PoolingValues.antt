-- Pooling: known values, by computing. Assumes nothing.
use mathlib.Core.Path.{◌≡◌, refl}
use mathlib.Core.Bool.{true, false}
use lib.IntN.{pos}
use lib.Ieee.{nan, inf, fin, add, is_nan}
use Rattle.std.specs.Prelude.{Ok}
use Rattle.laws.specs.Columns.{information_columns}
use Rattle.laws.specs.Floats.{nought}
use Rattle.refusals.specs.Outcome.{refused, if_length}
use Rattle.tables.specs.Graph.{graph_number, base_columns, info_columns, base_rows, shape_of}
use Rattle.ldpc.specs.Choice.{lift_of, serves, code_of, family_code, tried_from, chosen, same_code, made, if_made}
use Rattle.ahead.specs.Pooling.{pooled_number, pool_outcome}
use Rattle.ahead.proofs.FiveTen.{five_ten}

pools : (pooled_number nan (fin true 0 (pos 0)) ≡ nought)
    × (pooled_number (fin true 0 (pos 0)) (fin true 0 (pos 0)) ≡ fin true 0 (pos 0))
    × (pooled_number nan nan ≡ nought)
    × (pooled_number nan (inf true) ≡ inf true)
    × (pooled_number (inf false) (inf true) ≡ nought)
    × (pooled_number (fin false 1 (pos 0)) (fin true 1 (pos 0)) ≡ nought)
unfolding pooled_number add is_nan
pools = (refl, refl, refl, refl, refl, refl)

-- the order of the refusals: 11, 5 for the first pass, 5 for the second, 9
refusals : (pool_outcome (five_ten 7) 9 8 6 ≡ refused 11 7 10) × (pool_outcome (five_ten 5) 9 8 6 ≡ refused 5 9 10)
    × (pool_outcome (five_ten 5) 10 8 6 ≡ refused 5 8 10) × (pool_outcome (five_ten 5) 10 10 6 ≡ refused 9 6 10)
    × (pool_outcome (five_ten 5) 10 10 10 ≡ Ok tt)
unfolding information_columns graph_number base_columns info_columns base_rows shape_of
    lift_of serves code_of family_code tried_from chosen same_code made if_made if_length pool_outcome five_ten
refusals = (refl, refl, refl, refl, refl)
