-- What the calls of graph design tell, and what they write: each is the list of its tests, in the order in which they are made. Assumes
-- nothing.
use Rattle.std.specs.Prelude.{cond, List, ℕ, Ok, ◌*◌, ◌/◌, ◌%◌, ◌-◌, ltb, length}
use Rattle.laws.specs.Columns.{information_columns, first_fault}
use Rattle.refusals.specs.Outcome.{Outcome, refused, after, and_then, exact, in_range}
use Rattle.growth.specs.Growth.{rows_of}
use Rattle.shifts.specs.Shifts.{shifts_of}
use Rattle.cycles.specs.Cycles.{four_cycles}

-- refusal 3: n_b and k_b; n_b and percent; n_b, k_b and z
abbrev pub shaped_told : ℕ → ℕ → Outcome (Unit {0})
shaped_told n_b k_b = and_then (in_range n_b 4 64) (λ _. in_range k_b 1 (n_b - 3))

abbrev pub rated_told : ℕ → ℕ → Outcome (Unit {0})
rated_told n_b percent = and_then (in_range n_b 4 64) (λ _. in_range percent 0 100)

abbrev pub lifted_told : ℕ → ℕ → ℕ → Outcome (Unit {0})
lifted_told n_b k_b z = and_then (shaped_told n_b k_b) (λ _. in_range z 1 65535)

-- refusal 4: the column, and the place in it, of the first row that is not below m or that its column has before
abbrev pub sound_told : ℕ → List ℕ → Outcome (Unit {0})
sound_told m rows =
    cond (ltb (first_fault m rows) (length rows)) (refused 4 (first_fault m rows / 3) (first_fault m rows % 3)) (Ok tt)

-- information_columns: 3
unfoldable pub columns_told : ℕ → ℕ → Outcome ℕ
columns_told n_b percent = and_then (rated_told n_b percent) (λ _. Ok (information_columns n_b percent))

-- peg: 3, 9
unfoldable pub peg_told : ℕ → ℕ → ℕ → Outcome (Unit {0})
peg_told n_b k_b room = and_then (shaped_told n_b k_b) (λ _. exact 9 room (3 * k_b))

unfoldable pub peg_written : ℕ → ℕ → List ℕ → List ℕ
peg_written n_b k_b out = after (peg_told n_b k_b (length out)) (λ _. rows_of (n_b - k_b) k_b) out

-- assign_shifts: 3, 5, 9, 4
unfoldable pub shifts_told : ℕ → ℕ → List ℕ → ℕ → Outcome (Unit {0})
shifts_told n_b k_b rows room =
    and_then (shaped_told n_b k_b) (λ _.
    and_then (exact 5 (length rows) (3 * k_b)) (λ _.
    and_then (exact 9 room (3 * k_b)) (λ _. sound_told (n_b - k_b) rows)))

unfoldable pub shifts_written : ℕ → ℕ → List ℕ → ℕ → List ℕ → List ℕ
shifts_written n_b k_b rows seed out = after (shifts_told n_b k_b rows (length out)) (λ _. shifts_of rows seed (3 * k_b)) out

-- build: 3, 9 for the rows, 9 for the shifts
unfoldable pub build_told : ℕ → ℕ → ℕ → ℕ → Outcome (Unit {0})
build_told n_b percent row_room shift_room =
    let wanted = 3 * information_columns n_b percent in
    and_then (rated_told n_b percent) (λ _. and_then (exact 9 row_room wanted) (λ _. exact 9 shift_room wanted))

-- the graph that it builds
unfoldable pub built_rows : ℕ → ℕ → List ℕ
built_rows n_b percent = rows_of (n_b - information_columns n_b percent) (information_columns n_b percent)

unfoldable pub built_shifts : ℕ → ℕ → ℕ → List ℕ
built_shifts n_b percent seed = shifts_of (built_rows n_b percent) seed (3 * information_columns n_b percent)

unfoldable pub rows_built : ℕ → ℕ → List ℕ → ℕ → List ℕ
rows_built n_b percent out shift_room = after (build_told n_b percent (length out) shift_room) (λ _. built_rows n_b percent) out

unfoldable pub shifts_built : ℕ → ℕ → ℕ → ℕ → List ℕ → List ℕ
shifts_built n_b percent seed row_room out =
    after (build_told n_b percent row_room (length out)) (λ _. built_shifts n_b percent seed) out

-- four_cycles: 3 with z last, 5 for the rows, 5 for the shifts, 4
unfoldable pub cycles_told : ℕ → ℕ → List ℕ → List ℕ → ℕ → Outcome ℕ
cycles_told n_b k_b rows shifts z =
    and_then (lifted_told n_b k_b z) (λ _.
    and_then (exact 5 (length rows) (3 * k_b)) (λ _.
    and_then (exact 5 (length shifts) (3 * k_b)) (λ _.
    and_then (sound_told (n_b - k_b) rows) (λ _. Ok (four_cycles rows shifts z (n_b - k_b) k_b)))))
