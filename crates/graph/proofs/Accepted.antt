-- What build and peg write: no call that reads it refuses it, rows are three different ones below m_b in each column, shifts are below
-- 512, and build is peg and then assign_shifts. Assumes nothing.
use Rattle.std.specs.Prelude.{Ok}
use mathlib.Core.Path.{◌≡◌}
use mathlib.Core.Bool.{false}
use mathlib.Core.List.{List}
use Prim.Native.Nat.{ℕ, ◌*◌, ◌-◌, ◌<◌, ◌≤◌}
use native.Mathlib.Omega.{arith}
use lib.ListN.{length, get_or}
use Rattle.laws.specs.Columns.{information_columns, faulty, first_fault}
use Rattle.laws.proofs.First.{first_none}
use Rattle.growth.specs.Growth.{rows_of}
use Rattle.growth.proofs.Grown.{length_grown, grown_sound}
use Rattle.shifts.specs.Shifts.{shifts_of}
use Rattle.shifts.proofs.Drawn.{length_chosen, shift_lt}
use Rattle.cycles.specs.Cycles.{four_cycles}
use Rattle.graph.specs.Calls.{shaped_told, rated_told, shifts_told, shifts_written, cycles_told, built_rows, built_shifts}
use Rattle.graph.proofs.Tested.{Shaped, sized, rated_fits, in_range_passed, exact_passed, sound_passed}

-- the lengths of what is written
pub length_rows : (m k : ℕ) → length (rows_of m k) ≡ 3 * k
unfolding rows_of
length_rows m k = length_grown m k (3 * k)

pub length_shifts : (rows : List ℕ) (seed n : ℕ) → length (shifts_of rows seed n) ≡ n
unfolding shifts_of
length_shifts rows seed n = length_chosen rows seed n

-- draws are below 512
pub shifts_low : (rows : List ℕ) (seed n i : ℕ) → get_or (shifts_of rows seed n) i 0 < 512
unfolding shifts_of
shifts_low rows seed n i = shift_lt rows seed n i

-- growth gives three different rows below m in each column
pub rows_sound : (m k : ℕ) → 3 ≤ m → (p : ℕ) → p < 3 * k → faulty m (rows_of m k) p ≡ false
unfolding rows_of
rows_sound m k size p h = grown_sound m k size p (3 * k) h

no_fault : (m k : ℕ) → 3 ≤ m → length (rows_of m k) ≤ first_fault m (rows_of m k)
unfolding first_fault
no_fault m k size =
    let e = first_none (faulty m (rows_of m k)) (length (rows_of m k)) (λ p h. rows_sound m k size p (omega (arith, length_rows m k))) in
    omega (arith, e)

module _ {n_b k_b : ℕ} (S : Shaped n_b k_b) where
  shaped_passed : shaped_told n_b k_b ≡ Ok tt
  shaped_passed = rw (in_range_passed n_b 4 64 S.least S.most) (in_range_passed k_b 1 (n_b - 3) S.some S.few)

  -- the rows that peg writes are accepted for shifts
  pub shifts_told_lem : (room : ℕ) → room ≡ 3 * k_b → shifts_told n_b k_b (rows_of (n_b - k_b) k_b) room ≡ Ok tt
  unfolding shifts_told
  shifts_told_lem room e =
      rw (
        shaped_passed,
        exact_passed 5 (length (rows_of (n_b - k_b) k_b)) (3 * k_b) (length_rows (n_b - k_b) k_b),
        exact_passed 9 room (3 * k_b) e,
      )
      (sound_passed (n_b - k_b) (rows_of (n_b - k_b) k_b) (no_fault (n_b - k_b) k_b (sized S).rows))

  -- and with any shifts, as many, for the count of four-cycles
  pub cycles_told_lem : (shifts : List ℕ) (z : ℕ) → length shifts ≡ 3 * k_b → 1 ≤ z → z ≤ 65535
      → cycles_told n_b k_b (rows_of (n_b - k_b) k_b) shifts z ≡ Ok (four_cycles (rows_of (n_b - k_b) k_b) shifts z (n_b - k_b) k_b)
  unfolding cycles_told
  cycles_told_lem shifts z e low high =
      rw (
        shaped_passed,
        in_range_passed z 1 65535 low high,
        exact_passed 5 (length (rows_of (n_b - k_b) k_b)) (3 * k_b) (length_rows (n_b - k_b) k_b),
        exact_passed 5 (length shifts) (3 * k_b) e,
        sound_passed (n_b - k_b) (rows_of (n_b - k_b) k_b) (no_fault (n_b - k_b) k_b (sized S).rows),
      )

-- the graph that build writes: both of the above, and its shifts are those that assign_shifts gives to its rows
module _ (n_b percent : ℕ) (within : rated_told n_b percent ≡ Ok tt) where
  abbrev k : ℕ
  k = information_columns n_b percent

  pub built_shaped : Shaped n_b k
  unfolding information_columns
  built_shaped =
      let R = rated_fits {percent = percent} within in
      record { least = R.least; most = R.most; some = omega arith; few = omega (arith, R.least) }

  pub built_again : (seed : ℕ) (out : List ℕ) → length out ≡ 3 * k → shifts_written n_b k (built_rows n_b percent) seed out ≡ built_shifts n_b percent seed
  unfolding shifts_written built_rows built_shifts
  built_again seed out e = rw (shifts_told_lem built_shaped (length out) e)

  pub built_counted : (seed z : ℕ) → 1 ≤ z → z ≤ 65535
      → cycles_told n_b k (built_rows n_b percent) (built_shifts n_b percent seed) z
      ≡ Ok (four_cycles (built_rows n_b percent) (built_shifts n_b percent seed) z (n_b - k) k)
  unfolding built_rows built_shifts
  built_counted seed z =
      cycles_told_lem built_shaped (shifts_of (rows_of (n_b - k) k) seed (3 * k)) z (length_shifts (rows_of (n_b - k) k) seed (3 * k))
