-- The parity columns of growth have the parity edges of the matrix, and no others. Assumes nothing.
use mathlib.Core.Path.{◌≡◌, sym}
use mathlib.Core.Logic.{⊎_elim}
use mathlib.Core.Bool.{Bool, true, ◌&&◌, ◌||◌}
use Prim.Native.Nat.{ℕ, zero, suc, ◌+◌, ◌*◌, ◌/◌, ◌%◌, ◌-◌, ◌<◌}
use native.Mathlib.Omega.{arith}
use native.Mathlib.Decide.{ℕ_discrete}
use lib.Dec.{eqb}
use borrow.Author.Tests.{eq-eqb, ne_eqb, eqb-true}
use Rattle.laws.specs.Range.{some}
use Rattle.laws.specs.Columns.{parity_row}
use Rattle.laws.proofs.Columns.{stair_row}
use Rattle.std.proofs.lemmas.Bool.{and_parts, or_cases, or_left, or_right}
use Rattle.laws.proofs.Some.{alike, some_from, some_has}
use Rattle.growth.specs.Growth.{parity_has}

module _ (m : ℕ) (c r : ℕ) where
  -- parity edge p is in parity column c, on row r
  abbrev is_edge : ℕ → Bool
  is_edge p = eqb (parity_row m p) r && eqb ((p - 1) / 2) c

  -- what parity edge p says of its row
  row_is : (p : ℕ) → parity_row m p ≡ r → (p - 1) / 2 ≡ c → parity_has m c r ≡ true
  unfolding parity_row parity_has
  row_is zero e f = rw (eq-eqb c 0 (sym f), eq-eqb r 0 (sym e))
  row_is (suc zero) e f =
      rw (eq-eqb c 0 (sym f)) (or_left (eqb r 0 || eqb r (m - 1)) (eqb r (m / 2)) (or_right (eqb r 0) (eqb r (m - 1)) (eq-eqb r (m - 1) (sym e))))
  row_is (suc (suc zero)) e f =
      rw (eq-eqb c 0 (omega arith)) (or_right (eqb r 0 || eqb r (m - 1)) (eqb r (m / 2)) (eq-eqb r (m / 2) (sym e)))
  row_is (suc (suc (suc p))) e f =
      let q : ℕ = suc (suc (suc p)) in
      rw (ne_eqb c 0 (omega arith)) (by (stair_row m q (omega arith)) (ℕ_discrete r c))
    where
      by : parity_row m (suc (suc (suc p))) ≡ (suc (suc (suc p)) - 1) / 2 - (suc (suc (suc p)) + 1) % 2 → Dec (r ≡ c) → (eqb r c || eqb (r + 1) c) ≡ true
      by s (yes d) = or_left (eqb r c) (eqb (r + 1) c) (eq-eqb r c d)
      by s (no d) = or_right (eqb r c) (eqb (r + 1) c) (eq-eqb (r + 1) c (omega (arith, s, e, f)))

  edge : (p : ℕ) → p < 2 * m + 1 → parity_row m p ≡ r → (p - 1) / 2 ≡ c → some is_edge (2 * m + 1) ≡ true
  edge p h e f = some_has is_edge (2 * m + 1) p h (rw (eq-eqb (parity_row m p) r e, eq-eqb ((p - 1) / 2) c f))

  has_edge : c < m → parity_has m c r ≡ true → some is_edge (2 * m + 1) ≡ true
  unfolding parity_has parity_row
  has_edge h t = by (ℕ_discrete c 0)
    where
      first : c ≡ 0 → (eqb r 0 || eqb r (m - 1) || eqb r (m / 2)) ≡ true → some is_edge (2 * m + 1) ≡ true
      first z u =
          ⊎_elim
          (λ v.
          ⊎_elim (λ w. edge 0 (omega arith) (sym (eqb-true r 0 w)) (sym z)) (λ w. edge 1 (omega arith) (sym (eqb-true r (m - 1) w)) (sym z))
          (or_cases (eqb r 0) (eqb r (m - 1)) v))
          (λ v. edge 2 (omega arith) (sym (eqb-true r (m / 2) v)) (sym z))
          (or_cases (eqb r 0 || eqb r (m - 1)) (eqb r (m / 2)) u)

      later : (c ≡ 0 → ⊥) → (eqb r c || eqb (r + 1) c) ≡ true → some is_edge (2 * m + 1) ≡ true
      later n u =
          ⊎_elim
          (λ v. edge (2 * c + 1) (omega arith) (omega (arith, stair_row m (2 * c + 1) (omega arith), eqb-true r c v)) (omega arith))
          (λ v. edge (2 * c + 2) (omega arith) (omega (arith, stair_row m (2 * c + 2) (omega arith), eqb-true (r + 1) c v)) (omega arith))
          (or_cases (eqb r c) (eqb (r + 1) c) u)

      by : Dec (c ≡ 0) → some is_edge (2 * m + 1) ≡ true
      by (yes z) = first z (rw (eq-eqb c 0 z) at t)
      by (no n) = later n (rw (ne_eqb c 0 n) at t)

  pub parity_edges_lem : c < m → parity_has m c r ≡ some is_edge (2 * m + 1)
  parity_edges_lem h =
      alike (parity_has m c r) (some is_edge (2 * m + 1)) (has_edge h)
      (λ t.
      let s = some_from is_edge (2 * m + 1) t in
      let b = and_parts (eqb (parity_row m s.at) r) (eqb ((s.at - 1) / 2) c) s.has in
      row_is s.at (eqb-true (parity_row m s.at) r b.0) (eqb-true ((s.at - 1) / 2) c b.1))
