-- The lift of a shape: at least 1, and the least that covers n. Assumes nothing.
use mathlib.Core.Path.{◌≡◌, subst, sym}
use Prim.Native.Nat.{ℕ, ◌+◌, ◌*◌, ◌/◌, ◌-◌, ◌<◌, ◌≤◌, max}
use native.Mathlib.Omega.{arith}
use native.Mathlib.Nat.{lt-div-mul-add, div-mul-le_self, one-mul, zero-mul}
use native.Mathlib.Decide.{dec_le}
use Rattle.tables.specs.declared.Shape.{Shape}
use Rattle.ldpc.specs.Choice.{lift_of}

at_least_one : (P : ℕ → Type 0) (q : ℕ) → (1 ≤ q → P q) → (q ≡ 0 → P 1) → P (max 1 q)
at_least_one P q f g = by (dec_le 1 q)
  where
    by : Dec (1 ≤ q) → P (max 1 q)
    by (yes h) = let e : max 1 q ≡ q = omega arith in subst P (sym e) (f h)
    by (no h) = let e : max 1 q ≡ 1 = omega arith in subst P (sym e) (g (omega arith))

module _ (s : Shape) (n : ℕ) where
  pub lift_pos : 1 ≤ lift_of s n
  unfolding lift_of
  lift_pos = omega arith

  pub lift_covers : 0 < s.n_b → n ≤ lift_of s n * s.n_b
  unfolding lift_of
  lift_covers h =
      let q = (n + s.n_b - 1) / s.n_b in
      let k = lt-div-mul-add {a = n + s.n_b - 1} h in
      at_least_one (λ z. n ≤ z * s.n_b) q (λ p. omega (arith, k))
      (λ e. omega (arith, rw (e, zero-mul) at k, one-mul s.n_b))

  pub lift_most : lift_of s n * s.n_b < max 1 n + s.n_b
  unfolding lift_of
  lift_most =
      let q = (n + s.n_b - 1) / s.n_b in
      at_least_one (λ z. z * s.n_b < max 1 n + s.n_b) q
      (λ p. omega (arith, div-mul-le_self (n + s.n_b - 1) s.n_b))
      (λ e. omega (arith, one-mul s.n_b))
