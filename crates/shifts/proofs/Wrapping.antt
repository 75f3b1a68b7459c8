-- A product modulo 2^64 from halves of 32 bits. Assumes nothing.
use Rattle.std.proofs.Common.{◌≡◌, ℕ, ◌+◌, ◌*◌, ◌/◌, ◌%◌, ◌<◌, ◌≤◌, sym, ap, ◌∙◌, mul_assoc, add-mul, mul-le-mul_left, div-add-mod', mul-add, mul_right_comm, mul_left_comm, arith}
use native.Mathlib.Nat.{add-mod, add-mul-mod_self_right}

-- the product of two halves fits
pub halves_fit : (a b : ℕ) → a < 4294967296 → b < 4294967296 → a * b < 18446744073709551616
halves_fit a b h k =
    let l : b ≤ 4294967295 = omega arith in
    omega (arith, mul-le-mul_left a l)

product : (p q r s h : ℕ) → (p * h + q) * (r * h + s) ≡ p * r * (h * h) + (p * s + q * r) * h + q * s
product p q r s h =
    let e₁ : p * h * (r * h) ≡ p * r * (h * h) = mul_assoc p h (r * h) ∙ ap (λ (n : ℕ). p * n) (mul_left_comm h r h) ∙ sym (mul_assoc p r (h * h)) in
    let e₂ : p * h * s ≡ p * s * h = mul_right_comm p h s in
    let e₃ : q * (r * h) ≡ q * r * h = sym (mul_assoc q r h) in
    omega (arith, add-mul (p * h) q (r * h + s), mul-add (p * h) (r * h) s, mul-add q (r * h) s, add-mul (p * s) (q * r) h)

-- the product of the high halves is a multiple of h * h, and so is what the cross products are past h
module _ (a b h : ℕ) where
  cross : ℕ
  cross = a / h * (b % h) + a % h * (b / h)

  whole : a * b ≡ a % h * (b % h) + cross % h * h + (a / h * (b / h) + cross / h) * (h * h)
  unfolding cross
  whole =
      let e : (a / h * h + a % h) * (b / h * h + b % h) ≡ a * b = rw (div-add-mod' a h, div-add-mod' b h) in
      let f : cross / h * h * h + cross % h * h ≡ cross * h = sym (add-mul (cross / h * h) (cross % h) h) ∙ ap (λ (n : ℕ). n * h) (div-add-mod' cross h) in
      omega (
        arith,
        product (a / h) (a % h) (b / h) (b % h) h,
        mul_assoc (cross / h) h h,
        add-mul (a / h * (b / h)) (cross / h) (h * h),
      )

  pub wrapped : (a % h * (b % h) + (a / h * (b % h) % h + a % h * (b / h) % h) % h * h) % (h * h) ≡ a * b % (h * h)
  unfolding cross
  wrapped =
      rw (whole, ← add-mod (a / h * (b % h)) (a % h * (b / h)) h)
      (sym (add-mul-mod_self_right (a % h * (b % h) + cross % h * h) (a / h * (b / h) + cross / h) (h * h)))
