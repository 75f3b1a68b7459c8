-- The slot b * z + t, for t below z, and the offset t turned on and back. Assumes nothing.
use mathlib.Core.Path.{◌≡◌, sym, ap, ◌∙◌}
use Prim.Native.Nat.{ℕ, ◌+◌, ◌*◌, ◌/◌, ◌%◌, ◌-◌, ◌<◌, ◌≤◌}
use native.Mathlib.Nat.{mul-le-mul_right, mul-add-div_right, div-eq_of_lt, add-zero, div-lt_iff_lt-mul}
use native.Mathlib.Nat.{zero-add, mul-add-mod_self_right, mod-lt, mod-eq_of_lt, mod-add-mod, add-mod-mod, add-mod_right, div-add-mod'}
use native.Mathlib.Decide.{dec_lt}
use native.Mathlib.Omega.{arith}

pub slot_lt : {b n z t : ℕ} → b < n → t < z → b * z + t < n * z
slot_lt {b} {n} {z} {t} h k = omega (arith, mul-le-mul_right z h)

-- the slots of a base edge are among those of n base edges
pub row_le : {b n : ℕ} (z : ℕ) → b < n → b * z + z ≤ n * z
row_le z h = omega (arith, mul-le-mul_right z h)

pub slot_div : (b z t : ℕ) → t < z → (b * z + t) / z ≡ b
slot_div b z t h =
    let p : 0 < z = omega arith in
    rw (mul-add-div_right p b t, div-eq_of_lt h, add-zero)

pub slot_mod : (b z t : ℕ) → t < z → (b * z + t) % z ≡ t
slot_mod b z t h = mul-add-mod_self_right b z t ∙ mod-eq_of_lt h

-- a slot is known by its base edge and its offset
pub slot_is : (s z b t : ℕ) → s / z ≡ b → s % z ≡ t → s ≡ b * z + t
slot_is s z b t p q = sym (div-add-mod' s z) ∙ cc

pub edge_lt : {s n z : ℕ} → 0 < z → s < n * z → s / z < n
edge_lt p h = (div-lt_iff_lt-mul p).1 h

-- an offset turned back by one and then on by one, and the other way round
pub back_then_on : (t z : ℕ) → t < z → ((t + z - 1) % z + 1) % z ≡ t
back_then_on t z h = let e : t + z - 1 + 1 ≡ t + z = omega arith in rw (mod-add-mod, e, add-mod_right, mod-eq_of_lt h)

pub on_then_back : (t z : ℕ) → t < z → ((t + 1) % z + z - 1) % z ≡ t
on_then_back t z h =
    let e : (t + 1) % z + z - 1 ≡ (t + 1) % z + (z - 1) = omega arith in
    let d : t + 1 + (z - 1) ≡ t + z = omega arith in
    rw (e, mod-add-mod, d, add-mod_right, mod-eq_of_lt h)

-- an offset turned back by s and then on by s
pub back_then_on_by : (s t z : ℕ) → t < z → ((t + z - s % z) % z + s) % z ≡ t
back_then_on_by s t z h =
    let p : 0 < z = omega arith in
    let e : t + z - s % z + s % z ≡ t + z = omega (arith, mod-lt s p) in
    rw (mod-add-mod, ← add-mod-mod (t + z - s % z) s z, e, add-mod_right, mod-eq_of_lt h)

-- what turning back by one comes to
pub back_first : (z : ℕ) → 1 ≤ z → (0 + z - 1) % z ≡ z - 1
back_first z h = rw zero-add (mod-eq_of_lt (omega arith))

pub back_next : (t z : ℕ) → 1 ≤ t → t < z → (t + z - 1) % z ≡ t - 1
back_next t z h l = let e : t + z - 1 ≡ t - 1 + z = omega arith in rw (e, add-mod_right) (mod-eq_of_lt (omega arith))

-- the two cases of a rotation by s below z: of offset t, on by s; of offset j, back by s
pub turned_low : (t s z : ℕ) → t < z - s → (t + s) % z ≡ t + s
turned_low t s z h = mod-eq_of_lt (omega arith)

pub turned_high : (t s z : ℕ) → t < z → s < z → z - s ≤ t → (t + s) % z ≡ t + s - z
turned_high t s z h k l = let e : t + s ≡ (t + s - z) + z = omega arith in ap (λ (x : ℕ). x % z) e ∙ add-mod_right (t + s - z) z ∙ mod-eq_of_lt (omega arith)

pub back_low : (j s z : ℕ) → s < z → j < s → (j + z - s) % z ≡ j + z - s
back_low j s z h k = mod-eq_of_lt (omega arith)

pub back_high : (j s z : ℕ) → j < z → s < z → s ≤ j → (j + z - s) % z ≡ j - s
back_high j s z h k l = let e : j + z - s ≡ (j - s) + z = omega arith in ap (λ (x : ℕ). x % z) e ∙ add-mod_right (j - s) z ∙ mod-eq_of_lt (omega arith)

-- an offset turned on by s to j is j turned back
pub turned_back : (t s j z : ℕ) → t < z → s < z → (t + s) % z ≡ j → t ≡ (j + z - s) % z
turned_back t s j z h k e = by (dec_lt t (z - s))
  where
    by : Dec (t < z - s) → t ≡ (j + z - s) % z
    by (yes l) =
        let is : j ≡ t + s = sym e ∙ turned_low t s z l in
        sym (back_high j s z (omega arith) k (omega arith) ∙ omega arith)
    by (no l) =
        let is : j ≡ t + s - z = sym e ∙ turned_high t s z h k (omega arith) in
        sym (back_low j s z k (omega arith) ∙ omega arith)

-- back by s below z and then on by s
pub back_then_on_below : (j s z : ℕ) → j < z → s < z → ((j + z - s) % z + s) % z ≡ j
back_then_on_below j s z h k = rw (mod-eq_of_lt k) at (back_then_on_by s j z h)
