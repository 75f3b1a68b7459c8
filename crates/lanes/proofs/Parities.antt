-- Parities, as a mask: it is read as numbers, of all bits or none. Assumes nothing.
use Rattle.std.proofs.Common.{◌≡◌, ◌-◌, ◌^◌, Bool, true, false, cond, List, [], ◌∷◌, ap, ap₂, ◌∙◌, refl, ℕ, zero, suc, length, map, replicate, bit_xor, arith}
use mathlib.Core.Bool.{xor}
use Rattle.std.specs.Simd.Lanes.{zip2, top}
use mir.Syntax.{w32}
use mir.Val.{bits, of_z, to_z}
use lib.Ieee.{Float, lt}
use Rattle.laws.specs.Floats.{nought, negative}
use Rattle.lanes.specs.Masks.{mask_of}

abbrev pub ones : Bool → ℕ
ones b = cond b (2 ^ bits w32 - 1) 0

pub xored : (a b : Bool) → bit_xor (ones a) (ones b) ≡ ones (xor a b)
unfolding xor
xored true true = refl
xored true false = refl
xored false true = refl
xored false false = refl

-- a lane of a mask that is kept, and a mask that is passed
kept : (b : Bool) → of_z w32 (mask_of b) ≡ ones b
kept true = refl
kept false = refl

pub passed : (odd : List ℕ) (bs : List Bool) → odd ≡ map ones bs → map (to_z w32) odd ≡ map mask_of bs
passed odd bs e = ap (map (to_z w32)) e ∙ by bs
  where
    one : (b : Bool) → to_z w32 (ones b) ≡ mask_of b
    one true = refl
    one false = refl

    by : (bs : List Bool) → map (to_z w32) (map ones bs) ≡ map mask_of bs
    by [] = refl
    by (b ∷ bs) = ap₂ ◌∷◌ (one b) (by bs)

-- what a select reads of a mask
pub tops_ones : (bs : List Bool) → map (top 31) (map ones bs) ≡ bs
tops_ones [] = refl
tops_ones (b ∷ bs) = ap₂ ◌∷◌ (one b) (tops_ones bs)
  where
    one : (b : Bool) → top 31 (ones b) ≡ b
    one true = refl
    one false = refl

-- parities, with one number's sign more each
pub parities : (n : ℕ) (bs : List Bool) (ms : List Float) → length ms ≡ n
    → zip2 bit_xor (map (of_z w32) (map mask_of bs)) (zip2 (λ a b. cond (lt a b) (2 ^ bits w32 - 1) 0) ms (replicate n nought))
    ≡ map ones (zip2 (λ b m. xor b (negative m)) bs ms)
unfolding negative
parities zero [] ms e = refl
parities zero (b ∷ bs) [] e = refl
parities zero (b ∷ bs) (m ∷ ms) e = absurd (omega (arith, e))
parities (suc n) bs [] e = absurd (omega (arith, e))
parities (suc n) [] (m ∷ ms) e = refl
parities (suc n) (b ∷ bs) (m ∷ ms) e = ap₂ ◌∷◌ (ap (λ x. bit_xor x (ones (negative m))) (kept b) ∙ xored b (negative m)) (parities n bs ms (omega (arith, e)))
