-- The check rule on lanes: what `with` and `message` compute on vectors is, lane by lane, the crate rule's `taken` and `answered`. Assumes nothing.
use Rattle.std.proofs.Common.{◌≡◌, ◌-◌, ◌^◌, Bool, true, false, cond, List, [], ◌∷◌, ap, ap₂, ◌∙◌, refl, ℕ, zero, suc, length, map, replicate, eqb, bit_xor, arith}
use mathlib.Core.Bool.{xor}
use Rattle.std.specs.Simd.Lanes.{zip2, sel_l, top, Each1}
use mir.Syntax.{w32}
use mir.Val.{bits, of_z, to_z}
use lib.Dec.{T}
use lib.Ieee.Bits.{is_true}
use lib.Ieee.{Float, lt, sub, mul, fits, binary32}
use Rattle.laws.proofs.Floats.{magnitude_kept, magnitude_turned}
use Rattle.laws.specs.Floats.{nought, negative, magnitude, signed}
use Rattle.rule.specs.declared.Least.{Least}
use Rattle.rule.specs.Rule.{taken, answered}
use Rattle.checks.specs.declared.vectors.Four.{Four}
use Rattle.lanes.specs.Masks.{mask_of}
use Rattle.lanes.proofs.Lanewise.{selected}
use Rattle.lanes.proofs.Parities.{parities, passed, tops_ones}
use Rattle.checks.specs.Lanes.{Shows}

-- the four fields with one message more
module _ (place : ℕ) where
  abbrev pub more : List Least → List Float → List Least
  more rs ms = zip2 (λ (r : Least) (m : Float). taken r m place) rs ms

  pub least_more : (rs : List Least) (ms : List Float)
      → sel_l (zip2 lt (map magnitude ms) (map (λ (r : Least). r.«min1») rs)) (map magnitude ms) (map (λ (r : Least). r.«min1») rs)
      ≡ map (λ (r : Least). r.«min1») (more rs ms)
  unfolding taken
  least_more [] [] = refl
  least_more [] (m ∷ ms) = refl
  least_more (r ∷ rs) [] = refl
  least_more (r ∷ rs) (m ∷ ms) = ap (λ l. cond (lt (magnitude m) r.«min1») (magnitude m) r.«min1» ∷ l) (least_more rs ms)

  pub second_more : (rs : List Least) (ms : List Float)
      → sel_l (zip2 lt (map magnitude ms) (map (λ (r : Least). r.«min1») rs)) (map (λ (r : Least). r.«min1») rs)
      (sel_l (zip2 lt (map magnitude ms) (map (λ (r : Least). r.«min2») rs)) (map magnitude ms) (map (λ (r : Least). r.«min2») rs))
      ≡ map (λ (r : Least). r.«min2») (more rs ms)
  unfolding taken
  second_more [] [] = refl
  second_more [] (m ∷ ms) = refl
  second_more (r ∷ rs) [] = refl
  second_more (r ∷ rs) (m ∷ ms) =
      ap (λ l. cond (lt (magnitude m) r.«min1») r.«min1» (cond (lt (magnitude m) r.«min2») (magnitude m) r.«min2») ∷ l) (second_more rs ms)

  pub place_more : (n : ℕ) (rs : List Least) (ms : List Float) → length rs ≡ n
      → sel_l (zip2 lt (map magnitude ms) (map (λ (r : Least). r.«min1») rs)) (replicate n place) (map (λ (r : Least). r.argmin) rs)
      ≡ map (λ (r : Least). r.argmin) (more rs ms)
  unfolding taken
  place_more zero [] [] e = refl
  place_more zero [] (m ∷ ms) e = refl
  place_more zero (r ∷ rs) ms e = absurd (omega (arith, e))
  place_more (suc n) [] ms e = absurd (omega (arith, e))
  place_more (suc n) (r ∷ rs) [] e = refl
  place_more (suc n) (r ∷ rs) (m ∷ ms) e =
      ap (λ l. cond (lt (magnitude m) r.«min1») place r.argmin ∷ l) (place_more n rs ms (omega (arith, e)))

-- the signs
abbrev pub signs : List Least → List Float → List Bool
signs rs ms = zip2 (λ b m. xor b (negative m)) (map (λ (r : Least). r.sign) rs) ms

pub signs_taken : (place : ℕ) (rs : List Least) (ms : List Float) → signs rs ms ≡ map (λ (r : Least). r.sign) (more place rs ms)
unfolding taken
signs_taken place [] ms = refl
signs_taken place (r ∷ rs) [] = refl
signs_taken place (r ∷ rs) (m ∷ ms) = ap (λ l. xor r.sign (negative m) ∷ l) (signs_taken place rs ms)

-- the magnitude of each lane
pub sizes : (n : ℕ) (ms : List Float) → length ms ≡ n → Each1 (λ x. T (fits binary32 x)) ms
    → sel_l (zip2 lt (zip2 (sub binary32) (replicate n nought) ms) ms) ms (zip2 (sub binary32) (replicate n nought) ms) ≡ map magnitude ms
sizes zero [] e f = refl
sizes zero (m ∷ ms) e f = absurd (omega (arith, e))
sizes (suc n) [] e f = absurd (omega (arith, e))
sizes (suc n) (m ∷ ms) e f = ap₂ ◌∷◌ (by (lt (sub binary32 nought m) m) refl) (sizes n ms (omega (arith, e)) f.1)
  where
    by : (b : Bool) → lt (sub binary32 nought m) m ≡ b → cond b m (sub binary32 nought m) ≡ magnitude m
    by true h = magnitude_kept m (is_true (fits binary32 m) f.0) h
    by false h = magnitude_turned m (is_true (fits binary32 m) f.0) h

-- a sign put on a factor
sign_of : (factor : Float) (b : Bool) → cond b (mul binary32 factor (signed true)) (mul binary32 factor (signed false)) ≡ mul binary32 factor (signed b)
sign_of factor true = refl
sign_of factor false = refl

pub answers : (factor : Float) (place n : ℕ) (rs : List Least) (ms : List Float) → length rs ≡ n
    → zip2 (mul binary32) (sel_l (signs rs ms) (replicate n (mul binary32 factor (signed true))) (replicate n (mul binary32 factor (signed false))))
    (sel_l (zip2 eqb (replicate n place) (map (λ (r : Least). r.argmin) rs)) (map (λ (r : Least). r.«min2») rs) (map (λ (r : Least). r.«min1») rs))
    ≡ zip2 (λ (r : Least) (m : Float). answered factor r m place) rs ms
unfolding answered
answers factor place zero [] ms e = refl
answers factor place zero (r ∷ rs) ms e = absurd (omega (arith, e))
answers factor place (suc n) [] ms e = absurd (omega (arith, e))
answers factor place (suc n) (r ∷ rs) [] e = refl
answers factor place (suc n) (r ∷ rs) (m ∷ ms) e =
    ap₂ ◌∷◌ (ap (λ x. mul binary32 x (cond (eqb place r.argmin) r.«min2» r.«min1»)) (sign_of factor (xor r.sign (negative m))))
    (answers factor place n rs ms (omega (arith, e)))

-- the record of vectors with one message more, as `with` computes it
module _ (place : ℕ) (rs : List Least) (ms : List Float) (long : length rs ≡ 4) (lanes : length ms ≡ 4) (l : Four) (s : Shows l rs) where
  pub shows_more : (a : List Float) → a ≡ map magnitude ms
      → Shows (record {
        «min1» = sel_l (map (top 31) (zip2 (λ x y. cond (lt x y) (2 ^ bits w32 - 1) 0) a l.«min1»)) a l.«min1»;
        «min2» = sel_l (map (top 31) (zip2 (λ x y. cond (lt x y) (2 ^ bits w32 - 1) 0) a l.«min1»)) l.«min1»
            (sel_l (map (top 31) (zip2 (λ x y. cond (lt x y) (2 ^ bits w32 - 1) 0) a l.«min2»)) a l.«min2»);
        place = sel_l (map (top 31) (zip2 (λ x y. cond (lt x y) (2 ^ bits w32 - 1) 0) a l.«min1»)) (replicate 4 place) l.place;
        sign = map (to_z w32) (zip2 bit_xor (map (of_z w32) l.sign) (zip2 (λ x y. cond (lt x y) (2 ^ bits w32 - 1) 0) ms (replicate 4 nought)));
      })
      (more place rs ms)
  shows_more a e =
      record {
        least = rw (e, s.least) (selected w32 lt _ _ _ _ ∙ least_more place rs ms);
        second = rw (e, s.least, s.second) (selected w32 lt _ _ _ _ ∙ ap (sel_l _ _) (selected w32 lt _ _ _ _) ∙ second_more place rs ms);
        place = rw (e, s.least, s.place) (selected w32 lt _ _ _ _ ∙ place_more place 4 rs ms long);
        sign =
            rw (s.sign, parities 4 (map (λ (r : Least). r.sign) rs) ms lanes)
            (passed _ (signs rs ms) refl ∙ ap (map mask_of) (signs_taken place rs ms));
      }

-- what `message` computes
module _ (factor : Float) (place : ℕ) (rs : List Least) (ms : List Float) (long : length rs ≡ 4) (lanes : length ms ≡ 4) (l : Four) (s : Shows l rs) where
  pub sent : zip2 (mul binary32)
      (sel_l (map (top 31) (zip2 bit_xor (map (of_z w32) l.sign) (zip2 (λ x y. cond (lt x y) (2 ^ bits w32 - 1) 0) ms (replicate 4 nought))))
      (replicate 4 (mul binary32 factor (signed true))) (replicate 4 (mul binary32 factor (signed false))))
      (sel_l (map (top 31) (zip2 (λ x y. cond (eqb x y) (2 ^ bits w32 - 1) 0) (replicate 4 place) l.place)) l.«min2» l.«min1»)
      ≡ zip2 (λ (r : Least) (m : Float). answered factor r m place) rs ms
  sent =
      rw (s.least, s.second, s.place, s.sign, parities 4 (map (λ (r : Least). r.sign) rs) ms lanes, tops_ones (signs rs ms))
      (ap (zip2 (mul binary32) _) (selected w32 eqb (replicate 4 place) (map (λ (r : Least). r.argmin) rs) (map (λ (r : Least). r.«min2») rs) (map (λ (r : Least). r.«min1») rs)) ∙ answers factor place 4 rs ms long)
