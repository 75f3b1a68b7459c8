-- Laws of an ordered record. (1) `started_ordered`, `taken_ordered`: the record of no message is ordered, and stays so with each.
-- (2) `second`: its second magnitude by a maximum and a minimum. (3) `unbounded`: where the least is infinite, so is the second.
-- Assumes nothing.
use mathlib.Core.Path.{◌≡◌, refl, ◌∙◌}
use mathlib.Core.Bool.{Bool, true, false, cond, true≢false, false≢true}
use Prim.Native.Nat.{ℕ}
use lib.Ieee.{Float, nan, inf, fin, binary32, lt, fits, is_nan}
use Rattle.laws.specs.Floats.{magnitude}
use Rattle.laws.proofs.Floats.{tied}
use Rattle.rule.specs.declared.Least.{Least}
use Rattle.rule.specs.Rule.{Ordered, started, taken}

-- ---- (1) what a record starts as is ordered, and stays so
pub started_ordered : Ordered started
unfolding started is_nan magnitude lt
started_ordered = record { number = refl; cleared = refl; lesser = refl }

less_number : (x y : Float) → lt x y ≡ true → is_nan x ≡ false
unfolding lt is_nan
less_number nan y h = absurd (false≢true h)
less_number (inf s) y h = refl
less_number (fin s m e) y h = refl

magnitude_cleared : (x : Float) → magnitude (magnitude x) ≡ magnitude x
unfolding magnitude
magnitude_cleared nan = refl
magnitude_cleared (inf s) = refl
magnitude_cleared (fin s m e) = refl

module _ (l : Least) (m : Float) (place : ℕ) (fit : fits binary32 l.«min1» ≡ true) (fit_m : fits binary32 m ≡ true)
    (O : Ordered l) where
  abbrev a : Float
  a = magnitude m

  -- a magnitude that is not below the least, and is no NaN, may be the second
  upper : lt a l.«min1» ≡ false → is_nan a ≡ false → cond (lt l.«min1» a) l.«min1» a ≡ l.«min1»
  upper h n = by (lt l.«min1» a) refl
    where
      by : (b : Bool) → lt l.«min1» a ≡ b → cond b l.«min1» a ≡ l.«min1»
      by true g = refl
      by false g =
          tied m l.«min1» fit_m fit n (rw O.cleared O.number) (rw O.cleared h) (rw O.cleared g) ∙ O.cleared

  pub taken_ordered : Ordered (taken l m place)
  unfolding taken
  taken_ordered = by (lt a l.«min1») (lt a l.«min2») _ _ refl refl
    where
      by : (b c : Bool) (p : ℕ) (s : Bool) → lt a l.«min1» ≡ b → lt a l.«min2» ≡ c
          → Ordered
          (record { «min1» = cond b a l.«min1»; «min2» = cond b l.«min1» (cond c a l.«min2»); argmin = p; sign = s })
      by true c p s h k = record { number = less_number a l.«min1» h; cleared = magnitude_cleared m; lesser = rw h }
      by false true p s h k =
          record { number = O.number; cleared = O.cleared; lesser = upper h (less_number a l.«min2» k) }
      by false false p s h k = record { number = O.number; cleared = O.cleared; lesser = O.lesser }

-- ---- (2) the lesser of the second and the larger of a and the least is what `taken` has
pub second : (l : Least) (a : Float) → Ordered l
    → cond (lt (cond (lt a l.«min1») l.«min1» a) l.«min2») (cond (lt a l.«min1») l.«min1» a) l.«min2»
    ≡ cond (lt a l.«min1») l.«min1» (cond (lt a l.«min2») a l.«min2»)
second l a O = by (lt a l.«min1»)
  where
    by : (b : Bool) → cond (lt (cond b l.«min1» a) l.«min2») (cond b l.«min1» a) l.«min2»
        ≡ cond b l.«min1» (cond (lt a l.«min2») a l.«min2»)
    by true = O.lesser
    by false = refl

-- ---- (3) nothing is above infinity
boundless : (x y : Float) → is_nan x ≡ false → lt x (inf false) ≡ false → cond (lt x y) x y ≡ x → y ≡ x
unfolding is_nan lt
boundless nan y n h o = absurd (true≢false n)
boundless (inf true) y n h o = absurd (true≢false h)
boundless (inf false) nan n h o = o
boundless (inf false) (inf t) n h o = o
boundless (inf false) (fin t k d) n h o = o
boundless (fin s m e) y n h o = absurd (true≢false h)

pub unbounded : (l : Least) → Ordered l → lt l.«min1» (inf false) ≡ false → l.«min2» ≡ l.«min1»
unbounded l O h = boundless l.«min1» l.«min2» O.number h O.lesser
