-- The check rule of normalised min-sum (Chen and Fossorier, 2002), one message at a time. Assumes nothing.
use Rattle.std.specs.Prelude.{◌≡◌, false, cond, ℕ, eqb, Float}
use Rattle.std.specs.Bool.{xor}
use Rattle.std.specs.Float.{inf, binary32}
use Rattle.std.specs.Float.Ieee.{is_nan, lt, mul}
use Rattle.laws.specs.Floats.{negative, magnitude, signed}
use Rattle.rule.specs.declared.Least.{Least}

-- no message yet: both magnitudes begin at infinity
unfoldable pub started : Least
started = record { «min1» = inf false; «min2» = inf false; argmin = 0; sign = false }

-- one message more, m, at a place: the magnitudes change on strictly smaller only
unfoldable pub taken : Least → Float → ℕ → Least
taken l m place =
    record {
      «min1» = cond (lt (magnitude m) l.«min1») (magnitude m) l.«min1»;
      «min2» = cond (lt (magnitude m) l.«min1») l.«min1» (cond (lt (magnitude m) l.«min2») (magnitude m) l.«min2»);
      argmin = cond (lt (magnitude m) l.«min1») place l.argmin;
      sign = xor l.sign (negative m);
    }

-- the least magnitude is a number with its sign bit clear, and it is not above the second
pub record Ordered (l : Least) : Type 0 where
  pub number : is_nan l.«min1» ≡ false
  pub cleared : magnitude l.«min1» ≡ l.«min1»
  pub lesser : cond (lt l.«min1» l.«min2») l.«min1» l.«min2» ≡ l.«min1»

-- what the check sends to the place that sent it m: (factor × sign) × magnitude, each product rounded once; the magnitude is
-- the least of the others', and the sign the product of theirs
unfoldable pub answered : Float → Least → Float → ℕ → Float
answered factor l m place =
    mul binary32 (mul binary32 factor (signed (xor l.sign (negative m)))) (cond (eqb place l.argmin) l.«min2» l.«min1»)
