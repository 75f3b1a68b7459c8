-- Two f32 numbers have the same bits exactly when they are the same. Assumes nothing.
use mathlib.Core.Path.{◌≡◌, refl, sym, ap, ◌∙◌}
use mathlib.Core.Bool.{Bool, true, false, true≢false}
use lib.Ieee.{Float, nan, inf, fin, binary32, fits, is_nan, of_bits, to_bits}
use lib.Ieee.Bits.{of_bits-to_bits}
use borrow.Author.Tests.{eq-eqb, ne_eqb, eqb-true}
use Rattle.soak.specs.Compare.{same_number}

is_same : (x y : Float) → x ≡ y → same_number x y ≡ true
unfolding same_number
is_same x y e = eq-eqb _ _ (ap (to_bits binary32) e)

-- the bits of a number that fits say which it is
pub same_is : (x y : Float) → fits binary32 x ≡ true → fits binary32 y ≡ true → same_number x y ≡ true → x ≡ y
unfolding same_number
same_is x y p q s =
    sym (of_bits-to_bits binary32 x (rw p tt)) ∙ ap (of_bits binary32) (eqb-true _ _ s) ∙ of_bits-to_bits binary32 y (rw q tt)

other : (x y : Float) → fits binary32 x ≡ true → fits binary32 y ≡ true → (x ≡ y → ⊥) → same_number x y ≡ false
unfolding same_number
other x y p q n =
    ne_eqb _ _
    (λ e. n (sym (of_bits-to_bits binary32 x (rw p tt)) ∙ ap (of_bits binary32) e ∙ of_bits-to_bits binary32 y (rw q tt)))

the_nan : (x : Float) → is_nan x ≡ true → x ≡ nan
unfolding is_nan
the_nan nan e = refl
the_nan (inf s) e = cc
the_nan (fin s m k) e = cc

-- a NaN is like a NaN alone
pub nan_same : (x y : Float) → fits binary32 x ≡ true → fits binary32 y ≡ true → is_nan x ≡ true → is_nan y ≡ same_number x y
nan_same x y p q e = by (is_nan y) refl
  where
    by : (t : Bool) → is_nan y ≡ t → t ≡ same_number x y
    by true d = sym (is_same x y (the_nan x e ∙ sym (the_nan y d)))
    by false d = sym (other x y p q (λ w. true≢false (sym e ∙ ap is_nan w ∙ d)))

pub nan_other : (x y : Float) → fits binary32 x ≡ true → fits binary32 y ≡ true → is_nan x ≡ false → is_nan y ≡ true
    → false ≡ same_number x y
nan_other x y p q e d = sym (other x y p q (λ w. true≢false (sym d ∙ sym (ap is_nan w) ∙ e)))
