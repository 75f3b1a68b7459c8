-- `rule::magnitude` meets its contract. Assumes nothing.
use mathlib.Core.Path.{◌≡◌, refl, ◌∙◌}
use mathlib.Core.Bool.{false}
use lib.Ieee.{Float, nan, inf, fin}
use Rattle.std.specs.Float.{float_with_sign}
use Rattle.laws.specs.Floats.{magnitude}
use Rattle.rule.proofs.magnitude.Goals as goal

cleared : (x : Float) → float_with_sign false x ≡ magnitude x
unfolding magnitude float_with_sign
cleared nan = refl
cleared (inf s) = refl
cleared (fin s m e) = refl

pub returns : goal.returns
returns c = c.abs.ensures.value ∙ cleared c.args.m
