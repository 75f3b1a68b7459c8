-- Two columns of three places differ where one of their places does. Assumes nothing.
use Rattle.std.proofs.Common.{◌≡◌, Bool, true, not, ◌&&◌, ◌||◌, arith}
use Rattle.std.proofs.lemmas.Grind.{common_steps}

pub apart : (x y z u v w : Bool)
    → not ((x && (y && (z && true))) && (u && (v && (w && true)))) ≡ (((not x || not u) || (not y || not v)) || (not z || not w))
apart x y z u v w = grind (arith, common_steps)
