-- `all_bits` meets its contract. The invariant: whether no byte before i is above 1. Assumes nothing.
use Rattle.std.proofs.Common.{◌≡◌, leb, take}
use Rattle.std.specs.List.{list_all}
use Rattle.bits.proofs.words.all_bits.Given as goal

abbrev pub invariant-loop-i : goal.invariant-loop-i
invariant-loop-i l = l.all ≡ list_all (λ b. leb b 1) (take l.i l.word)
