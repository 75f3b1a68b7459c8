-- `decide_by_sixteens` meets its contract. The invariant: the decisions so far are written. Assumes nothing.
use Rattle.std.proofs.Common.{◌*◌}
use Rattle.word.specs.Word.{Decided}
use Rattle.word.proofs.decide_by_sixteens.Given as goal

abbrev pub invariant-loop-i : goal.invariant-loop-i
invariant-loop-i l = Decided (16 * l.i) l.totals l.out
