-- `decide_singly` meets its contract. The invariant: the decisions so far are written. Assumes nothing.
use Rattle.word.specs.Word.{Decided}
use Rattle.word.proofs.decide_singly.Given as goal

abbrev pub invariant-loop-i : goal.invariant-loop-i
invariant-loop-i l = Decided l.i l.totals l.out
