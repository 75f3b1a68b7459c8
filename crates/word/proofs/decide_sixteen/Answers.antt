-- `decide_sixteen` meets its contract. Assumes nothing.
use Rattle.std.proofs.Common.{ap, ◌∙◌}
use Rattle.word.specs.Word.{decisions_of}
use Rattle.word.proofs.Sixteen.{sixteen_more}
use Rattle.word.proofs.decide_sixteen.Goals as goal

pub returns : goal.returns
returns c n low e =
    sixteen_more c.args.totals.now c.args.out.now c.decisions.result c.args.at n c.requires.same c.requires.room (c.decisions.ensures ∙ ap decisions_of c.load.ensures) low e
