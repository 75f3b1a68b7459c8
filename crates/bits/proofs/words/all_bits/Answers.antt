-- `all_bits` meets its contract. Assumes nothing.
use Rattle.std.proofs.Common.{sym, ap, ◌∙◌, ◌&&◌, leb, get_or}
use Rattle.std.proofs.lemmas.List.Folds.{list_all_more}
use Rattle.bits.proofs.words.all_bits.Goals as goal

pub loop-i-preserved : goal.loop-i-preserved
loop-i-preserved c =
    let word = c.args.word.now in
    ap (λ x. x && leb (get_or word c.loop-i.i 0) 1) c.loop-i.invariant ∙ sym (list_all_more (λ b. leb b 1) word c.loop-i.i 0 c.loop-i-test.true)
