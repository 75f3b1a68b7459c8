-- `read` meets its contract. Assumes nothing.
use mathlib.Core.Path.{sym, subst}
use Rattle.bits.specs.Sums.{Bits}
use Rattle.word.proofs.Word.{word_bits}
use Rattle.word.proofs.read.Goals as goal

pub is_clean-requires : goal.is_clean-requires
is_clean-requires c = subst Bits (sym c.write_word.ensures) (word_bits c.args.code.code c.args.work.now)
