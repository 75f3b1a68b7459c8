-- `first_not_bit` meets its contract. Assumes nothing.
use Rattle.std.proofs.Common.{sym, ◌∙◌}
use Rattle.bits.proofs.Above.{all_are_bits, none_above}
use Rattle.bits.proofs.words.first_not_bit.Goals as goal

pub returns-then-all_bits-clause-place : goal.returns-then-all_bits-clause-place
returns-then-all_bits-clause-place c = sym (none_above c.args.word.now (all_are_bits c.args.word.now (sym c.all_bits.ensures ∙ c.if-all_bits.true)))
