-- `write_word` meets its contract. Assumes nothing.
use Rattle.std.proofs.Common.{arith, ap}
use Rattle.messages.specs.Memory.{bits_of}
use Rattle.sizes.specs.Sizes.{sizes_of}
use Rattle.ldpc.specs.Code.{work_of}
use Rattle.word.proofs.Word.{word_written}
use Rattle.word.proofs.write_word.Goals as goal

pub returns : goal.returns
unfolding sizes_of bits_of work_of
returns c =
    let E = c.info_end-end.ensures in
    let bits = c.sizes_of-bits.result.bits in
    let is = ap (λ s. s.bits) c.sizes_of-bits.ensures.value in
    word_written c.args.code.code bits c.info_end-end.result c.args.work.now is E.value E.after_information (omega (arith, E.before_parity, is)) (omega (arith, c.args.code.sized))
    (omega (arith, c.requires.room, is)) c.decide.ensures c.decide-2.ensures
