-- `write_encoding` meets its contract: the information, and the parity part behind it. Assumes nothing.
use Rattle.std.proofs.Common.{ap, ◌∙◌, ◌-◌, arith, length, drop, length-drop}
use lib.Seq.{length-take-le}
use Rattle.ldpc.specs.Code.{checks_of}
use Rattle.ldpc.proofs.Made.{sized}
use Rattle.stairs.specs.Stairs.{stairs}
use Rattle.coder.proofs.Encoded.{whole_is}
use Rattle.coder.proofs.encoding.write_encoding.Goals as goal

pub returns : goal.returns
returns c =
    let g = c.args.g.now in
    let code = g.code.code in
    let info = c.args.info.bytes.now in
    whole_is code g.code.made info c.args.out.now c.copy_info.new.out c.staircase.new.parity c.requires.0 c.requires.1 c.copy_info.ensures
    (c.staircase.ensures ∙ ap (λ x. stairs code info x.shape.m_b) g.of_code)

pub staircase-requires : goal.staircase-requires
unfolding checks_of
staircase-requires c =
    let g = c.args.g.now in
    let out = c.copy_info.new.out in
    let k = g.code.code.k in
    length-take-le (length out - k) (drop k out) (omega (arith, length-drop k out))
    ∙ omega (arith, c.copy_info.auto.out, c.requires, (sized g.code.code g.code.made).parity)
