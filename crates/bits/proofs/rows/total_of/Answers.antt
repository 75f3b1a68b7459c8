-- `total_of` meets its contract. Assumes nothing.
use Rattle.std.proofs.Common.{refl, ◌∙◌, ◌+◌, ◌*◌, ◌-◌, arith}
use Rattle.laws.specs.Range.{xor_sum}
use Rattle.bits.proofs.Row.{row_added}
use Rattle.bits.proofs.rows.total_of.Goals as goal

pub loop-i-init : goal.loop-i-init
unfolding xor_sum
loop-i-init c = (refl, c.requires.2)

pub loop-i-preserved : goal.loop-i-preserved
loop-i-preserved c =
    let z = c.args.z in
    let i = c.loop-i.i in (
      c.add.auto.sums ∙ c.loop-i.invariant.0,
      row_added c.args.parity.bytes.now z (i * z + z - i * z) i c.args.m_b c.loop-i.total c.add.new.sums c.args.parity.each c.loop-i-test.true
          c.requires.0 (omega arith) c.loop-i.invariant.1 c.add.ensures,
    )
