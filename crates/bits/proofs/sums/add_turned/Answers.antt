-- `add_turned` meets its contract: the two runs. Assumes nothing.
use Rattle.bits.proofs.Turned.{turned}
use Rattle.bits.proofs.sums.add_turned.Goals as goal

pub returns : goal.returns
returns c =
    turned c.args.s c.min.result c.args.sums.now c.args.column.now _ _ c.add.new.sums c.add-2.new.sums _ _ c.requires.fits.0 c.requires.bits
    c.min.ensures c.split_at_mut-low.ensures.front c.split_at_mut-low.ensures.back c.split_at.ensures.front c.split_at.ensures.back
    c.add.auto.sums c.add.ensures c.add-2.ensures
