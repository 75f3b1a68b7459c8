-- `pop` meets its contract. Assumes nothing.
use Rattle.std.proofs.Common.{◌^◌, ◌<◌, arith}
use Rattle.growth.specs.Rows.{has}
use Rattle.growth.proofs.Words.{zero_bit, lowest_low, lowest_had, lowest_first, lowest_others, lowest_less}
use Rattle.growth.proofs.rows.RowSet.pop.Goals as goal

pub returns-then-self-eq0 : goal.returns-then-self-eq0
unfolding has
returns-then-self-eq0 c r = rw c.if-self-eq0.true (zero_bit r)

pub returns : goal.returns
unfolding has
returns c =
    let n = c.args.self.now.bits in
    let high : n < 2 ^ 64 = omega arith in
    let pos : 0 < n = omega arith in
    record {
      low = lowest_low n high pos;
      had = lowest_had n high pos;
      first = lowest_first n high pos;
      others = lowest_others n high pos;
      less = lowest_less n high pos;
    }
