-- `bias_of` meets its contract. Assumes nothing.
use Rattle.std.proofs.Common.{arith}
use Rattle.shifts.proofs.Biased.{shift_on_lt}
use Rattle.shifts.proofs.placed.Placed.bias_of.Goals as goal

pub overflow_sub-result : goal.overflow_sub-result
overflow_sub-result c =
    let of = c.args.self.now in
    let down_lt = shift_on_lt of.rows.now of.shifts.now c.args.c c.args.this of.partly.low in
    omega (arith, down_lt, c.shift_on.ensures.0)

pub returns-clause-upper_bound : goal.returns-clause-upper_bound
returns-clause-upper_bound c =
    let of = c.args.self.now in
    let up_lt = shift_on_lt of.rows.now of.shifts.now c.args.c c.args.other of.partly.low in
    omega (arith, up_lt, c.shift_on-up.ensures.0)

pub returns-clause-there_value : goal.returns-clause-there_value
returns-clause-there_value c =
    let of = c.args.self.now in
    let down_lt = shift_on_lt of.rows.now of.shifts.now c.args.c c.args.this of.partly.low in
    omega (arith, down_lt, c.shift_on.ensures.0, c.shift_on-up.ensures.0)
