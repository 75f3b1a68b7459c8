-- `column` meets its contract: the information columns and the first parity column have three edges each, the others two. Assumes
-- nothing.
use Rattle.std.proofs.Common.{arith}
use Rattle.lists.specs.Sorting.{column_start}
use Rattle.sizes.proofs.Lent.{column_part}
use Rattle.sizes.proofs.lifted.Lifted.column.Goals as goal

pub returns-then-v-k : goal.returns-then-v-k
unfolding column_start
returns-then-v-k c = column_part c.args.self.now c.args.v _ _ c.requires (omega arith) (omega arith)

pub returns-else-v-k : goal.returns-else-v-k
unfolding column_start
returns-else-v-k c = column_part c.args.self.now c.args.v _ _ c.requires (omega arith) (omega arith)
