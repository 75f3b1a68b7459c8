-- `join` meets its contract. Assumes nothing.
use Rattle.growth.proofs.Filled.{paired_set}
use Rattle.growth.proofs.shared.Shared.join.Goals as goal

pub returns : goal.returns
returns c =
    paired_set c.args.self.now.near c.args.q c.args.r c.with.result c.with-2.result c.args.self.now.wide c.requires.0 c.requires.1 c.with.ensures c.with-2.ensures
