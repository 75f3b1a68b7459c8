-- `unmet_checks` meets its contract: the room holds every check. Assumes nothing.
use Rattle.std.proofs.Common.{arith}
use Rattle.coder.proofs.Unmet.{checks_fit}
use Rattle.coder.proofs.members.unmet_checks.Goals as goal

pub unmet_in-requires : goal.unmet_in-requires
unmet_in-requires c =
    let g = c.new-g.result in (omega arith, checks_fit g.code.code g.graph 32 g.of_code g.bounds.3 c.if-z-le32.true)

pub unmet_in-requires-else-z-le32 : goal.unmet_in-requires-else-z-le32
unmet_in-requires-else-z-le32 c =
    let g = c.new-g.result in (omega arith, checks_fit g.code.code g.graph 324 g.of_code g.bounds.3 g.code.sized.1)
