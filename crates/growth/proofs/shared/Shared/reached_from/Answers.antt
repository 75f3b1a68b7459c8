-- `reached_from` meets its contract. The invariant: the rows of the frontier that are not left are gone over. Assumes nothing.
use Rattle.std.proofs.Common.{◌&&◌, Bool, ap, ◌∙◌}
use Rattle.growth.specs.Rows.{has}
use Rattle.growth.proofs.Frontier.{gathering_first, gathering_next, gathering_end}
use Rattle.growth.proofs.shared.Shared.reached_from.Goals as goal

pub loop-q-init : goal.loop-q-init
loop-q-init c = gathering_first c.empty-gathered.ensures

pub loop-q-preserved : goal.loop-q-preserved
loop-q-preserved c = gathering_next c.loop-q.invariant c.in-Some.ensures c.or-gathered.ensures

pub returns : goal.returns
returns c r = c.and.ensures r ∙ ap (λ (t : Bool). has c.args.unreached r && t) (gathering_end c.loop-q.invariant c.in_default.ensures r)
