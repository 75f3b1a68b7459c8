-- `met_singly` meets its contract. Assumes nothing.
use Rattle.std.proofs.Common.{rules, not, refl}
use Rattle.convergence.specs.Rows.{odd_at}
use Rattle.convergence.proofs.Rows.{every_from_all}
use Rattle.convergence.proofs.row.Row.met_singly.Goals as goal

pub returns : goal.returns
returns c = every_from_all (λ t. not (odd_at c.args.self.now t)) c.args.self.now.z c.all.ensures.ran refl (λ x b q k. search rules)
