-- `go_on` meets its contract: a decode that has converged stays as it is. Assumes nothing.
use mathlib.Core.Path.{sym, ap}
use Rattle.runs.proofs.Steps.{stays}
use Rattle.runs.specs.Runs.{alpha, reach_of, reached_in}
use Rattle.runs.proofs.go_on.Goals as goal

pub returns-then-from-clause-value : goal.returns-then-from-clause-value
unfolding reach_of reached_in
returns-then-from-clause-value c = sym (ap reach_of (stays alpha c.args.code.code c.args.from c.args.g c.args.work.now c.if-from.true))

pub returns-then-from-clause-work_after : goal.returns-then-from-clause-work_after
unfolding reached_in
returns-then-from-clause-work_after c = sym (ap (λ p. p.memory) (stays alpha c.args.code.code c.args.from c.args.g c.args.work.now c.if-from.true))
