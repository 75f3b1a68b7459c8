-- `search` meets its contract. The invariant: of the draws so far the first of least penalty is kept. It is said of all rows and
-- shifts whose penalties the biases give. Assumes nothing.
use Rattle.std.proofs.Common.{◌≡◌, ℕ, List}
use Rattle.shifts.specs.Shifts.{penalty}
use Rattle.shifts.specs.Biases.{bias_cost}
use Rattle.shifts.proofs.Searched.{Searching}
use Rattle.shifts.proofs.search.search.Given as goal

abbrev pub invariant-draws : goal.invariant-draws
invariant-draws l = (rows shifts : List ℕ) → ((x : ℕ) → bias_cost l.biases.biases l.biases.count x ≡ penalty rows shifts x) → Searching rows shifts l.from l.state l.best l.shift l.counter
