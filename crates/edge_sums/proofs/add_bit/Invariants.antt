-- `add_bit` meets its contract. The invariant: the sums over the first b edges stand. Assumes nothing.
use Rattle.std.proofs.Common.{◌≡◌, ◌*◌, ◌≤◌}
use Rattle.edge_sums.specs.Sums.{sums_of}
use Rattle.edge_sums.proofs.add_bit.Given as goal

abbrev pub invariant-loop-b : goal.invariant-loop-b
invariant-loop-b l = (3 * l.column ≤ l.b) × (l.sums ≡ sums_of l.g.code.code l.word.bytes.now l.b)
