-- `add_bits` meets its contract. The invariant: the sums over the first columns stand. Assumes nothing.
use Rattle.std.proofs.Common.{◌≡◌, ◌*◌}
use Rattle.edge_sums.specs.Sums.{sums_of}
use Rattle.edge_sums.proofs.add_bits.Given as goal

abbrev pub invariant-loop-column : goal.invariant-loop-column
invariant-loop-column l = l.sums ≡ sums_of l.g.code.code l.word.bytes.now (3 * l.column)
