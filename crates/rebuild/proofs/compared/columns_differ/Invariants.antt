-- `columns_differ` meets its contract. The invariant: the differing ones of the first c columns are counted. Assumes nothing.
use Rattle.std.proofs.Common.{◌≡◌, ◌≤◌}
use Rattle.rebuild.specs.Compared.{columns_differ}
use Rattle.rebuild.proofs.compared.columns_differ.Given as goal

abbrev pub invariant-loop-c : goal.invariant-loop-c
invariant-loop-c l =
    (l.count ≤ l.c) × (l.count ≡ columns_differ l.built.rows.now l.built.shifts.now l.table.rows.now l.table.shifts.now l.c)
