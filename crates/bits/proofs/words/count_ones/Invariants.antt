-- `count_ones` meets its contract. The invariant: the ones before i are counted. Assumes nothing.
use Rattle.std.proofs.Common.{◌≡◌, ℕ, ◌≤◌, List, Bool, eqb, get_or}
use Rattle.laws.specs.Range.{count as counted}
use Rattle.bits.proofs.words.count_ones.Given as goal

abbrev pub is_one : List ℕ → ℕ → Bool
is_one bits j = eqb (get_or bits j 0) 1

abbrev pub invariant-loop-i : goal.invariant-loop-i
invariant-loop-i l = (l.count ≤ l.i) × (l.count ≡ counted (is_one l.bits) l.i)
