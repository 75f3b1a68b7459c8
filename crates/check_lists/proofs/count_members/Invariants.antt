-- `count_members` meets its contract. Assumes nothing.
use Rattle.std.proofs.Common.{◌≡◌, ◌≤◌}
use Rattle.laws.specs.Range.{count as counted}
use Rattle.check_lists.specs.Members.{is_member}
use Rattle.check_lists.proofs.count_members.Given as goal

abbrev pub invariant-loop-b : goal.invariant-loop-b
invariant-loop-b l = (l.count ≤ l.b) × (l.count ≡ counted (is_member l.g.code.code l.check) l.b)
