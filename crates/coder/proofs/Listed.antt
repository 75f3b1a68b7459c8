-- The members that are counted and written are a check's. Assumes nothing.
use mathlib.Core.Path.{◌≡◌, sym, ap, ◌∙◌}
use Prim.Native.Nat.{ℕ}
use lib.ListN.{length}
use Rattle.laws.specs.Range.{count, collect}
use Rattle.laws.proofs.Collect.{length_collect}
use Rattle.matrix.specs.Edges.{edges}
use Rattle.matrix.specs.Checks.{members_of}
use Rattle.ldpc.specs.declared.choice.Code.{Code}
use Rattle.ldpc.specs.Code.{code_graph}
use Rattle.check_lists.specs.Members.{is_member, member_place}
use Rattle.coder.specs.Calls.{code_members}

pub members_are : (c : Code) (check e : ℕ) → e ≡ edges (code_graph c) → collect (is_member c check) (member_place c check) e ≡ code_members c check
unfolding code_members members_of is_member member_place
members_are c check e whole = ap (collect (is_member c check) (member_place c check)) whole

pub count_is : (c : Code) (check e : ℕ) → e ≡ edges (code_graph c) → count (is_member c check) e ≡ length (code_members c check)
count_is c check e whole = sym (length_collect (is_member c check) (member_place c check) e) ∙ ap length (members_are c check e whole)
