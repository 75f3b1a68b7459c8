-- `count_members` meets its contract. Assumes nothing.
use mathlib.Core.Path.{◌≡◌, refl, sym, ap, ◌∙◌}
use native.Mathlib.Omega.{arith}
use Rattle.laws.specs.Range.{count as counted}
use Rattle.laws.proofs.Collect.{count_more, count_skip}
use Rattle.check_lists.specs.Members.{is_member}
use Rattle.check_lists.proofs.Member.{place_told, none_told}
use Rattle.check_lists.proofs.count_members.Goals as goal
use Rattle.check_lists.proofs.count_members.Goals.{in-Some, in_default}

pub loop-b-init : goal.loop-b-init
unfolding counted
loop-b-init c = (omega arith, refl)

pub loop-b-preserved : goal.loop-b-preserved
loop-b-preserved c =
    let b = c.loop-b.b in
    let code = c.args.g.now.code.code in
    let check = c.args.check in
    elim c.match-m.branch [
      | in-Some w ↦ omega (arith, count_more (is_member code check) b (place_told code check b (sym w.in-Some.is ∙ c.member_at-m.ensures)).0)
      | in_default w ↦ omega (arith, count_skip (is_member code check) b (none_told code check b (sym w.in_default.is ∙ c.member_at-m.ensures)))
    ]

pub returns : goal.returns
returns c =
    let e : c.loop-b.b ≡ c.args.n = omega arith in
    c.loop-b.invariant.1 ∙ ap (counted _) e
