-- `write_members` meets its contract. The invariant: the members of the edges before b stand in front of what was there. Assumes nothing.
use Rattle.std.specs.Prelude.{Option, Some}
use mathlib.Core.Path.{◌≡◌, refl, sym, ap, ◌∙◌, subst}
use mathlib.Core.Bool.{true}
use mathlib.Core.List.{List}
use Prim.Native.Nat.{ℕ, ◌<◌, ◌≤◌}
use native.Mathlib.Omega.{arith}
use lib.ListN.{length}
use Rattle.laws.specs.Range.{count as counted, collect}
use Rattle.laws.proofs.Collect.{count_more, count_skip, count_lt, length_front, front_skip}
use Rattle.tables.specs.declared.BaseGraph.{BaseGraph}
use Rattle.matrix.specs.Edges.{edges}
use Rattle.ldpc.specs.declared.choice.Code.{Code}
use Rattle.ldpc.specs.Choice.{made}
use Rattle.ldpc.specs.Code.{code_graph}
use Rattle.ldpc.proofs.Made.{sized}
use Rattle.check_lists.specs.Members.{is_member, member_place, member_at}
use Rattle.check_lists.proofs.Member.{place_told, none_told, member_lt}
use Rattle.check_lists.proofs.write_members.Goals as goal
use Rattle.check_lists.proofs.write_members.Goals.{in-Some, in_default}
use Rattle.check_lists.proofs.write_members.Invariants.{front, Found, stored}

-- a place that is told is a member's
found_at : (code : Code) (g : BaseGraph) (check b n count : ℕ) (out₀ out : List ℕ) → made code ≡ true → g ≡ code_graph code → b < n → n ≤ edges g
    → counted (is_member code check) n ≤ length out₀ → count ≡ counted (is_member code check) b → out ≡ front code check b out₀
    → (m : Option ℕ) → m ≡ member_at code check b → (p : ℕ) → m ≡ Some p → Found code check b p count out₀ out
found_at code g check b n count out₀ out valid is h few room is-count is-out m told p e =
    let t = place_told code check b (sym e ∙ told) in
    let more = count_lt (is_member code check) n b h t.0 in
    let long = length_front (is_member code check) (member_place code check) out₀ b (omega (arith, more, room)) in
    let all : n ≤ edges (code_graph code) = subst (λ x. n ≤ edges x) is few in
    let l = member_lt code check b valid (omega (arith, all, h)) t.0 in
    record {
      has = t.0;
      place = t.1;
      low = omega (arith, t.1, l, (sized code valid).length_most);
      room = omega (arith, more, room, is-count);
      inside = omega (arith, more, room, is-count, ap length is-out, long);
    }

pub loop-b-init : goal.loop-b-init
unfolding counted collect
loop-b-init c = (refl, refl)

pub overflow_cast-out : goal.overflow_cast-out
overflow_cast-out c =
    let found = found_at c.args.g.now.code.code c.args.g.now.graph c.args.check c.loop-b.b c.args.n c.loop-b.count c.args.out.now c.loop-b.out c.args.g.now.code.made c.args.g.now.of_code c.loop-b-test.true c.requires.edges c.requires.room c.loop-b.invariant.0 c.loop-b.invariant.1 c.member_at-m.result c.member_at-m.ensures in
    omega (arith, (found _ c.in-Some.is).low)

pub offset_bounds-out-count : goal.offset_bounds-out-count
offset_bounds-out-count c =
    let found = found_at c.args.g.now.code.code c.args.g.now.graph c.args.check c.loop-b.b c.args.n c.loop-b.count c.args.out.now c.loop-b.out c.args.g.now.code.made c.args.g.now.of_code c.loop-b-test.true c.requires.edges c.requires.room c.loop-b.invariant.0 c.loop-b.invariant.1 c.member_at-m.result c.member_at-m.ensures in
    omega (arith, (found _ c.in-Some.is).room)

pub bounds-out-count : goal.bounds-out-count
bounds-out-count c =
    let found = found_at c.args.g.now.code.code c.args.g.now.graph c.args.check c.loop-b.b c.args.n c.loop-b.count c.args.out.now c.loop-b.out c.args.g.now.code.made c.args.g.now.of_code c.loop-b-test.true c.requires.edges c.requires.room c.loop-b.invariant.0 c.loop-b.invariant.1 c.member_at-m.result c.member_at-m.ensures in
    (found _ c.in-Some.is).inside

pub overflow_add-count : goal.overflow_add-count
overflow_add-count c =
    let found = found_at c.args.g.now.code.code c.args.g.now.graph c.args.check c.loop-b.b c.args.n c.loop-b.count c.args.out.now c.loop-b.out c.args.g.now.code.made c.args.g.now.of_code c.loop-b-test.true c.requires.edges c.requires.room c.loop-b.invariant.0 c.loop-b.invariant.1 c.member_at-m.result c.member_at-m.ensures in
    omega (arith, (found _ c.in-Some.is).room)

pub loop-b-preserved : goal.loop-b-preserved
loop-b-preserved c =
    let found = found_at c.args.g.now.code.code c.args.g.now.graph c.args.check c.loop-b.b c.args.n c.loop-b.count c.args.out.now c.loop-b.out c.args.g.now.code.made c.args.g.now.of_code c.loop-b-test.true c.requires.edges c.requires.room c.loop-b.invariant.0 c.loop-b.invariant.1 c.member_at-m.result c.member_at-m.ensures in
    let code = c.args.g.now.code.code in
    let check = c.args.check in
    let b = c.loop-b.b in
    let I = c.loop-b.invariant in
    elim c.match-m.branch [
      | in-Some w ↦ let F = found _ w.in-Some.is in
          (omega (arith, w.count-is, I.0, count_more (is_member code check) b F.has), w.out-is ∙ stored F I.0 I.1)
      | in_default w ↦ let e = none_told code check b (sym w.in_default.is ∙ c.member_at-m.ensures) in
          (omega (arith, w.count-is, I.0, count_skip (is_member code check) b e), w.out-is ∙ I.1 ∙ front_skip _ _ _ b e)
    ]

pub returns : goal.returns
returns c =
    let e : c.loop-b.b ≡ c.args.n = omega arith in
    c.loop-b.invariant.1 ∙ ap (λ (b : ℕ). front c.args.g.now.code.code c.args.check b c.args.out.now) e

pub shape_of-out : goal.shape_of-out
shape_of-out c =
    ap length (returns c) ∙ length_front _ _ c.args.out.now c.args.n c.requires.room
