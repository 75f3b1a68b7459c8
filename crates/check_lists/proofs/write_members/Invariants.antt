-- `write_members` meets its contract. The invariant: the members of the edges before b stand in front of what was there. Assumes nothing.
use mathlib.Core.Path.{◌≡◌}
use mathlib.Core.List.{List, ◌++◌}
use mathlib.Core.Bool.{true}
use Prim.Native.Nat.{ℕ, ◌+◌, ◌<◌}
use native.Mathlib.Omega.{arith}
use lib.ListN.{length, drop, set}
use Rattle.laws.specs.Range.{count as counted, collect}
use Rattle.laws.proofs.Collect.{front_more}
use Rattle.ldpc.specs.declared.choice.Code.{Code}
use Rattle.check_lists.specs.Members.{is_member, member_place}
use Rattle.check_lists.proofs.write_members.Given as goal

-- the members of the edges before b, in front of what was there
abbrev pub front : Code → ℕ → ℕ → List ℕ → List ℕ
front c check b out = collect (is_member c check) (member_place c check) b ++ drop (counted (is_member c check) b) out

-- a member that is found, its place being p
pub record Found (c : Code) (check b p count : ℕ) (out₀ out : List ℕ) : Type 0 where
  pub has : is_member c check b ≡ true
  pub place : p ≡ member_place c check b
  pub low : p < 19440
  pub room : count < length out₀
  pub inside : count < length out

pub stored : {c : Code} {check b p count : ℕ} {out₀ out : List ℕ} → Found c check b p count out₀ out → count ≡ counted (is_member c check) b
    → out ≡ front c check b out₀ → set out count p ≡ front c check (b + 1) out₀
stored {c} {check} {b} {out₀ = out₀} F k e =
    rw (e, k, F.place) (front_more (is_member c check) (member_place c check) out₀ b F.has (omega (arith, F.room)))

abbrev pub invariant-loop-b : goal.invariant-loop-b
invariant-loop-b l =
    (l.count ≡ counted (is_member l.g.code.code l.check) l.b) × (l.out ≡ front l.g.code.code l.check l.b l.initial.out)
