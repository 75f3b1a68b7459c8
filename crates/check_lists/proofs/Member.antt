-- What `member_at` tells: whether a base edge gives a member of the check, and its place, which lies in the transmitted word. Assumes nothing.
use Rattle.std.specs.Prelude.{Some, None}
use mathlib.Core.Path.{◌≡◌, refl, ap}
use mathlib.Core.Bool.{Bool, true, false, cond, and-eq-true_iff}
use Prim.Native.Nat.{ℕ, ◌*◌, ◌/◌, ◌%◌, ◌<◌}
use native.Mathlib.Omega.{arith}
use lib.Dec.{eqb}
use Rattle.matrix.specs.Edges.{edges, edge_row, bit_at}
use Rattle.matrix.proofs.Edges.{bit_lt}
use Rattle.matrix.proofs.Members.{place_lt}
use Rattle.ldpc.specs.declared.choice.Code.{Code}
use Rattle.ldpc.specs.Choice.{made}
use Rattle.ldpc.specs.Code.{code_graph, info_end}
use Rattle.ldpc.proofs.Made.{sized}
use Rattle.ldpc.proofs.CodeEdges.{code_simple}
use Rattle.check_lists.specs.Members.{is_member, member_place, member_at}

given : (t : Bool) (p q : ℕ) → Some p ≡ cond t (Some q) None → (t ≡ true) × (p ≡ q)
given true p q e = (refl, cc)
given false p q e = let z : ◌≡◌ {A = ℕ} 0 1 = cc in absurd (omega arith)

withheld : (t : Bool) (q : ℕ) → None ≡ cond t (Some q) None → t ≡ false
withheld true q e = let z : ◌≡◌ {A = ℕ} 0 1 = cc in absurd (omega arith)
withheld false q e = refl

module _ (c : Code) (check b : ℕ) where
  pub place_told : {p : ℕ} → Some p ≡ member_at c check b → (is_member c check b ≡ true) × (p ≡ member_place c check b)
  unfolding member_at
  place_told {p} e = given (is_member c check b) p (member_place c check b) e

  pub none_told : None ≡ member_at c check b → is_member c check b ≡ false
  unfolding member_at
  none_told e = withheld (is_member c check b) (member_place c check b) e

  pub member_lt : made c ≡ true → b < edges (code_graph c) → is_member c check b ≡ true → member_place c check b < c.n_tx
  unfolding is_member member_place info_end
  member_lt m h e =
      let S = sized c m in
      let g = code_graph c in
      let sent = ((and-eq-true_iff (eqb (edge_row g b) (check / c.z)) _).0 e).1 in
      let below = bit_lt g c.z b (check % c.z) S.lift g.shape.n_b ((code_simple c).column_lt b h) in
      let wide = ap (λ (n : ℕ). n * c.z) S.shape.columns in
      omega (arith, S.parity, place_lt c.k (info_end c) (bit_at g c.z b (check % c.z)) (g.shape.m_b * c.z) sent (omega arith))
