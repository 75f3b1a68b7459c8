-- The theorems on codes that docs/CLAIMS.md names, beside `chosen_rule` and `decided` of Made. Assumes nothing.
use Rattle.std.specs.Prelude.{Ok}
use mathlib.Core.Path.{◌≡◌, refl, ap, ap₂, ◌∙◌}
use mathlib.Core.Bool.{true}
use Prim.Native.Nat.{ℕ, ◌+◌, ◌*◌, ◌-◌, ◌≤◌, min}
use native.Mathlib.Omega.{arith}
use native.Mathlib.Nat.{mul-le-mul, mul_comm}
use borrow.Author.Tests.{eq-eqb}
use Rattle.matrix.specs.Edges.{edges}
use Rattle.ldpc.specs.declared.choice.Code.{Code}
use Rattle.ldpc.specs.Choice.{code_of, chosen, same_code, is_given, made}
use Rattle.ldpc.specs.Code.{code_graph, checks_of, work_of}
use Rattle.ldpc.proofs.Made.{chosen_rule, sized}

same_self : (c : Code) → same_code c c ≡ true
unfolding same_code
same_self c =
    rw (
      eq-eqb c.rate c.rate refl,
      eq-eqb c.n_tx c.n_tx refl,
      eq-eqb c.family c.family refl,
      eq-eqb c.z c.z refl,
      eq-eqb c.k c.k refl,
      eq-eqb c.shortened c.shortened refl,
    )

chosen_index : (rate n : ℕ) → chosen (min rate 5) n ≡ chosen rate n
unfolding chosen
chosen_index rate n = let m : min (min rate 5) 5 ≡ min rate 5 = omega arith in rw m

-- what Choice gives passes refusal 11's test
pub given_made : (rate n : ℕ) (c : Code) → chosen rate n ≡ Ok c → made c ≡ true
unfolding made code_of
given_made rate n c e =
    let is = (chosen_rule rate n c e).is in
    ap (λ t. is_given t c) (ap₂ chosen (ap (λ d. d.rate) is) (ap (λ d. d.n_tx) is) ∙ chosen_index rate n ∙ e) ∙ same_self c

-- the sizes of a code; everything fits its type with room to spare
pub record CodeSizes (c : Code) : Type 0 where
  pub info_least : 1 ≤ c.k
  pub info_most : c.k ≤ 16524
  pub shortened : c.z * (code_graph c).shape.n_b - c.n_tx ≡ c.shortened
  pub length_most : c.n_tx ≤ 19440
  pub lift_most : c.z ≤ 324
  pub checks_most : checks_of c ≤ 12636
  pub work_most : work_of c ≤ 150336

pub code_sizes : (c : Code) → made c ≡ true → CodeSizes c
unfolding checks_of work_of edges
code_sizes c m =
    let S = sized c m in
    let s = (code_graph c).shape in
    let e : 3 * s.k_b + 2 * s.m_b + 1 ≤ 172 = omega (arith, S.shape) in
    record {
      info_least = S.info;
      info_most = omega (arith, S.info_most, mul-le-mul S.shape.info_most S.lift_most);
      shortened = omega (arith, S.all, mul_comm c.z s.n_b);
      length_most = S.length_most;
      lift_most = S.lift_most;
      checks_most = mul-le-mul S.shape.rows_most S.lift_most;
      work_most = omega (arith, mul-le-mul S.shape.columns_most S.lift_most, mul-le-mul e S.lift_most);
    }
