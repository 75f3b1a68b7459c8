-- The codes that Choice gives: what a record that passes refusal 11's test is, and its sizes. Assumes nothing.
use Rattle.std.specs.Prelude.{Option, Some, None, Ok, Err}
use mathlib.Core.Path.{◌≡◌, refl, sym, ap, ◌∙◌, subst}
use mathlib.Core.Bool.{Bool, true, false, cond, ◌&&◌}
use mathlib.Core.List.{[], ◌∷◌}
use mathlib.Core.Logic.{◌⊎◌, inl, inr}
use Prim.Native.Nat.{ℕ, zero, suc, ◌+◌, ◌*◌, ◌/◌, ◌-◌, ◌<◌, ◌≤◌, min, max}
use native.Mathlib.Omega.{arith}
use native.Mathlib.Nat.{mul-le-mul, mul-le-mul_left, mul_comm, mul-add, add-mul}
use native.Mathlib.Decide.{dec_lt, ℕ_discrete}
use borrow.Author.Tests.{ltb-true, ltb-false, eqb-true}
use lib.Dec.{eqb}
use lib.ListN.{get_or}
use Rattle.refusals.specs.Outcome.{Outcome, refused}
use Rattle.tables.specs.declared.Shape.{Shape}
use Rattle.tables.specs.declared.BaseGraph.{BaseGraph}
use Rattle.tables.specs.Graph.{graph_number, base_columns, shape_of, graph_of, IsTableShape}
use Rattle.tables.proofs.Sizes.{Shaped, shaped}
use Rattle.matrix.specs.Edges.{edges}
use Rattle.ldpc.specs.declared.choice.Code.{Code}
use Rattle.ldpc.specs.Code.{code_graph, checks_of}
use Rattle.ldpc.specs.Choice.{lift_of, serves, code_of, given_else, family_code, tried_from, chosen, same_code, is_given, made}
use Rattle.ldpc.proofs.Lift.{lift_pos, lift_covers, lift_most}
use Rattle.ldpc.proofs.Chosen.{chosen_long, chosen_short}

and_left : (a b : Bool) → (a && b) ≡ true → a ≡ true
and_left true b e = refl
and_left false b e = e

and_right : (a b : Bool) → (a && b) ≡ true → b ≡ true
and_right true b e = e
and_right false b e = cc

-- the choice of a code as one statement: the family serves, and none before it does
pub record Chosen (rate n : ℕ) (c : Code) : Type 0 where
  pub is : c ≡ code_of (min rate 5) c.family n
  pub short : n ≤ 19440
  pub family_lt : c.family < 3
  pub serving : serves (shape_of (graph_number (min rate 5) c.family)) n ≡ true
  pub earlier : (f : ℕ) → f < c.family → serves (shape_of (graph_number (min rate 5) f)) n ≡ false

pub record Given (t : Outcome Code) : Type 0 where
  pub code : Code
  pub gives : t ≡ Ok code

module _ (rate n : ℕ) where
  S : ℕ → Bool
  S f = serves (shape_of (graph_number (min rate 5) f)) n

  none : (f : ℕ) → f < 0 → S f ≡ false
  none f h = absurd (omega arith)

  first : S 0 ≡ false → (f : ℕ) → f < 1 → S f ≡ false
  first p zero h = p
  first p (suc f) h = absurd (omega arith)

  both : S 0 ≡ false → S 1 ≡ false → (f : ℕ) → f < 2 → S f ≡ false
  both p q zero h = p
  both p q (suc zero) h = q
  both p q (suc (suc f)) h = absurd (omega arith)

  taken : (f : ℕ) → n ≤ 19440 → f < 3 → S f ≡ true → ((f' : ℕ) → f' < f → S f' ≡ false) → Chosen rate n (code_of (min rate 5) f n)
  unfolding code_of S
  taken f h l p k = record { is = refl; short = h; family_lt = l; serving = p; earlier = k }

  -- what the three families give in turn, where a, b and d say whether each serves
  abbrev tried_by : Outcome Code → Bool → Bool → Bool → Outcome Code
  tried_by none a b d =
      let code : Bool → ℕ → Option Code = λ s f. cond s (Some (code_of (min rate 5) f n)) None in
      given_else (given_else (given_else none (code d 2)) (code b 1)) (code a 0)

  from_tried : n ≤ 19440 → (c : Code) (a b d : Bool) → S 0 ≡ a → S 1 ≡ b → S 2 ≡ d
      → tried_by (refused 1 1 n) a b d
      ≡ Ok c → Chosen rate n c
  from_tried h c true b d p q r e =
      let k : code_of (min rate 5) 0 n ≡ c = cc in subst (Chosen rate n) k (taken 0 h (omega arith) p none)
  from_tried h c false true d p q r e =
      let k : code_of (min rate 5) 1 n ≡ c = cc in subst (Chosen rate n) k (taken 1 h (omega arith) q (first p))
  from_tried h c false false true p q r e =
      let k : code_of (min rate 5) 2 n ≡ c = cc in subst (Chosen rate n) k (taken 2 h (omega arith) r (both p q))
  from_tried h c false false false p q r e = let k : ◌≡◌ {A = ℕ} 0 1 = cc in absurd (omega arith)

  -- what Choice gives is chosen by the rule
  pub chosen_rule : (c : Code) → chosen rate n ≡ Ok c → Chosen rate n c
  unfolding S tried_from family_code
  chosen_rule c e = by (dec_lt 19440 n)
    where
      by : Dec (19440 < n) → Chosen rate n c
      by (yes h) = let k : refused 2 n 19440 ≡ Ok c = sym (chosen_long rate n h) ∙ e in let m : ◌≡◌ {A = ℕ} 0 1 = cc in absurd (omega arith)
      by (no h) = from_tried (omega arith) c (S 0) (S 1) (S 2) refl refl refl (sym (chosen_short rate n (omega arith)) ∙ e)

  decided_by : (a b d : Bool) → S 0 ≡ a → S 1 ≡ b → S 2 ≡ d
      → Given (tried_by (refused 1 1 n) a b d)
      ⊎ ((f : ℕ) → f < 3 → S f ≡ false)
  decided_by true b d p q r = inl (record { code = code_of (min rate 5) 0 n; gives = refl })
  decided_by false true d p q r = inl (record { code = code_of (min rate 5) 1 n; gives = refl })
  decided_by false false true p q r = inl (record { code = code_of (min rate 5) 2 n; gives = refl })
  decided_by false false false p q r = inr (λ f h. three f h)
    where
      three : (f : ℕ) → f < 3 → S f ≡ false
      three zero h = p
      three (suc zero) h = q
      three (suc (suc zero)) h = r
      three (suc (suc (suc f))) h = absurd (omega arith)

  -- a code is given, or no family serves: a family that serves is never passed over
  pub decided : n ≤ 19440 → Given (chosen rate n) ⊎ ((f : ℕ) → f < 3 → serves (shape_of (graph_number (min rate 5) f)) n ≡ false)
  unfolding S tried_from family_code
  decided h = rw (chosen_short rate n h) (decided_by (S 0) (S 1) (S 2) refl refl refl)

-- two records that the test holds for the same are the same
same : (a b : Code) → same_code a b ≡ true → a ≡ b
unfolding same_code
same a b e =
    let t1 = eqb a.rate b.rate in
    let t2 = eqb a.n_tx b.n_tx in
    let t3 = eqb a.family b.family in
    let t4 = eqb a.z b.z in
    let t5 = eqb a.k b.k in
    let t6 = eqb a.shortened b.shortened in
    let e5 = and_left (t1 && t2 && t3 && t4 && t5) t6 e in
    let e4 = and_left (t1 && t2 && t3 && t4) t5 e5 in
    let e3 = and_left (t1 && t2 && t3) t4 e4 in
    let e2 = and_left (t1 && t2) t3 e3 in
    λ i. record {
      rate = eqb-true a.rate b.rate (and_left t1 t2 e2) i;
      n_tx = eqb-true a.n_tx b.n_tx (and_right t1 t2 e2) i;
      family = eqb-true a.family b.family (and_right (t1 && t2) t3 e3) i;
      z = eqb-true a.z b.z (and_right (t1 && t2 && t3) t4 e4) i;
      k = eqb-true a.k b.k (and_right (t1 && t2 && t3 && t4) t5 e5) i;
      shortened = eqb-true a.shortened b.shortened (and_right (t1 && t2 && t3 && t4 && t5) t6 e) i;
    }

pub made_chosen : (c : Code) → made c ≡ true → chosen c.rate c.n_tx ≡ Ok c
unfolding made
made_chosen c e = by (chosen c.rate c.n_tx) e
  where
    by : (t : Outcome Code) → is_given t c ≡ true → t ≡ Ok c
    by (Ok d) e = ap Ok (same d c e)
    by (Err x) e = cc

-- the sizes of a code that is given, s being its graph's shape
pub record Sized (c : Code) (s : Shape) : Type 0 where
  pub shape : Shaped s
  pub rate_lt : c.rate < 6
  pub family_lt : c.family < 3
  pub length_most : c.n_tx ≤ 19440
  pub lift : 1 ≤ c.z
  pub lift_most : c.z ≤ 324
  pub info : 1 ≤ c.k
  pub parity : c.k + s.m_b * c.z ≡ c.n_tx
  pub all : c.n_tx + c.shortened ≡ s.n_b * c.z
  pub info_most : c.k ≤ s.k_b * c.z

large_columns : (rate : ℕ) → (shape_of (graph_number rate 0)).n_b ≡ 60
unfolding shape_of graph_number base_columns
large_columns rate = let e : (6 * min 0 2 + min rate 5) / 6 ≡ 0 = omega arith in ap (λ q. get_or (60 ∷ 20 ∷ 10 ∷ []) q 0) e

-- where the large family does not serve, n is at most 78
passed_large : (rate n : ℕ) → serves (shape_of (graph_number rate 0)) n ≡ false → n ≤ 78
unfolding serves
passed_large rate n e =
    let s = shape_of (graph_number rate 0) in
    let h = ltb-false (lift_of s n * s.m_b) n e in
    let k = mul-le-mul_left (lift_of s n) (shaped rate 0).rows_most in
    let m : lift_of s n * 60 < max 1 n + 60 = subst (λ x. lift_of s n * x < max 1 n + x) (large_columns rate) (lift_most s n) in
    omega arith

module _ (c : Code) (m : made c ≡ true) where
  rule : Chosen c.rate c.n_tx c
  rule = chosen_rule c.rate c.n_tx c (made_chosen c m)

  rate_is : c.rate ≡ min c.rate 5
  unfolding code_of
  rate_is = ap (λ d. d.rate) rule.is

  s : Shape
  s = (code_graph c).shape

  z_is : c.z ≡ lift_of s c.n_tx
  unfolding code_of s code_graph graph_of
  z_is = rw (← rate_is) at (ap (λ d. d.z) rule.is)

  k_is : c.k ≡ c.n_tx - c.z * s.m_b
  unfolding code_of s code_graph graph_of
  k_is = rw z_is (rw (← rate_is) at (ap (λ d. d.k) rule.is))

  shortened_is : c.shortened ≡ c.z * s.n_b - c.n_tx
  unfolding code_of s code_graph graph_of
  shortened_is = rw z_is (rw (← rate_is) at (ap (λ d. d.shortened) rule.is))

  serves_is : c.z * s.m_b < c.n_tx
  unfolding serves s code_graph graph_of
  serves_is =
      ltb-true (c.z * s.m_b) c.n_tx (rw z_is (rw (← rate_is) at rule.serving))

  shape_is : Shaped s
  unfolding s code_graph graph_of
  shape_is = shaped c.rate c.family

  covers : c.n_tx ≤ c.z * s.n_b
  covers = subst (λ z. c.n_tx ≤ z * s.n_b) (sym z_is) (lift_covers s c.n_tx (omega (arith, shape_is)))

  small : c.z * s.n_b < max 1 c.n_tx + s.n_b
  small = subst (λ z. z * s.n_b < max 1 c.n_tx + s.n_b) (sym z_is) (lift_most s c.n_tx)

  lift_small : Dec (c.family ≡ 0) → c.z ≤ 324
  unfolding s code_graph graph_of
  lift_small (yes e) =
      let k : s.n_b ≡ 60 = ap (λ f. (shape_of (graph_number c.rate f)).n_b) e ∙ large_columns c.rate in
      let h : c.z * 60 < max 1 c.n_tx + 60 = rw k at small in
      omega (arith, rule.short)
  lift_small (no e) =
      let k = passed_large c.rate c.n_tx (rw (← rate_is) at (rule.earlier 0 (omega arith))) in
      let four : 4 ≤ s.n_b = omega (arith, shape_is) in
      let h = mul-le-mul_left c.z four in
      omega (arith, small, shape_is)

  pub sized : Sized c (code_graph c).shape
  unfolding s
  sized =
      let d = mul-add c.z s.k_b s.m_b in
      let e : c.z * (s.k_b + s.m_b) ≡ c.z * s.n_b = ap (λ x. c.z * x) shape_is.columns in
      record {
        shape = shape_is;
        rate_lt = omega (arith, rate_is);
        family_lt = rule.family_lt;
        length_most = rule.short;
        lift = rw z_is (lift_pos s c.n_tx);
        lift_most = lift_small (ℕ_discrete c.family 0);
        info = omega (arith, k_is, serves_is);
        parity = rw (mul_comm s.m_b c.z) (omega (arith, k_is, serves_is));
        all = rw (mul_comm s.n_b c.z) (omega (arith, shortened_is, covers));
        info_most = rw (mul_comm s.k_b c.z) (omega (arith, k_is, serves_is, covers, d, e));
      }

pub graph_bounds : (rate family : ℕ) → IsTableShape (graph_of (graph_number rate family)).shape
unfolding graph_of
graph_bounds rate family = let S = shaped rate family in (S.info, S.info_most, S.rows, S.rows_most, S.columns, S.columns_most)

-- what a shape that was asked for a code tells: the counts that the calls compute from it
pub record Known (c : Code) (s : Shape) : Type 0 where
  pub shape : Shaped s
  pub checks : s.m_b * c.z ≡ checks_of c
  pub checks_most : s.m_b * c.z ≤ 12636
  pub all_edges : 3 * s.k_b + 2 * s.m_b + 1 ≡ edges (code_graph c)

pub known : (c : Code) → made c ≡ true → (s : Shape) → s ≡ shape_of (graph_number c.rate c.family) → Known c s
unfolding code_graph graph_of checks_of edges
known c m s e =
    let S = sized c m in
    subst (Known c) (sym e)
    (record { shape = S.shape; checks = refl; checks_most = mul-le-mul S.shape.rows_most S.lift_most; all_edges = refl })

-- the bounds that a valid code carries
pub bounds : (c : Code) → made c ≡ true → (1 ≤ c.z) × (c.z ≤ 324) × (1 ≤ c.k) × (c.k ≤ c.n_tx) × (c.n_tx ≤ 19440)
bounds c m = let S = sized c m in (S.lift, S.lift_most, S.info, omega (arith, S.parity), S.length_most)

-- where the parity columns begin: not before the information ends, and what is sent of parity ends the word
pub info_most : (c : Code) → made c ≡ true → c.k ≤ (code_graph c).shape.k_b * c.z
info_most c m = (sized c m).info_most

pub parity_is : (c : Code) → made c ≡ true → (code_graph c).shape.k_b * c.z + (c.n_tx - c.k) ≡ (code_graph c).shape.n_b * c.z
parity_is c m =
    let S = sized c m in
    let s = (code_graph c).shape in
    omega (arith, S.parity, add-mul s.k_b s.m_b c.z, ap (λ (x : ℕ). x * c.z) S.shape.columns)

-- the information and the parity columns of a code's graph fill the block, and the information fits its columns
pub parity_fills : (c : Code) → made c ≡ true → (g : BaseGraph) → g ≡ code_graph c → c.k + g.shape.m_b * c.z ≡ c.n_tx
parity_fills c m g e = rw e (sized c m).parity

pub info_fits : (c : Code) → made c ≡ true → (g : BaseGraph) → g ≡ code_graph c → c.k ≤ g.shape.k_b * c.z
info_fits c m g e = rw e (sized c m).info_most
