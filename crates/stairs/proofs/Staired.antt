-- The parity part as it is written: with no row, with one row more, and whole. Assumes nothing.
use mathlib.Core.Path.{◌≡◌, refl, sym, ap, ap₂, ◌∙◌, subst}
use mathlib.Core.Bool.{Bool, true, false, cond, xor, ◌&&◌}
use mathlib.Core.List.{List}
use Prim.Native.Nat.{ℕ, ◌+◌, ◌*◌, ◌/◌, ◌%◌, ◌-◌, ◌<◌, ◌≤◌}
use native.Mathlib.Omega.{arith}
use native.Mathlib.Nat.{mod-lt, zero-add}
use native.Mathlib.Numerals.{add-one}
use native.Mathlib.Decide.{dec_lt, ℕ_discrete}
use borrow.Author.Tests.{lt-ltb, le-ltb}
use lib.Dec.{ltb, eqb}
use borrow.Rule.Slice.PartMut.{put_mid}
use lib.ListN.{length, get_or, take, drop, length-drop, replicate, get_or-replicate}
use lib.Seq.{ext_get_or, length-take-le, get_or-take, get_or-drop}
use Rattle.laws.specs.Range.{xor_sum}
use Rattle.laws.specs.Written.{Written, rewritten}
use Rattle.laws.proofs.Parity.{xor_sum_ext}
use Rattle.laws.proofs.Written.{length_tabulate, get_d_tabulate, at_rewritten, put_written}
use Rattle.laws.proofs.Slots.{slot_lt, slot_div, slot_mod, slot_is, row_le, on_then_back}
use Rattle.matrix.specs.Checks.{row_sum, lifted}
use Rattle.matrix.proofs.Words.{of_bit_lem}
use Rattle.matrix.specs.Encoding.{info_sum, total_sum, first_parity, parity_bit, bit}
use Rattle.bits.specs.Sums.{differing}
use Rattle.bits.specs.Rows.{Holds, Stepped}
use Rattle.bits.proofs.Bytes.{differing_bits}
use Rattle.ldpc.specs.declared.choice.Code.{Code}
use Rattle.ldpc.specs.Code.{code_graph, info_end, checks_of}
use Rattle.edge_sums.specs.Sums.{sums_of}
use Rattle.stairs.specs.Stairs.{sum_bit, total_bit, stair_bit, stairs}
use Rattle.edge_sums.proofs.Summed.{length_sums, at_sums}

cond_bit : (b x : Bool) → cond b (bit x) 0 ≡ bit (b && x)
cond_bit true x = refl
cond_bit false x = refl

module _ (c : Code) (info : List ℕ) where
  pub length_stairs : (i : ℕ) → length (stairs c info i) ≡ checks_of c
  unfolding stairs
  length_stairs i = length_tabulate _ (checks_of c)

  at_stairs : (i s : ℕ) → s < checks_of c
      → get_or (stairs c info i) s 0 ≡ bit (cond (ltb (s / c.z) i) (stair_bit c info (s / c.z) (s % c.z)) (sum_bit c info (s / c.z) (s % c.z)))
  unfolding stairs
  at_stairs i s h = get_d_tabulate 0 _ (checks_of c) s h

  pub stair_at : (i s : ℕ) → s < checks_of c → s / c.z < i → get_or (stairs c info i) s 0 ≡ bit (stair_bit c info (s / c.z) (s % c.z))
  stair_at i s h k = at_stairs i s h ∙ rw (lt-ltb (s / c.z) i k)

  pub sum_at : (i s : ℕ) → s < checks_of c → i ≤ s / c.z → get_or (stairs c info i) s 0 ≡ bit (sum_bit c info (s / c.z) (s % c.z))
  sum_at i s h k = at_stairs i s h ∙ rw (le-ltb (s / c.z) i k)

  -- before a row is put in, the sums stand
  pub no_stairs : sums_of c info (3 * (code_graph c).shape.k_b) ≡ stairs c info 0
  unfolding sum_bit info_sum
  no_stairs =
      ext_get_or 0 (sums_of c info (3 * (code_graph c).shape.k_b)) (stairs c info 0) (length_sums c info (3 * (code_graph c).shape.k_b) ∙ sym (length_stairs 0))
      (λ s h. let k : s < checks_of c = omega (arith, length_sums c info (3 * (code_graph c).shape.k_b)) in
      at_sums c info (3 * (code_graph c).shape.k_b) s k ∙ sym (sum_at 0 s k (omega arith)))

  -- the next parity bit
  stair_more : (i t : ℕ) → t < c.z
      → stair_bit c info (i + 1) t ≡ xor (xor (sum_bit c info i t) (stair_bit c info i t)) (eqb i ((code_graph c).shape.m_b / 2) && total_bit c info t)
  unfolding stair_bit parity_bit sum_bit total_bit first_parity
  stair_more i t h = rw (add-one, on_then_back t c.z h)

-- what a step does to a row that is lent and put back
pub row_stepped : (at z n : ℕ) (middle : Bool) (parity next total row next' : List ℕ) → n ≡ z → at + z ≤ length parity
    → length row ≡ length (take n (drop at parity)) → Stepped middle (take n (drop at parity)) next total row next'
    → Written 0 at (λ t. t < z) (λ t. get_or next t 0) parity (put_mid at n parity row)
    × ((t : ℕ) → t < z → get_or next' t 0 ≡ differing (differing (get_or parity (at + t) 0) (get_or next t 0)) (cond middle (get_or total t 0) 0))
row_stepped at z n middle parity next total row next' e fits long P =
    let inside : length (take n (drop at parity)) ≡ z = length-take-le n (drop at parity) (omega (arith, length-drop at parity)) ∙ e in (
      put_written 0 at z n parity row (λ t. get_or next t 0) e fits (long ∙ inside) (λ t h. P.put t (omega (arith, inside))),
      λ t h.
          P.made t (omega (arith, inside))
          ∙ ap (λ (x : ℕ). differing (differing x (get_or next t 0)) (cond middle (get_or total t 0) 0))
          (get_or-take n (drop at parity) t 0 (omega arith) ∙ get_or-drop at parity t 0),
    )

-- row i is put in: a turn of the loop
module _ (c : Code) (info : List ℕ) (i : ℕ) (parity next total parity' next' : List ℕ) (lift : 0 < c.z) (i_lt : i < (code_graph c).shape.m_b)
    (e : parity ≡ stairs c info i) (N : Holds c.z (stair_bit c info i) next) (T : Holds c.z (total_bit c info) total)
    (W : Written 0 (i * c.z) (λ t. t < c.z) (λ t. get_or next t 0) parity parity')
    (M : (t : ℕ) → t < c.z → get_or next' t 0
    ≡ differing (differing (get_or parity (i * c.z + t) 0) (get_or next t 0)) (cond (eqb i ((code_graph c).shape.m_b / 2)) (get_or total t 0) 0)) where
  before : (s : ℕ) → get_or parity s 0 ≡ get_or (stairs c info i) s 0
  before s = ap (λ (l : List ℕ). get_or l s 0) e

  inside : (t : ℕ) → t < c.z → i * c.z + t < checks_of c
  unfolding checks_of
  inside t h = slot_lt i_lt h

  pub next_more : Holds c.z (stair_bit c info (i + 1)) next'
  next_more t h =
      let d = slot_div i c.z t h in
      let b : get_or parity (i * c.z + t) 0 ≡ bit (sum_bit c info i t) =
      before (i * c.z + t) ∙ sum_at c info i (i * c.z + t) (inside t h) (omega (arith, d))
      ∙ ap₂ (λ (j u : ℕ). bit (sum_bit c info j u)) d (slot_mod i c.z t h) in
      M t h
      ∙ ap₂ differing (ap₂ differing b (N t h) ∙ differing_bits _ _) (ap (λ (x : ℕ). cond (eqb i ((code_graph c).shape.m_b / 2)) x 0) (T t h) ∙ cond_bit (eqb i ((code_graph c).shape.m_b / 2)) (total_bit c info t))
      ∙ differing_bits _ _ ∙ ap bit (sym (stair_more c info i t h))

  at_row : (s : ℕ) → s < checks_of c → s / c.z ≡ i → get_or parity' s 0 ≡ get_or (stairs c info (i + 1)) s 0
  at_row s h k =
      subst (λ (x : ℕ). get_or parity' x 0 ≡ get_or next (s % c.z) 0) (sym (slot_is s c.z i (s % c.z) k refl)) (W.at (s % c.z) (mod-lt s lift))
      ∙ N (s % c.z) (mod-lt s lift)
      ∙ ap (λ (j : ℕ). bit (stair_bit c info j (s % c.z))) (sym k)
      ∙ sym (stair_at c info (i + 1) s h (omega arith))

  off_row : (s : ℕ) → s < checks_of c → (s / c.z ≡ i → ⊥) → Dec (s / c.z < i) → get_or parity' s 0 ≡ get_or (stairs c info (i + 1)) s 0
  off_row s h k (yes l) =
      W.off s (λ t p q. k (ap (λ (x : ℕ). x / c.z) q ∙ slot_div i c.z t p)) ∙ before s ∙ stair_at c info i s h l
      ∙ sym (stair_at c info (i + 1) s h (omega arith))
  off_row s h k (no l) =
      W.off s (λ t p q. k (ap (λ (x : ℕ). x / c.z) q ∙ slot_div i c.z t p)) ∙ before s ∙ sum_at c info i s h (omega arith)
      ∙ sym (sum_at c info (i + 1) s h (omega arith))

  pub rows_more : parity' ≡ stairs c info (i + 1)
  rows_more =
      let long : length parity' ≡ checks_of c = W.long ∙ ap length e ∙ length_stairs c info i in
      ext_get_or 0 parity' (stairs c info (i + 1)) (long ∙ sym (length_stairs c info (i + 1)))
      (λ s h. by s (omega (arith, long)) (ℕ_discrete (s / c.z) i))
    where
      by : (s : ℕ) → s < checks_of c → Dec (s / c.z ≡ i) → get_or parity' s 0 ≡ get_or (stairs c info (i + 1)) s 0
      by s h (yes d) = at_row s h d
      by s h (no d) = off_row s h d (dec_lt (s / c.z) i)

module _ (c : Code) (info : List ℕ) (lift : 0 < c.z) where
  -- the sum of all rows of sums is T
  pub total_is : (parity total : List ℕ) → parity ≡ sums_of c info (3 * (code_graph c).shape.k_b)
      → Holds c.z (λ t. xor_sum (λ i. eqb (get_or parity (i * c.z + t) 0) 1) (code_graph c).shape.m_b) total → Holds c.z (total_bit c info) total
  unfolding total_bit total_sum info_sum checks_of
  total_is parity total e H t h =
      H t h
      ∙ ap bit
      (xor_sum_ext (λ i. eqb (get_or parity (i * c.z + t) 0) 1) (λ i. info_sum (code_graph c) c.z (lifted c.k (info_end c) info) i t)
      (code_graph c).shape.m_b
      (λ i k.
      ap (λ (l : List ℕ). eqb (get_or l (i * c.z + t) 0) 1) e
      ∙ ap (λ (x : ℕ). eqb x 1) (at_sums c info (3 * (code_graph c).shape.k_b) (i * c.z + t) (slot_lt k h))
      ∙ of_bit_lem _
      ∙ ap₂ (λ (r u : ℕ). row_sum (code_graph c) c.z (lifted c.k (info_end c) info) (3 * (code_graph c).shape.k_b) r u) (slot_div i c.z t h)
      (slot_mod i c.z t h)))

  -- and T turned back by one is p_0
  pub first_is : (total next₀ next : List ℕ) → c.z ≤ length next₀ → Holds c.z (total_bit c info) total
      → next ≡ rewritten 0 c.z (λ t. get_or total ((t + c.z - 1) % c.z) 0) next₀ → Holds c.z (stair_bit c info 0) next
  unfolding stair_bit parity_bit first_parity total_bit
  first_is total next₀ next l T e t h =
      let f : ℕ → ℕ = λ t. get_or total ((t + c.z - 1) % c.z) 0 in
      let a : get_or (rewritten 0 c.z f next₀) t 0 ≡ f t = rw zero-add at (at_rewritten 0 0 c.z f next₀ (omega (arith, zero-add c.z)) t h) in
      ap (λ (x : List ℕ). get_or x t 0) e ∙ a ∙ T ((t + c.z - 1) % c.z) (mod-lt (t + c.z - 1) lift)

pub zeros : (z : ℕ) → z ≤ 324 → Holds z (λ t. false) (replicate 324 0)
zeros z h t k = get_or-replicate 324 t 0 0 (omega arith)

-- row i lies within the parity part
pub row_lies : (c : Code) (info : List ℕ) (i m : ℕ) (parity : List ℕ) → m ≡ (code_graph c).shape.m_b → i < m → parity ≡ stairs c info i
    → i * c.z + c.z ≤ length parity
unfolding checks_of
row_lies c info i m parity is h e = omega (arith, row_le c.z (rw is at h), ap length e, length_stairs c info i)
