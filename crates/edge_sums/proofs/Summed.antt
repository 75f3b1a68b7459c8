-- The sums over the base edges: with none, and with one edge more. Assumes nothing.
use mathlib.Core.Path.{◌≡◌, refl, sym, ap, ap₂, ◌∙◌, subst}
use mathlib.Core.Bool.{Bool, xor}
use mathlib.Core.List.{List, ◌∷◌}
use Prim.Native.Nat.{ℕ, zero, suc, ◌+◌, ◌*◌, ◌/◌, ◌%◌, ◌<◌, ◌≤◌}
use native.Mathlib.Omega.{arith}
use native.Mathlib.Nat.{mod-lt, add-mod-mod}
use native.Mathlib.Numerals.{add-one}
use native.Mathlib.Decide.{ℕ_discrete}
use borrow.Author.Tests.{eq-eqb, ne_eqb}
use borrow.Rule.Slice.PartMut.{put_mid}
use lib.ListN.{length, get_or, take, drop, length-drop, replicate}
use lib.Seq.{ext_get_or, length-take-le, get_or-take, get_or-drop}
use Rattle.laws.specs.Range.{xor_sum}
use Rattle.laws.specs.Written.{tabulate}
use Rattle.laws.proofs.Written.{length_tabulate, get_d_tabulate, put_written}
use Rattle.laws.proofs.Slots.{slot_div, slot_is, row_le}
use Rattle.laws.proofs.Parity.{xor_false}
use Rattle.tables.specs.declared.BaseGraph.{BaseGraph}
use Rattle.base_edges.specs.declared.Edge.{Edge}
use Rattle.base_edges.specs.Edge.{edge_of}
use Rattle.matrix.specs.Edges.{edge_row, edge_column, edge_shift, bit_at}
use Rattle.matrix.specs.Checks.{row_sum, lifted}
use Rattle.matrix.specs.Encoding.{bit}
use Rattle.matrix.proofs.Words.{bit_of}
use Rattle.bits.specs.Sums.{differing, Bits, AddedTurned}
use Rattle.bits.proofs.Bytes.{differing_bits, bit_most, bits_below}
use Rattle.ldpc.specs.declared.choice.Code.{Code}
use Rattle.ldpc.specs.Code.{code_graph, info_end, checks_of}
use Rattle.edge_sums.specs.Sums.{PartOf, RowAdded, sums_of}

module _ (c : Code) (word : List ℕ) where
  abbrev w : ℕ → Bool
  w = lifted c.k (info_end c) word

  pub length_sums : (n : ℕ) → length (sums_of c word n) ≡ checks_of c
  unfolding sums_of
  length_sums n = length_tabulate _ (checks_of c)

  pub at_sums : (n s : ℕ) → s < checks_of c → get_or (sums_of c word n) s 0 ≡ bit (row_sum (code_graph c) c.z w n (s / c.z) (s % c.z))
  unfolding sums_of
  at_sums n s h = get_d_tabulate 0 _ (checks_of c) s h

  pub sums_bits : (n : ℕ) → Bits (sums_of c word n)
  sums_bits n i h = rw (at_sums n i (omega (arith, length_sums n))) (bit_most (row_sum (code_graph c) c.z w n (i / c.z) (i % c.z)))

  pub no_sums : tabulate (λ s. 0) (checks_of c) ≡ sums_of c word 0
  unfolding sums_of row_sum xor_sum
  no_sums = refl

  -- one edge more adds its bit to the checks of its row
  row_more : (n r t : ℕ) → edge_row (code_graph c) n ≡ r
      → row_sum (code_graph c) c.z w (n + 1) r t ≡ xor (row_sum (code_graph c) c.z w n r t) (w (bit_at (code_graph c) c.z n t))
  unfolding row_sum xor_sum
  row_more n r t e = rw (add-one, eq-eqb (edge_row (code_graph c) n) r e)

  row_skip : (n r t : ℕ) → (edge_row (code_graph c) n ≡ r → ⊥) → row_sum (code_graph c) c.z w (n + 1) r t ≡ row_sum (code_graph c) c.z w n r t
  unfolding row_sum xor_sum
  row_skip n r t e = rw (add-one, ne_eqb (edge_row (code_graph c) n) r e, xor_false)

-- the turn of edge n
module _ (c : Code) (word : List ℕ) (n : ℕ) (part sums sums' : List ℕ) (lift : 0 < c.z) (is_bits : Bits part)
    (P : PartOf c word (edge_column (code_graph c) n) part) (e : sums ≡ sums_of c word n)
    (W : RowAdded (edge_row (code_graph c) n * c.z) c.z (edge_shift (code_graph c) n % c.z) part sums sums') where
  byte_is : (t : ℕ) → get_or part ((t + edge_shift (code_graph c) n % c.z) % c.z) 0 ≡ bit (w c word (bit_at (code_graph c) c.z n t))
  unfolding bit_at
  byte_is t =
      let p = (t + edge_shift (code_graph c) n % c.z) % c.z in
      sym (bit_of (get_or part p 0) (bits_below part p is_bits))
      ∙ ap bit (sym (P.reads p (mod-lt (t + edge_shift (code_graph c) n % c.z) lift)))
      ∙ ap (λ (x : ℕ). bit (w c word (edge_column (code_graph c) n * c.z + x))) (add-mod-mod t (edge_shift (code_graph c) n) c.z)

  before : (i : ℕ) → i < checks_of c → get_or sums i 0 ≡ bit (row_sum (code_graph c) c.z (w c word) n (i / c.z) (i % c.z))
  before i h = ap (λ (l : List ℕ). get_or l i 0) e ∙ at_sums c word n i h

  in_row : (i : ℕ) → i < checks_of c → i / c.z ≡ edge_row (code_graph c) n
      → get_or sums' i 0 ≡ bit (row_sum (code_graph c) c.z (w c word) (n + 1) (i / c.z) (i % c.z))
  in_row i h k =
      let t = i % c.z in
      subst (λ (x : ℕ). get_or sums' x 0 ≡ differing (get_or sums x 0) (get_or part ((t + edge_shift (code_graph c) n % c.z) % c.z) 0))
      (sym (slot_is i c.z (edge_row (code_graph c) n) t k refl)) (W.at t (mod-lt i lift))
      ∙ ap₂ differing (before i h) (byte_is t)
      ∙ differing_bits _ _
      ∙ sym (ap bit (row_more c word n (i / c.z) t (sym k)))

  off_row : (i : ℕ) → i < checks_of c → (i / c.z ≡ edge_row (code_graph c) n → ⊥)
      → get_or sums' i 0 ≡ bit (row_sum (code_graph c) c.z (w c word) (n + 1) (i / c.z) (i % c.z))
  off_row i h k =
      W.off i (λ t p q. k (ap (λ (x : ℕ). x / c.z) q ∙ slot_div (edge_row (code_graph c) n) c.z t p))
      ∙ before i h ∙ sym (ap bit (row_skip c word n (i / c.z) (i % c.z) (λ q. k (sym q))))

  turn : sums' ≡ sums_of c word (n + 1)
  turn =
      let long : length sums' ≡ checks_of c = W.long ∙ ap length e ∙ length_sums c word n in
      ext_get_or 0 sums' (sums_of c word (n + 1)) (long ∙ sym (length_sums c word (n + 1)))
      (λ i h. let k : i < checks_of c = omega (arith, long) in
      by i k (ℕ_discrete (i / c.z) (edge_row (code_graph c) n)) ∙ sym (at_sums c word (n + 1) i k))
    where
      by : (i : ℕ) → i < checks_of c → Dec (i / c.z ≡ edge_row (code_graph c) n)
          → get_or sums' i 0 ≡ bit (row_sum (code_graph c) c.z (w c word) (n + 1) (i / c.z) (i % c.z))
      by i k (yes d) = in_row i k d
      by i k (no d) = off_row i k d

-- an edge that is added takes in one edge more
pub edge_added : (c : Code) (word : List ℕ) (n : ℕ) (g : BaseGraph) (e : Edge) (part sums sums' : List ℕ) → g ≡ code_graph c → 1 ≤ c.z
    → Bits part → e ≡ edge_of g n → PartOf c word e.column part → sums ≡ sums_of c word n
    → RowAdded (e.row * c.z) c.z (e.shift % c.z) part sums sums' → sums' ≡ sums_of c word (n + 1)
unfolding edge_of
edge_added c word n g e part sums sums' is lift is_bits edge P before W =
    let same : e ≡ edge_of (code_graph c) n = edge ∙ ap (λ (x : BaseGraph). edge_of x n) is in
    turn c word n part sums sums' lift is_bits (subst (λ (x : Edge). PartOf c word x.column part) same P) before
    (subst (λ (x : Edge). RowAdded (x.row * c.z) c.z (x.shift % c.z) part sums sums') same W)

-- the row of an edge lies within the sums
pub row_fits : (c : Code) (word : List ℕ) (n : ℕ) (g : BaseGraph) (row : ℕ) (sums : List ℕ) → g ≡ code_graph c → row < g.shape.m_b
    → sums ≡ sums_of c word n → row * c.z + c.z ≤ length sums
unfolding checks_of
row_fits c word n g row sums is h e =
    omega (arith, row_le c.z (rw is at h), ap length e, length_sums c word n)

-- the row of a column's bits, turned, is put in its place
pub row_put : (at z turn s n : ℕ) (l row part : List ℕ) → n ≡ z → at + z ≤ length l → length row ≡ length (take n (drop at l)) → turn ≡ s
    → AddedTurned turn part (take n (drop at l)) row → RowAdded at z s part l (put_mid at n l row)
row_put at z turn s n l row part e fits long q A =
    let inside : length (take n (drop at l)) ≡ z = length-take-le n (drop at l) (omega (arith, length-drop at l)) ∙ e in
    put_written 0 at z n l row (λ t. differing (get_or l (at + t) 0) (get_or part ((t + s) % z) 0)) e fits (long ∙ inside)
    (λ t h. A t (omega (arith, inside))
    ∙ ap₂ (λ (x m : ℕ). differing x (get_or part ((t + turn) % m) 0))
    (get_or-take n (drop at l) t 0 (omega arith) ∙ get_or-drop at l t 0) inside
    ∙ ap (λ (x : ℕ). differing (get_or l (at + t) 0) (get_or part ((t + x) % z) 0)) q)

-- zeros are the sums over no edge
pub zeros : (n : ℕ) → replicate {A = ℕ} n 0 ≡ tabulate {A = ℕ} (λ s. 0) n
unfolding tabulate
zeros zero = refl
zeros (suc n) = ap (λ (l : List ℕ). 0 ∷ l) (zeros n)
