-- A lift of 1, where a column is one bit: what it adds to the sums, and that a bit which the word lacks adds nothing. Assumes nothing.
use mathlib.Core.Path.{◌≡◌, refl, sym, ap, ap₂, ◌∙◌, subst}
use mathlib.Core.Bool.{Bool, false, xor, ◌&&◌}
use mathlib.Core.List.{List, [], ◌∷◌}
use Prim.Native.Nat.{ℕ, zero, suc, ◌+◌, ◌*◌, ◌/◌, ◌%◌, ◌-◌, ◌<◌, ◌≤◌, min}
use native.Mathlib.Omega.{arith}
use native.Mathlib.Decide.{dec_lt}
use native.Mathlib.Nat.{mod-one}
use borrow.Author.Tests.{lt-ltb, le-ltb}
use lib.Dec.{ltb, eqb}
use lib.ListN.{length, get_or, set, length-set}
use Rattle.std.proofs.Math.Bool.{and-false}
use Rattle.std.proofs.lemmas.List.{get_or-set_same, get_or-set_other}
use Rattle.laws.specs.Range.{xor_sum}
use Rattle.laws.proofs.Parity.{xor_false, xor_sum_add, xor_sum_none}
use Rattle.laws.proofs.Written.{tabulate_ext}
use Rattle.matrix.specs.Checks.{row_sum, is_sent, place_of, lifted}
use Rattle.matrix.specs.Edges.{edge_row, edge_column, edge_shift, bit_at}
use Rattle.matrix.specs.Encoding.{bit}
use Rattle.matrix.proofs.Edges.{info_column}
use Rattle.tables.specs.declared.BaseGraph.{BaseGraph}
use Rattle.base_edges.specs.declared.Edge.{Edge}
use Rattle.base_edges.specs.Edge.{edge_of}
use Rattle.bits.specs.Sums.{differing, Bits}
use Rattle.bits.proofs.Bytes.{bits_below}
use Rattle.ldpc.specs.declared.choice.Code.{Code}
use Rattle.ldpc.specs.Code.{code_graph, info_end, checks_of}
use Rattle.edge_sums.specs.Sums.{PartOf, RowAdded, sums_of}
use Rattle.edge_sums.proofs.Parts.{lifted_info, absent}
use Rattle.edge_sums.proofs.Summed.{edge_added, row_fits}

-- the column of a bit that is sent
pub bit_part : (c : Code) (word : List ℕ) (column : ℕ) → c.z ≡ 1 → column < c.k → PartOf c word column (get_or word column 0 ∷ [])
unfolding lifted is_sent place_of
bit_part c word column e h =
    let sent : lifted c.k (info_end c) word column ≡ eqb (get_or word column 0) 1 = rw (lt-ltb column c.k h) refl in
    record {
      there_most = omega (arith, e);
      reads = λ p l.
          let place : column * c.z + p ≡ column = omega (arith, ap (λ (z : ℕ). column * z) e) in
          let first : 0 ≡ p = omega (arith, e) in
          ap (lifted c.k (info_end c) word) place ∙ sent ∙ ap (λ (x : ℕ). eqb (get_or (get_or word column 0 ∷ []) x 0) 1) first;
    }

one_bit : (b : ℕ) → b ≤ 1 → Bits (b ∷ [])
one_bit b h zero l = h
one_bit b h (suc i) l = absurd (omega arith)

-- a bit is added to the one check of a row
pub bit_put : (row z s b : ℕ) (l : List ℕ) → z ≡ 1 → row < length l
    → RowAdded (row * z) z s (b ∷ []) l (set l row (differing (get_or l row 0) b))
bit_put row z s b l e h =
    let v = differing (get_or l row 0) b in
    let there : row * z ≡ row = omega (arith, ap (λ (x : ℕ). row * x) e) in
    record {
      long = length-set l row v;
      at = λ t k.
          let same : row ≡ row * z + t = omega (arith, there) in
          let first : 0 ≡ (t + s) % z = sym (ap (λ (x : ℕ). (t + s) % x) e ∙ mod-one (t + s)) in
          ap (λ (x : ℕ). get_or (set l row v) x 0) (sym same)
          ∙ get_or-set_same l row v 0 h
          ∙ ap₂ differing (ap (λ (x : ℕ). get_or l x 0) same) (ap (λ (x : ℕ). get_or (b ∷ []) x 0) first);
      off = λ i k. get_or-set_other l row i v 0 (λ q. k 0 (omega arith) (omega (arith, there)));
    }

-- the row of an edge lies within the sums
pub bit_fits : (c : Code) (word : List ℕ) (n : ℕ) (g : BaseGraph) (row : ℕ) (sums : List ℕ) → g ≡ code_graph c → c.z ≡ 1 → row < g.shape.m_b
    → sums ≡ sums_of c word n → row < length sums
bit_fits c word n g row sums is lift h e = omega (arith, row_fits c word n g row sums is h e, ap (λ (x : ℕ). row * x) lift, lift)

-- an edge that is added takes in one edge more
pub bit_added : (c : Code) (word : List ℕ) (n column : ℕ) (g : BaseGraph) (e : Edge) (sums : List ℕ) → g ≡ code_graph c → c.z ≡ 1 → Bits word
    → e ≡ edge_of g n → e.column ≡ column → column < c.k → e.row < g.shape.m_b → sums ≡ sums_of c word n
    → set sums e.row (differing (get_or sums e.row 0) (get_or word column 0)) ≡ sums_of c word (n + 1)
bit_added c word n column g e sums is lift are_bits edge at h row before =
    let b = get_or word column 0 in
    edge_added c word n g e (b ∷ []) sums _ is (omega (arith, lift)) (one_bit b (bits_below word column are_bits)) edge
    (subst (λ (x : ℕ). PartOf c word x (b ∷ [])) (sym at) (bit_part c word column lift h)) before
    (bit_put e.row c.z (e.shift % c.z) b sums lift (bit_fits c word n g e.row sums is lift row before))

-- the edges behind the last bit of the word add nothing
module _ (c : Code) (word : List ℕ) (n : ℕ) (e : c.z ≡ 1) (m : n ≡ min c.k (length word)) where
  bit_lacks : (v : ℕ) → n ≤ v → v < info_end c → lifted c.k (info_end c) word v ≡ false
  bit_lacks v h l = lifted_info c.k (info_end c) word v l ∙ by (dec_lt v c.k)
    where
      by : Dec (v < c.k) → (ltb v c.k && eqb (get_or word v 0) 1) ≡ false
      by (yes k) = rw (lt-ltb v c.k k) (absent word v (omega arith))
      by (no k) = rw (le-ltb v c.k (omega arith)) refl

  edge_lacks : (b r t : ℕ) → 3 * n ≤ b → b < 3 * (code_graph c).shape.k_b
      → (eqb (edge_row (code_graph c) b) r && lifted c.k (info_end c) word (bit_at (code_graph c) c.z b t)) ≡ false
  unfolding bit_at info_end
  edge_lacks b r t h l =
      let g = code_graph c in
      let is : edge_column g b ≡ b / 3 = info_column g b l in
      let single : (t + edge_shift g b) % c.z ≡ 0 = ap (λ (x : ℕ). (t + edge_shift g b) % x) e ∙ mod-one (t + edge_shift g b) in
      let place : bit_at g c.z b t ≡ b / 3 = omega (arith, is, single, ap (λ (x : ℕ). edge_column g b * x) e) in
      let past : n ≤ b / 3 = omega arith in
      let inside : b / 3 < info_end c = omega (arith, e, ap (λ (x : ℕ). g.shape.k_b * x) e) in
      ap (λ (x : Bool). eqb (edge_row g b) r && x) (ap (lifted c.k (info_end c) word) place ∙ bit_lacks (b / 3) past inside)
      ∙ and-false (eqb (edge_row g b) r)

  pub past_bits : (k_b : ℕ) → k_b ≡ (code_graph c).shape.k_b → c.k ≤ k_b → sums_of c word (3 * n) ≡ sums_of c word (3 * k_b)
  unfolding sums_of row_sum
  past_bits k_b is fits =
      let d = 3 * k_b - 3 * n in
      tabulate_ext _ _ (checks_of c)
      (λ s h. let p : ℕ → Bool = λ b. eqb (edge_row (code_graph c) b) (s / c.z) && lifted c.k (info_end c) word (bit_at (code_graph c) c.z b (s % c.z)) in
      let whole : 3 * k_b ≡ 3 * n + d = omega arith in
      sym (ap bit (ap (xor_sum p) whole
      ∙ xor_sum_add p (3 * n) d
      ∙ ap (xor (xor_sum p (3 * n))) (xor_sum_none _ d (λ i k. edge_lacks (3 * n + i) (s / c.z) (s % c.z) (omega arith) (omega (arith, is))))
      ∙ xor_false (xor_sum p (3 * n)))))
