-- What each pass reads: two memories that agree there give the same. Assumes nothing.
use mathlib.Core.Path.{◌≡◌, ap, ap₂, ◌∙◌}
use mathlib.Core.Bool.{cond}
use mathlib.Core.List.{List}
use Prim.Native.Nat.{ℕ, ◌+◌, ◌*◌, ◌/◌, ◌%◌, ◌<◌}
use native.Mathlib.Nat.{mod-lt}
use lib.Dec.{eqb}
use lib.ListN.{length, get_or}
use lib.Ieee.{Float, nan, add, binary32}
use Rattle.laws.specs.Range.{folded}
use Rattle.laws.proofs.Folded.{folded_ext}
use Rattle.laws.proofs.Slots.{slot_lt}
use Rattle.tables.specs.declared.BaseGraph.{BaseGraph}
use Rattle.matrix.specs.Edges.{edges, edge_row, edge_column, bit_at, row_edges, edges_by_row, slot_of}
use Rattle.matrix.proofs.Edges.{bit_lt, slot_below}
use Rattle.matrix.proofs.Simple.{Simple}
use Rattle.matrix.proofs.ByRow.{row_entry, by_row_entry}
use Rattle.rule.specs.Rule.{started, taken, answered}
use Rattle.messages.specs.Memory.{bits_of, slots_of, to_bits_at, reading}
use Rattle.messages.specs.Iteration.{gathered, answer, to_bit, added, total}

-- a check reads the messages of its own base edges
module _ (z : ℕ) (l : List ℕ) (m m' : ℕ → Float)
    (agree : (i : ℕ) → i < length l → (t : ℕ) → t < z → m' (get_or l i 0 * z + t) ≡ m (get_or l i 0 * z + t)) where
  pub gathered_agrees : (t : ℕ) → t < z → gathered m' z t l ≡ gathered m z t l
  unfolding gathered
  gathered_agrees t h =
      folded_ext (λ x b. taken x (m' (b * z + t)) b) (λ x b. taken x (m (b * z + t)) b) started l
      (λ i k x. ap (λ y. taken x y (get_or l i 0)) (agree i k t h))

  pub answer_agrees : (factor : Float) → 0 < z → (s : ℕ) → m' s ≡ m s → answer factor z l m' s ≡ answer factor z l m s
  unfolding answer
  answer_agrees factor p s e = ap₂ (λ x y. answered factor x y (s / z)) (gathered_agrees (s % z) (mod-lt s p)) e

-- a base edge's bits are among the graph's
module _ (g : BaseGraph) (simple : Simple g) (z : ℕ) (lift : 0 < z) where
  pub edge_bit : (b t : ℕ) → b < edges g → bit_at g z b t < bits_of g z
  unfolding bits_of
  edge_bit b t h = bit_lt g z b t lift g.shape.n_b (simple.column_lt b h)

-- the messages to bits, and the totals, read the messages of the graph's slots
module _ (g : BaseGraph) (z : ℕ) (lift : 0 < z) where
  pub to_bit_agrees : (m m' : ℕ → Float) → ((s : ℕ) → s < slots_of g z → m' s ≡ m s) → (factor : Float) (s : ℕ) → s < slots_of g z
      → to_bit factor g z m' s ≡ to_bit factor g z m s
  unfolding to_bit slots_of
  to_bit_agrees m m' agree factor s h =
      let l : List ℕ = row_edges g (edge_row g (s / z)) in
      answer_agrees z l m m' (λ i k t j. agree (get_or l i 0 * z + t) (slot_lt (row_entry g (edge_row g (s / z)) i k).edge_lt j))
      factor
      lift
      s
      (agree s h)

  pub added_agrees : (m m' : ℕ → Float) → ((s : ℕ) → s < slots_of g z → m' s ≡ m s) → (v : ℕ) (x : Float)
      → folded (added g z m' v) x (edges_by_row g g.shape.m_b) ≡ folded (added g z m v) x (edges_by_row g g.shape.m_b)
  unfolding added slots_of
  added_agrees m m' agree v x =
      let l : List ℕ = edges_by_row g g.shape.m_b in
      folded_ext (added g z m' v) (added g z m v) x l
      (λ i k y. ap (λ n. cond (eqb (edge_column g (get_or l i 0)) (v / z)) (add binary32 y n) y)
      (agree (slot_of g z (get_or l i 0) v) (slot_below g z (get_or l i 0) v lift (edges g) (by_row_entry g g.shape.m_b i k))))

  pub total_agrees : (w w' : List Float) → ((s : ℕ) → s < slots_of g z → reading w' (to_bits_at g z) s ≡ reading w (to_bits_at g z) s)
      → (v : ℕ) → get_or w' v nan ≡ get_or w v nan → total g z w' v ≡ total g z w v
  unfolding total
  total_agrees w w' agree v e =
      added_agrees (reading w (to_bits_at g z)) (reading w' (to_bits_at g z)) agree v (get_or w' v nan)
      ∙ ap (λ y. folded (added g z (reading w (to_bits_at g z)) v) y (edges_by_row g g.shape.m_b)) e
