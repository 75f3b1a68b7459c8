-- The bit pass column after column: what a column's list of base edges comes to, one column more, and the whole. Assumes nothing.
use mathlib.Core.Path.{◌≡◌, refl, sym, ap, ap₂, ◌∙◌, subst}
use mathlib.Core.List.{List}
use Prim.Native.Nat.{ℕ, ◌+◌, ◌*◌, ◌-◌, ◌/◌, ◌%◌, ◌<◌, ◌≤◌}
use native.Mathlib.Nat.{mod-lt, add-mod-mod, zero-add}
use native.Mathlib.Omega.{arith}
use borrow.Rule.Slice.PartMut.{put_mid}
use lib.ListN.{length, take, drop, get_or}
use lib.Ieee.{Float, nan, add, sub, binary32}
use Rattle.laws.specs.Written.{Written, tabulate}
use Rattle.laws.proofs.Folded.{folded_ext}
use Rattle.laws.proofs.Slots.{slot_lt, slot_div, slot_mod, slot_is, edge_lt, row_le}
use Rattle.laws.proofs.Written.{Upto, same, block, upto_tabulated, get_d_tabulate, put_tabulated, part_at}
use Rattle.tables.specs.declared.BaseGraph.{BaseGraph}
use Rattle.matrix.specs.Edges.{edges, edge_column, edge_shift, bit_at, slot_of, ColumnList}
use Rattle.matrix.proofs.ByColumn.{by_column}
use Rattle.matrix.proofs.Simple.{Simple}
use Rattle.messages.specs.Memory.{bits_of, slots_of, number}
use Rattle.messages.specs.Iteration.{added}
use Rattle.messages.specs.Regions.{total_of, totals_of, to_check_of, to_checks_of}
use Rattle.totals.specs.Joined.{joined_slot, total_over, Sent}
use Rattle.by_columns.specs.Columns.{TotalsDone, SentDone}

module _ (g : BaseGraph) (z : ℕ) (lift : 0 < z) (simple : Simple g) (channel to_bits : List Float) where
  -- column v by the list of its base edges, and their shifts below z
  module _ (v : ℕ) (v_lt : v < g.shape.n_b) (l : List ℕ) (C : ColumnList g v l) (turn : List ℕ)
      (turn_is : (b : ℕ) → b < edges g → get_or turn b 0 ≡ edge_shift g b % z) where
    -- the total at offset j
    total_is : (j : ℕ) → j < z → total_over (number to_bits) z turn j (number channel (v * z + j)) l ≡ total_of g z channel to_bits (v * z + j)
    unfolding total_over joined_slot slot_of total_of added
    total_is j h =
        let u : ℕ = v * z + j in
        let over : u / z ≡ v = slot_div v z j h in
        let off : u % z ≡ j = slot_mod v z j h in
        folded_ext (λ y b. add binary32 y (number to_bits (joined_slot z turn j b))) (λ y b. add binary32 y (number to_bits (slot_of g z b u)))
        (number channel u) l
        (λ i k y. ap (λ (x : ℕ). add binary32 y (number to_bits (get_or l i 0 * z + x % z)))
        (ap₂ (λ (p q : ℕ). p + z - q) (sym off) (turn_is (get_or l i 0) (C.edge_lt i k))))
        ∙ sym (by_column g (u / z) l (subst (λ (x : ℕ). ColumnList g x l) (sym over) C) g.shape.m_b simple.row_lt
        (λ y b. add binary32 y (number to_bits (slot_of g z b u))) (number channel u))

    -- the column's own totals t, of its own part of the channel
    module _ (t : List Float) (is : t ≡ tabulate (λ j. total_over (number to_bits) z turn j (number (take z (drop (v * z) channel)) j) l) z) where
      by_part : (j : ℕ) → j < z → total_over (number to_bits) z turn j (number (take z (drop (v * z) channel)) j) l ≡ total_of g z channel to_bits (v * z + j)
      by_part j h = ap (λ y. total_over (number to_bits) z turn j y l) (part_at nan channel (v * z) z z j refl h) ∙ total_is j h

      own_at : (j : ℕ) → j < z → number t j ≡ total_of g z channel to_bits (v * z + j)
      own_at j h = ap (λ x. number x j) is ∙ get_d_tabulate nan _ z j h ∙ by_part j h

      pub totals_done : (w : List Float) (n : ℕ) → n ≡ z → bits_of g z ≤ length w → TotalsDone g z channel to_bits v w (put_mid (v * z) n w t)
      unfolding bits_of
      totals_done w n k long =
          let here : v * z + z ≤ bits_of g z = row_le z v_lt in
          block z v (total_of g z channel to_bits) lift
          (rw zero-add (put_tabulated nan (v * z) z n w t _ k (omega arith) is))
          (λ j h. omega (arith, here)) by_part

      pub sent_done : (w w' : List Float) → Sent z turn l t to_bits w w' → SentDone g z channel to_bits v w w'
      unfolding slots_of to_check_of bit_at
      sent_done w w' W =
          same W
          (λ s p.
          let b_lt = C.edge_lt p.index p.inside in
          let is : s ≡ get_or l p.index 0 * z + s % z = slot_is s z _ _ (sym p.is) refl in
          record {
            among = omega (arith, slot_lt b_lt (mod-lt s lift));
            has = ap (edge_column g) (sym p.is) ∙ C.column p.index p.inside;
          })
          (λ s q.
          let (i, inside, is) = C.all (s / z) (edge_lt lift q.among) q.has in
          record { index = i; inside = inside; is = is })
          (λ s q.
          let b_lt : s / z < edges g = edge_lt lift q.among in
          let off : (s % z + get_or turn (s / z) 0) % z ≡ (s % z + edge_shift g (s / z)) % z = rw (turn_is (s / z) b_lt, add-mod-mod) in
          ap (λ x. sub binary32 x (number to_bits s))
          (own_at ((s % z + get_or turn (s / z) 0) % z) (mod-lt _ lift)
          ∙ ap (total_of g z channel to_bits) (ap₂ (λ (a b : ℕ). a * z + b) (sym q.has) off)))

  -- every column
  pub totals_all : (v : ℕ) (w w' : List Float) → g.shape.n_b ≤ v → length w ≡ bits_of g z
      → Written nan 0 (Upto (λ u. u < bits_of g z) (λ u. u / z) v) (total_of g z channel to_bits) w w' → w' ≡ totals_of g z channel to_bits
  unfolding totals_of bits_of
  totals_all v w w' h long W = upto_tabulated (bits_of g z) v long (λ u k. omega (arith, edge_lt lift k)) W

  pub sent_all : (v : ℕ) (w w' : List Float) → g.shape.n_b ≤ v → length w ≡ slots_of g z
      → Written nan 0 (Upto (λ s. s < slots_of g z) (λ s. edge_column g (s / z)) v) (to_check_of g z channel to_bits) w w'
      → w' ≡ to_checks_of g z channel to_bits
  unfolding to_checks_of slots_of
  sent_all v w w' h long W = upto_tabulated (slots_of g z) v long (λ s k. omega (arith, simple.column_lt (s / z) (edge_lt lift k))) W
