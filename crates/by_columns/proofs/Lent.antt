-- The laws of the bit pass in the numbers of a call. Assumes nothing.
use mathlib.Core.Path.{◌≡◌, sym, subst, ◌∙◌}
use mathlib.Core.List.{List}
use Prim.Native.Nat.{ℕ, ◌+◌, ◌*◌, ◌/◌, ◌<◌, ◌≤◌}
use native.Mathlib.Omega.{arith}
use borrow.Rule.Slice.PartMut.{put_mid}
use lib.ListN.{length, take, drop, get_or}
use lib.Ieee.{Float, nan}
use Rattle.laws.specs.Written.{Written, tabulate}
use Rattle.laws.proofs.Slots.{row_le}
use Rattle.laws.proofs.Written.{Upto}
use Rattle.tables.specs.declared.BaseGraph.{BaseGraph}
use Rattle.matrix.specs.Edges.{edge_column, ColumnList}
use Rattle.messages.specs.Memory.{bits_of, slots_of, number}
use Rattle.messages.specs.Regions.{total_of, totals_of, to_check_of, to_checks_of}
use Rattle.ldpc.specs.Code.{code_graph, work_of}
use Rattle.ldpc.proofs.CodeEdges.{code_simple}
use Rattle.sizes.specs.declared.lifted.Lifted.{Lifted}
use Rattle.sizes.proofs.Lent.{Known, known, edge_in, turn_at}
use Rattle.totals.specs.Joined.{total_over, Fits, Sent}
use Rattle.by_columns.specs.Columns.{TotalsDone, SentDone}
use Rattle.by_columns.proofs.ByColumns.{totals_done, sent_done, totals_all, sent_all}

module _ (l : Lifted) where
  K : Known l.code.code l.sizes (work_of l.code.code)
  K = known l (work_of l.code.code) (omega arith)

  pub column_fits : (v : ℕ) (edges : List ℕ) → ColumnList (code_graph l.code.code) v edges → (i : ℕ) → i < length edges
      → Fits l.code.code.z l.sizes.slots l.lists.now.turn (get_or edges i 0)
  column_fits v edges C i h =
      let E = edge_in l (get_or edges i 0) (C.edge_lt i h) in
      record { turn_there = E.turn_there; turn_lt = E.turn_lt; inside = E.slot_end }

  pub column_ends : (v : ℕ) → v < l.sizes.info + l.sizes.rows → v * l.code.code.z + l.code.code.z ≤ l.sizes.bits
  unfolding bits_of
  column_ends v h =
      let inside : v < (code_graph l.code.code).shape.n_b = omega (arith, K.info_is, K.rows_is, K.shape.columns) in
      subst (λ (x : ℕ). v * l.code.code.z + l.code.code.z ≤ x) (sym K.bits_is) (row_le l.code.code.z inside)

  -- a column by what totals answers of its own part
  module _ (v : ℕ) (there : v < l.sizes.info + l.sizes.rows) (edges : List ℕ) (C : ColumnList (code_graph l.code.code) v edges)
      (channel to_bits t : List Float) (n : ℕ) (all : n ≡ l.code.code.z)
      (told : t ≡ tabulate (λ j. total_over (number to_bits) l.code.code.z l.lists.now.turn j
      (number (take n (drop (v * l.code.code.z) channel)) j) edges) l.code.code.z) where
    abbrev g : BaseGraph
    g = code_graph l.code.code

    abbrev z : ℕ
    z = l.code.code.z

    v_lt : v < g.shape.n_b
    v_lt = omega (arith, there, K.info_is, K.rows_is, K.shape.columns)

    is : t ≡ tabulate (λ j. total_over (number to_bits) z l.lists.now.turn j (number (take z (drop (v * z) channel)) j) edges) z
    is =
        subst (λ (x : ℕ). t ≡ tabulate (λ j. total_over (number to_bits) z l.lists.now.turn j (number (take x (drop (v * z) channel)) j) edges) z)
        all told

    pub totals_told : (w : List Float) → length w ≡ l.sizes.bits → TotalsDone g z channel to_bits v w (put_mid (v * z) n w t)
    totals_told w long =
        totals_done g z K.lift (code_simple l.code.code) channel to_bits v v_lt edges C l.lists.now.turn (turn_at l) t is w n all
        (omega (arith, long, K.bits_is))

    pub sent_told : (w w' : List Float) → Sent z l.lists.now.turn edges t to_bits w w' → SentDone g z channel to_bits v w w'
    sent_told w w' W = sent_done g z K.lift (code_simple l.code.code) channel to_bits v v_lt edges C l.lists.now.turn (turn_at l) t is w w' W

  -- all columns
  module _ (v : ℕ) (h : l.sizes.info + l.sizes.rows ≤ v) (channel to_bits w w' : List Float) where
    v_all : (code_graph l.code.code).shape.n_b ≤ v
    v_all = omega (arith, h, K.info_is, K.rows_is, K.shape.columns)

    pub totals_end : length w ≡ l.sizes.bits
        → Written nan 0 (Upto (λ u. u < bits_of (code_graph l.code.code) l.code.code.z) (λ u. u / l.code.code.z) v)
        (total_of (code_graph l.code.code) l.code.code.z channel to_bits) w w'
        → w' ≡ totals_of (code_graph l.code.code) l.code.code.z channel to_bits
    totals_end long W = totals_all (code_graph l.code.code) l.code.code.z K.lift (code_simple l.code.code) channel to_bits v w w' v_all (long ∙ K.bits_is) W

    pub sent_end : length w ≡ l.sizes.slots
        → Written nan 0 (Upto (λ s. s < slots_of (code_graph l.code.code) l.code.code.z) (λ s. edge_column (code_graph l.code.code) (s / l.code.code.z)) v)
        (to_check_of (code_graph l.code.code) l.code.code.z channel to_bits) w w'
        → w' ≡ to_checks_of (code_graph l.code.code) l.code.code.z channel to_bits
    sent_end long W = sent_all (code_graph l.code.code) l.code.code.z K.lift (code_simple l.code.code) channel to_bits v w w' v_all (long ∙ K.slots_is) W
