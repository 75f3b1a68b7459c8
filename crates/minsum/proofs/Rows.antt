-- A turn of the check pass, for a graph at lift z: a row of checks. Assumes nothing.
use mathlib.Core.Path.{◌≡◌, refl, sym, ap, subst, ◌∙◌}
use mathlib.Core.List.{List}
use Prim.Native.Nat.{ℕ, ◌*◌, ◌/◌, ◌%◌, ◌<◌, ◌≤◌}
use native.Mathlib.Omega.{arith}
use native.Mathlib.Nat.{mod-lt}
use lib.ListN.{length, get_or}
use lib.Ieee.{Float, nan}
use Rattle.laws.specs.Range.{count}
use Rattle.laws.specs.Written.{Written}
use Rattle.laws.proofs.Slots.{slot_lt, slot_is, edge_lt}
use Rattle.laws.proofs.Written.{Upto, same, upto_tabulated}
use Rattle.tables.specs.declared.BaseGraph.{BaseGraph}
use Rattle.matrix.specs.Edges.{edges, edge_row, row_edges}
use Rattle.matrix.proofs.ByRow.{row_entry, row_rank, row_rank_lt, of_row}
use Rattle.matrix.proofs.Simple.{Simple}
use Rattle.messages.specs.Memory.{slots_of, number}
use Rattle.messages.specs.Regions.{to_bits_of}
use Rattle.messages.specs.Iteration.{answer, to_bit}
use Rattle.slots.specs.Row.{Of}
use Rattle.minsum.specs.Rows.{RowDone}

module _ (g : BaseGraph) (z : ℕ) (lift : 0 < z) where
  -- the slots, and the row of one
  abbrev Slots : ℕ → Type 0
  Slots s = s < slots_of g z

  abbrev row_of : ℕ → ℕ
  row_of s = edge_row g (s / z)

  -- the checks of row r, from the list of its base edges
  row_written : (factor : Float) (r : ℕ) (m w w' : List Float)
      → Written nan 0 (Of (row_edges g r) (length (row_edges g r)) z) (answer factor z (row_edges g r) (number m)) w w'
      → RowDone factor g z r m w w'
  unfolding to_bit slots_of
  row_written factor r m w w' W =
      same W
      (λ s p.
      let E = row_entry g r p.index p.inside in
      record {
        among = subst (λ (x : ℕ). x < edges g * z) (sym (slot_is s z (get_or (row_edges g r) p.index 0) (s % z) (sym p.is) refl)) (slot_lt E.edge_lt (mod-lt s lift));
        has = ap (edge_row g) (sym p.is) ∙ E.row;
      })
      (λ s q.
      record {
        index = count (of_row g r) (s / z);
        inside = row_rank_lt g r (s / z) (edge_lt lift q.among) q.has;
        is = row_rank g r (s / z) (edge_lt lift q.among) q.has;
      })
      (λ s q. ap (λ (x : ℕ). answer factor z (row_edges g x) (number m) s) (sym q.has))

  -- the same by a lift and a list that are equal to those
  pub row_told : (factor : Float) (r k : ℕ) (l : List ℕ) (m w w' : List Float) → l ≡ row_edges g r → k ≡ z
      → Written nan 0 (Of l (length l) k) (answer factor k l (number m)) w w'
      → RowDone factor g z r m w w'
  row_told factor r k l m w w' e is W =
      row_written factor r m w w'
      (subst (λ x. Written nan 0 (Of x (length x) z) (answer factor z x (number m)) w w') e
      (subst (λ (x : ℕ). Written nan 0 (Of l (length l) x) (answer factor x l (number m)) w w') is W))

  -- all rows
  pub check_done : (simple : Simple g) (factor : Float) (m : List Float) (r : ℕ) (w w' : List Float) → g.shape.m_b ≤ r → length w ≡ slots_of g z
      → Written nan 0 (Upto (λ s. s < slots_of g z) (λ s. edge_row g (s / z)) r) (to_bit factor g z (number m)) w w'
      → w' ≡ to_bits_of factor g z m
  unfolding to_bits_of slots_of
  check_done simple factor m r w w' h long W = upto_tabulated (slots_of g z) r long (λ s p. omega (arith, simple.row_lt (s / z) (edge_lt lift p))) W
