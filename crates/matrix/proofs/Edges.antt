-- The row, the column, the shift, the bits and the slots of each base edge, by its place among the edges. Assumes nothing.
use mathlib.Core.Path.{◌≡◌}
use mathlib.Core.Bool.{cond}
use Prim.Native.Nat.{ℕ, ◌+◌, ◌*◌, ◌/◌, ◌%◌, ◌-◌, ◌<◌, ◌≤◌}
use native.Mathlib.Nat.{mod-lt, div-add-mod'}
use lib.Dec.{eqb}
use lib.ListN.{get_or}
use borrow.Author.Tests.{lt-ltb, le-ltb}
use Rattle.laws.proofs.Slots.{slot_lt, slot_div, slot_mod, back_then_on_by}
use Rattle.tables.specs.declared.BaseGraph.{BaseGraph}
use Rattle.laws.specs.Columns.{parity_row}
use Rattle.matrix.specs.Edges.{edge_row, edge_column, edge_shift, bit_at, slot_of}

-- an information edge
module _ (g : BaseGraph) (b : ℕ) (h : b < 3 * g.shape.k_b) where
  pub info_row : edge_row g b ≡ get_or g.rows b 0
  unfolding edge_row
  info_row = rw (lt-ltb b (3 * g.shape.k_b) h)

  pub info_column : edge_column g b ≡ b / 3
  unfolding edge_column
  info_column = rw (lt-ltb b (3 * g.shape.k_b) h)

-- a parity edge, of which the third alone is shifted
module _ (g : BaseGraph) (b : ℕ) (h : 3 * g.shape.k_b ≤ b) where
  pub parity_row_lem : edge_row g b ≡ parity_row g.shape.m_b (b - 3 * g.shape.k_b)
  unfolding edge_row
  parity_row_lem = rw (le-ltb b (3 * g.shape.k_b) h)

  pub parity_column : edge_column g b ≡ g.shape.k_b + (b - 3 * g.shape.k_b - 1) / 2
  unfolding edge_column
  parity_column = rw (le-ltb b (3 * g.shape.k_b) h)

  pub parity_shift : edge_shift g b ≡ cond (eqb (b - 3 * g.shape.k_b) 2) 1 0
  unfolding edge_shift
  parity_shift = rw (le-ltb b (3 * g.shape.k_b) h)

-- a bit lies in its base edge's column
module _ (g : BaseGraph) (z b t : ℕ) (lift : 0 < z) where
  pub bit_column : bit_at g z b t / z ≡ edge_column g b
  unfolding bit_at
  bit_column = slot_div (edge_column g b) z ((t + edge_shift g b) % z) (mod-lt (t + edge_shift g b) lift)

  pub bit_lt : (n : ℕ) → edge_column g b < n → bit_at g z b t < n * z
  unfolding bit_at
  bit_lt n h = slot_lt h (mod-lt (t + edge_shift g b) lift)

-- the slot at which base edge b joins bit v of its column
module _ (g : BaseGraph) (z b v : ℕ) (lift : 0 < z) where
  pub slot_below : (n : ℕ) → b < n → slot_of g z b v < n * z
  unfolding slot_of
  slot_below n h = slot_lt h (mod-lt (v % z + z - edge_shift g b % z) lift)

  pub slot_edge : slot_of g z b v / z ≡ b
  unfolding slot_of
  slot_edge = slot_div b z _ (mod-lt (v % z + z - edge_shift g b % z) lift)

  pub slot_bit : edge_column g b ≡ v / z → bit_at g z b (slot_of g z b v % z) ≡ v
  unfolding slot_of bit_at
  slot_bit e =
      rw (slot_mod b z _ (mod-lt (v % z + z - edge_shift g b % z) lift), back_then_on_by (edge_shift g b) (v % z) z (mod-lt v lift), e)
      (div-add-mod' v z)
