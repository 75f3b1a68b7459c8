-- What the passes know of what they go by: sizes in numbers, a base edge's column and turn, the list of a row. Assumes nothing.
use mathlib.Core.Path.{◌≡◌, refl, sym, ap, subst, ◌∙◌}
use mathlib.Core.Bool.{true}
use mathlib.Core.List.{List}
use Prim.Native.Nat.{ℕ, suc, ◌+◌, ◌*◌, ◌%◌, ◌-◌, ◌<◌, ◌≤◌}
use native.Mathlib.Omega.{arith}
use native.Mathlib.Numerals.{add-one}
use native.Mathlib.Nat.{mul-le-mul, mod-lt}
use lib.ListN.{length, take, drop, get_or, length-drop}
use lib.Seq.{ext_get_or, get_or-take, get_or-drop, length-take-le}
use Rattle.laws.proofs.Slots.{row_le}
use Rattle.laws.proofs.Written.{length_tabulate, get_d_tabulate}
use Rattle.tables.specs.declared.BaseGraph.{BaseGraph}
use Rattle.tables.proofs.Sizes.{Shaped}
use Rattle.matrix.specs.Edges.{edges, edge_column, edge_shift, row_edges, edges_by_row, ColumnList}
use Rattle.matrix.proofs.ByRow.{row_entry, length_next, by_row_at, by_row_most}
use Rattle.messages.specs.Memory.{bits_of, slots_of, to_checks_at, to_bits_at, needed}
use Rattle.ldpc.specs.declared.choice.Code.{Code}
use Rattle.ldpc.specs.Choice.{made}
use Rattle.ldpc.specs.Code.{code_graph, work_of}
use Rattle.ldpc.proofs.Made.{sized as made_sizes}
use Rattle.ldpc.proofs.CodeEdges.{code_simple}
use Rattle.lists.specs.Lists.{order_of, starts_of, per_edge, lists_of}
use Rattle.lists.specs.Sorting.{sorted_of, column_start}
use Rattle.lists.proofs.Filled.{per_edge_at}
use Rattle.lists.proofs.ColumnSorted.{column_sorted}
use Rattle.sizes.specs.declared.sizes.Sizes.{Sizes}
use Rattle.sizes.specs.declared.lifted.Lifted.{Lifted}
use Rattle.slots.specs.Row.{Within}
use Rattle.sizes.specs.Sizes.{sizes_of}

pub record Known (c : Code) (s : Sizes) (len : ℕ) : Type 0 where
  pub lift : 1 ≤ c.z
  pub lift_most : c.z ≤ 324
  pub rows_is : s.rows ≡ (code_graph c).shape.m_b
  pub info_is : s.info ≡ (code_graph c).shape.k_b
  pub rows_most : (code_graph c).shape.m_b ≤ 39
  pub edges_is : s.edges ≡ edges (code_graph c)
  pub edges_most : edges (code_graph c) ≤ 172
  pub bits_is : s.bits ≡ bits_of (code_graph c) c.z
  pub bits_most : s.bits ≤ 19440
  pub slots_is : s.slots ≡ slots_of (code_graph c) c.z
  pub slots_most : s.slots ≤ 55728
  pub to_checks : 2 * s.bits ≡ to_checks_at (code_graph c) c.z
  pub to_bits : 2 * s.bits + s.slots ≡ to_bits_at (code_graph c) c.z
  pub room : 2 * s.bits + 2 * s.slots ≤ len
  pub all : needed (code_graph c) c.z ≤ len
  pub shape : Shaped (code_graph c).shape

known_by : (c : Code) (s : Sizes) (len : ℕ) → made c ≡ true → s ≡ sizes_of c → work_of c ≤ len → Known c s len
unfolding sizes_of bits_of slots_of to_checks_at to_bits_at needed edges work_of
known_by c s len m e room =
    let S = made_sizes c m in
    let g = (code_graph c).shape in
    let l : 3 * g.k_b + 2 * g.m_b + 1 ≤ 172 = omega (arith, S.shape) in
    subst (λ x. Known c x len) (sym e)
    (record {
      lift = S.lift;
      lift_most = S.lift_most;
      rows_is = refl;
      info_is = refl;
      rows_most = S.shape.rows_most;
      edges_is = refl;
      edges_most = l;
      bits_is = refl;
      bits_most = mul-le-mul S.shape.columns_most S.lift_most;
      slots_is = refl;
      slots_most = mul-le-mul l S.lift_most;
      to_checks = refl;
      to_bits = refl;
      room = room;
      all = room;
      shape = S.shape;
    })

pub known : (l : Lifted) (len : ℕ) → work_of l.code.code ≤ len → Known l.code.code l.sizes len
known l len room = known_by l.code.code l.sizes len l.code.made l.sized room

-- the work memory holds two regions of N numbers and two of E
pub room : (l : Lifted) (len : ℕ) → work_of l.code.code ≤ len → 2 * l.sizes.bits + 2 * l.sizes.slots ≤ len
room l len h = (known l len h).room

-- base edge b in the lists
pub record EdgeIn (l : Lifted) (b : ℕ) : Type 0 where
  pub column_there : b < length l.lists.now.column
  pub turn_there : b < length l.lists.now.turn
  pub column_is : get_or l.lists.now.column b 0 ≡ edge_column (code_graph l.code.code) b
  pub column_lt : edge_column (code_graph l.code.code) b < (code_graph l.code.code).shape.n_b
  pub turn_is : get_or l.lists.now.turn b 0 ≡ edge_shift (code_graph l.code.code) b % l.code.code.z
  pub turn_lt : get_or l.lists.now.turn b 0 < l.code.code.z
  pub column_end : get_or l.lists.now.column b 0 * l.code.code.z + l.code.code.z ≤ l.sizes.bits
  pub slot_end : b * l.code.code.z + l.code.code.z ≤ l.sizes.slots

-- a list by edge, and its entry b
per_edge_long : (g : BaseGraph) (f : ℕ → ℕ) (l : List ℕ) → l ≡ per_edge g f → length l ≡ 172
unfolding per_edge
per_edge_long g f l e = ap length e ∙ length_tabulate _ 172

edge_at : (g : BaseGraph) (f : ℕ → ℕ) (l : List ℕ) → l ≡ per_edge g f → edges g ≤ 172 → (b : ℕ) → b < edges g → get_or l b 0 ≡ f b
edge_at g f l e most b h = ap (λ x. get_or x b 0) e ∙ per_edge_at g f b h (omega arith)

module _ (l : Lifted) where
  abbrev c : Code
  c = l.code.code

  abbrev g : BaseGraph
  g = code_graph c

  K : Known c l.sizes (work_of l.code.code)
  K = known l (work_of l.code.code) (omega arith)

  column_list : l.lists.now.column ≡ per_edge g (edge_column g)
  unfolding lists_of
  column_list = ap (λ x. x.column) l.listed

  pub turn_list : l.lists.now.turn ≡ per_edge (code_graph l.code.code) (λ b. edge_shift (code_graph l.code.code) b % l.code.code.z)
  unfolding lists_of
  turn_list = ap (λ x. x.turn) l.listed

  pub turn_long : length l.lists.now.turn ≡ 172
  turn_long = per_edge_long g _ _ turn_list

  pub turn_at : (b : ℕ) → b < edges (code_graph l.code.code) → get_or l.lists.now.turn b 0 ≡ edge_shift (code_graph l.code.code) b % l.code.code.z
  turn_at b h = edge_at g _ _ turn_list K.edges_most b h

  pub edge_in : (b : ℕ) → b < edges (code_graph l.code.code) → EdgeIn l b
  unfolding bits_of slots_of
  edge_in b h =
      let column_is = edge_at g _ _ column_list K.edges_most b h in
      let turn_is = turn_at b h in
      let column_lt = (code_simple c).column_lt b h in
      record {
        column_there = omega (arith, per_edge_long g _ _ column_list, K.edges_most);
        turn_there = omega (arith, turn_long, K.edges_most);
        column_is = column_is;
        column_lt = column_lt;
        turn_is = turn_is;
        turn_lt = rw turn_is (mod-lt (edge_shift g b) K.lift);
        column_end = subst (λ (x : ℕ). x * c.z + c.z ≤ l.sizes.bits) (sym column_is)
            (subst (λ (x : ℕ). edge_column g b * c.z + c.z ≤ x) (sym K.bits_is) (row_le c.z column_lt));
        slot_end = subst (λ (x : ℕ). b * c.z + c.z ≤ x) (sym K.slots_is) (row_le c.z h);
      }

  -- the base edges row after row
  order_is : l.lists.now.order ≡ order_of g
  unfolding lists_of
  order_is = ap (λ x. x.order) l.listed

  start_is : l.lists.now.start ≡ starts_of g
  unfolding lists_of
  start_is = ap (λ x. x.start) l.listed

  pub order_long : length l.lists.now.order ≡ 172
  unfolding order_of
  order_long = ap length order_is ∙ length_tabulate _ 172

  order_at : (i : ℕ) → i < 172 → get_or l.lists.now.order i 0 ≡ get_or (edges_by_row g g.shape.m_b) i 0
  unfolding order_of
  order_at i h = ap (λ x. get_or x i 0) order_is ∙ get_d_tabulate 0 _ 172 i h

  start_at : (r : ℕ) → r < 40 → get_or l.lists.now.start r 0 ≡ length (edges_by_row g r)
  unfolding starts_of
  start_at r h = ap (λ x. get_or x r 0) start_is ∙ get_d_tabulate 0 _ 40 r h

  pub start_long : length l.lists.now.start ≡ 40
  unfolding starts_of
  start_long = ap length start_is ∙ length_tabulate _ 40

  sorted_is : l.lists.now.sorted ≡ (lists_of c).sorted
  sorted_is = ap (λ x. x.sorted) l.listed

  pub sorted_long : length l.lists.now.sorted ≡ 172
  unfolding lists_of sorted_of
  sorted_long = ap length sorted_is ∙ length_tabulate _ 172

-- the list of row r: a part of the order
module _ (l : Lifted) (r : ℕ) (below : r < l.sizes.rows) where
  abbrev lo : ℕ
  lo = length (edges_by_row (g l) r)

  abbrev n : ℕ
  n = length (row_edges (g l) r)

  row_begins : get_or l.lists.now.start r 0 ≡ lo
  row_begins = start_at l r (omega (arith, l.columns))

  row_stops : get_or l.lists.now.start (r + 1) 0 ≡ lo + n
  row_stops = start_at l (r + 1) (omega (arith, l.columns)) ∙ rw add-one (length_next (g l) r)

  row_most : lo + n ≤ 172
  row_most = omega (arith, by_row_most (g l) (suc r), length_next (g l) r, (K l).edges_most)

  pub row_rises : get_or l.lists.now.start r 0 ≤ get_or l.lists.now.start (r + 1) 0
  row_rises = omega (arith, row_begins, row_stops)

  pub row_ends : get_or l.lists.now.start (r + 1) 0 ≤ 172
  row_ends = omega (arith, row_stops, row_most)

  part_long : length (take n (drop lo l.lists.now.order)) ≡ n
  part_long = length-take-le n (drop lo l.lists.now.order) (omega (arith, length-drop lo l.lists.now.order, order_long l, row_most))

  part_is : take n (drop lo l.lists.now.order) ≡ row_edges (g l) r
  part_is =
      ext_get_or 0 (take n (drop lo l.lists.now.order)) (row_edges (g l) r) part_long
      (λ i q.
      let k : i < n = omega (arith, part_long) in
      get_or-take n (drop lo l.lists.now.order) i 0 k
      ∙ get_or-drop lo l.lists.now.order i 0
      ∙ order_at l (lo + i) (omega (arith, row_most))
      ∙ by_row_at (g l) (g l).shape.m_b r i (omega (arith, (K l).rows_is)) k)

  pub row_part : take (get_or l.lists.now.start (r + 1) 0 - get_or l.lists.now.start r 0) (drop (get_or l.lists.now.start r 0) l.lists.now.order)
      ≡ row_edges (code_graph l.code.code) r
  row_part =
      let short : n ≡ get_or l.lists.now.start (r + 1) 0 - get_or l.lists.now.start r 0 = omega (arith, row_begins, row_stops) in
      subst (λ (x : ℕ). take x (drop (get_or l.lists.now.start r 0) l.lists.now.order) ≡ row_edges (g l) r) short
      (subst (λ (x : ℕ). take n (drop x l.lists.now.order) ≡ row_edges (g l) r) (sym row_begins) part_is)

-- the list of column v: a part of those in rising row
pub column_part : (l : Lifted) (v from end : ℕ) → v < l.sizes.info + l.sizes.rows → from ≡ column_start l.sizes.info v
    → end ≡ column_start l.sizes.info (v + 1) → ColumnList (code_graph l.code.code) v (take (end - from) (drop from l.lists.now.sorted))
column_part l v from end h e k =
    let a : column_start (g l).shape.k_b v ≡ from = rw (← (K l).info_is) (sym e) in
    let b : column_start (g l).shape.k_b (v + 1) - column_start (g l).shape.k_b v ≡ end - from = rw (← (K l).info_is, e, k) in
    subst (λ (x : List ℕ). ColumnList (g l) v (take (end - from) (drop from x))) (sym (sorted_is l))
    (subst (λ (x : ℕ). ColumnList (g l) v (take (end - from) (drop x (lists_of (c l)).sorted))) a
    (subst (λ (x : ℕ). ColumnList (g l) v (take x (drop (column_start (g l).shape.k_b v) (lists_of (c l)).sorted))) b
    (column_sorted (c l) l.code.made v (omega (arith, (K l).info_is, (K l).rows_is)))))

-- an edge of a row, and its last slot
pub row_edge_lt : (l : Lifted) (r i : ℕ) → i < length (row_edges (code_graph l.code.code) r)
    → get_or (row_edges (code_graph l.code.code) r) i 0 < edges (code_graph l.code.code)
row_edge_lt l r i h = (row_entry (code_graph l.code.code) r i h).edge_lt

row_slot_end : (l : Lifted) (r i : ℕ) → i < length (row_edges (code_graph l.code.code) r)
    → get_or (row_edges (code_graph l.code.code) r) i 0 * l.code.code.z + l.code.code.z ≤ l.sizes.slots
row_slot_end l r i h = (edge_in l _ (row_edge_lt l r i h)).slot_end

-- so all its slots are among those of the graph
pub row_within : (l : Lifted) (r : ℕ) (part : List ℕ) → part ≡ row_edges (code_graph l.code.code) r → Within l.code.code.z l.sizes.slots part
row_within l r part e = subst (Within l.code.code.z l.sizes.slots) (sym e) (λ i h. row_slot_end l r i h)

-- and the lift is one
pub lift : (l : Lifted) → (0 < l.code.code.z) × (l.code.code.z ≤ 324)
lift l = ((K l).lift, (K l).lift_most)
