-- The laws of the base edges of a row, and of all base edges row after row: what stands where, each edge at one place, and how many
-- there are. Assumes nothing.
use mathlib.Core.Path.{◌≡◌, refl, sym, ap, ◌∙◌}
use mathlib.Core.Bool.{Bool}
use Prim.Native.Nat.{ℕ, zero, suc, ◌+◌, ◌-◌, ◌<◌, ◌≤◌}
use native.Mathlib.Omega.{arith}
use native.Mathlib.Decide.{dec_lt, ℕ_discrete}
use lib.Dec.{ltb, eqb}
use lib.ListN.{length, get_or, length-append, get_or-append}
use lib.Seq.{get_or-append-add}
use borrow.Author.Tests.{lt-ltb, le-ltb, eq-eqb, eqb-true}
use Rattle.laws.specs.Range.{count}
use Rattle.laws.proofs.Collect.{count_lt, count_none, count_most, count_every, count_keys, length_collect, collect_at, collect_from}
use Rattle.tables.specs.declared.BaseGraph.{BaseGraph}
use Rattle.matrix.specs.Edges.{edges, edge_row, row_edges, edges_by_row}

module _ (g : BaseGraph) where
  -- whether base edge b is of row r
  abbrev pub of_row : ℕ → ℕ → Bool
  of_row r b = eqb (edge_row g b) r

  -- the place i of a row's list holds a base edge of that row, after i others of it
  pub record RowEntry (r i : ℕ) : Type 0 where
    pub edge_lt : get_or (row_edges g r) i 0 < edges g
    pub row : edge_row g (get_or (row_edges g r) i 0) ≡ r
    pub rank : count (of_row r) (get_or (row_edges g r) i 0) ≡ i

  pub row_entry : (r i : ℕ) → i < length (row_edges g r) → RowEntry r i
  unfolding row_edges
  row_entry r i h =
      let f = collect_from (of_row r) (λ b. b) 0 (edges g) i h in
      record {
        edge_lt = rw (← f.is) f.below;
        row = rw (← f.is) (eqb-true _ _ f.has);
        rank = rw (← f.is) f.rank;
      }

  pub length_row : (r : ℕ) → length (row_edges g r) ≡ count (of_row r) (edges g)
  unfolding row_edges
  length_row r = length_collect (of_row r) (λ b. b) (edges g)

  -- a base edge of a row stands after those of that row before it
  module _ (r b : ℕ) (h : b < edges g) (e : edge_row g b ≡ r) where
    pub row_rank_lt : count (of_row r) b < length (row_edges g r)
    row_rank_lt = rw (length_row r) (count_lt (of_row r) (edges g) b h (eq-eqb (edge_row g b) r e))

    pub row_rank : get_or (row_edges g r) (count (of_row r) b) 0 ≡ b
    unfolding row_edges
    row_rank = collect_at (of_row r) (λ b. b) 0 (edges g) b h (eq-eqb (edge_row g b) r e)

  -- how many there are in the first n rows: one row more, all below n, and all
  pub length_next : (n : ℕ) → length (edges_by_row g (suc n)) ≡ length (edges_by_row g n) + length (row_edges g n)
  unfolding edges_by_row
  length_next n = length-append (edges_by_row g n) (row_edges g n)

  pub by_row_length : (n : ℕ) → length (edges_by_row g n) ≡ count (λ b. ltb (edge_row g b) n) (edges g)
  unfolding edges_by_row
  by_row_length zero = sym (count_none (λ b. ltb (edge_row g b) 0) (edges g) (λ b h. le-ltb (edge_row g b) 0 (omega arith)))
  by_row_length (suc n) =
      length_next n ∙ (rw (by_row_length n, length_row n, count_keys (edge_row g) n (edges g)))

  pub by_row_most : (n : ℕ) → length (edges_by_row g n) ≤ edges g
  by_row_most n = rw (by_row_length n) (count_most (λ b. ltb (edge_row g b) n) (edges g))

  pub by_row_all : (n : ℕ) → ((b : ℕ) → b < edges g → edge_row g b < n) → length (edges_by_row g n) ≡ edges g
  by_row_all n low =
      by_row_length n ∙ count_every (λ b. ltb (edge_row g b) n) (edges g) (λ b h. lt-ltb (edge_row g b) n (low b h))

  -- the list of row r stands from the length of the rows before it on
  pub by_row_lt : (n r i : ℕ) → r < n → i < length (row_edges g r) → length (edges_by_row g r) + i < length (edges_by_row g n)
  by_row_lt zero r i l h = absurd (omega arith)
  by_row_lt (suc n) r i l h = by (ℕ_discrete r n) (by_row_lt n r i)
    where
      by : Dec (r ≡ n) → (r < n → i < length (row_edges g r) → length (edges_by_row g r) + i < length (edges_by_row g n))
          → length (edges_by_row g r) + i < length (edges_by_row g (suc n))
      by (yes q) earlier = rw (length_next n, ← q) (omega arith)
      by (no q) earlier = omega (arith, earlier (omega arith) h, length_next n)

  pub by_row_at : (n r i : ℕ) → r < n → i < length (row_edges g r)
      → get_or (edges_by_row g n) (length (edges_by_row g r) + i) 0 ≡ get_or (row_edges g r) i 0
  unfolding edges_by_row
  by_row_at zero r i l h = absurd (omega arith)
  by_row_at (suc n) r i l h = by (ℕ_discrete r n) (by_row_at n r i)
    where
      by : Dec (r ≡ n)
          → (r < n → i < length (row_edges g r) → get_or (edges_by_row g n) (length (edges_by_row g r) + i) 0 ≡ get_or (row_edges g r) i 0)
          → get_or (edges_by_row g (suc n)) (length (edges_by_row g r) + i) 0 ≡ get_or (row_edges g r) i 0
      by (yes q) earlier = rw (← q) (get_or-append-add (edges_by_row g r) (row_edges g r) i 0)
      by (no q) earlier =
          let k : r < n = omega arith in
          get_or-append (edges_by_row g n) (row_edges g n) 0 (length (edges_by_row g r) + i) (by_row_lt n r i k h) ∙ earlier k h

  -- and every place is one of a row's list
  pub record FromRow (n i : ℕ) : Type 0 where
    pub row : ℕ
    pub place : ℕ
    pub row_lt : row < n
    pub inside : place < length (row_edges g row)
    pub is : length (edges_by_row g row) + place ≡ i

  pub by_row_from : (n i : ℕ) → i < length (edges_by_row g n) → FromRow n i
  unfolding edges_by_row
  by_row_from zero i h = absurd (omega arith)
  by_row_from (suc n) i h = by (dec_lt i (length (edges_by_row g n))) (by_row_from n i)
    where
      by : Dec (i < length (edges_by_row g n)) → (i < length (edges_by_row g n) → FromRow n i) → FromRow (suc n) i
      by (yes l) earlier =
          let f = earlier l in
          record { row = f.row; place = f.place; row_lt = omega arith; inside = f.inside; is = f.is }
      by (no l) earlier =
          record {
            row = n;
            place = i - length (edges_by_row g n);
            row_lt = omega arith;
            inside = omega (arith, length-append (edges_by_row g n) (row_edges g n));
            is = omega arith;
          }

  pub by_row_entry : (n i : ℕ) → i < length (edges_by_row g n) → get_or (edges_by_row g n) i 0 < edges g
  by_row_entry n i h =
      let f = by_row_from n i h in
      rw (← f.is, by_row_at n f.row f.place f.row_lt f.inside) (row_entry f.row f.place f.inside).edge_lt

  -- where base edge b stands: after the rows before its own, and those of its row before it
  abbrev pub edge_place : ℕ → ℕ
  edge_place b = length (edges_by_row g (edge_row g b)) + count (of_row (edge_row g b)) b

  module _ (n b : ℕ) (h : b < edges g) (row_lt : edge_row g b < n) where
    pub place_lt : edge_place b < length (edges_by_row g n)
    place_lt = by_row_lt n (edge_row g b) (count (of_row (edge_row g b)) b) row_lt (row_rank_lt (edge_row g b) b h refl)

    pub place_holds : get_or (edges_by_row g n) (edge_place b) 0 ≡ b
    place_holds =
        by_row_at n (edge_row g b) (count (of_row (edge_row g b)) b) row_lt (row_rank_lt (edge_row g b) b h refl)
        ∙ row_rank (edge_row g b) b h refl

  -- and nowhere else
  pub place_only : (n b i : ℕ) → i < length (edges_by_row g n) → get_or (edges_by_row g n) i 0 ≡ b → i ≡ edge_place b
  place_only n b i h e =
      let f = by_row_from n i h in
      let E = row_entry f.row f.place f.inside in
      let same : get_or (row_edges g f.row) f.place 0 ≡ b =
      sym (by_row_at n f.row f.place f.row_lt f.inside) ∙ ap (λ (j : ℕ). get_or (edges_by_row g n) j 0) f.is ∙ e in
      sym f.is ∙ (rw (rw same at E.row, ← rw same at E.rank))
