-- A check's list has exactly the transmitted bits that the matrix joins to it, each once, in edge order;
-- and the places lie in the transmitted word. Assumes nothing.
use mathlib.Core.Path.{◌≡◌, refl, sym, ap, ◌∙◌}
use mathlib.Core.Bool.{Bool, true, ◌&&◌, and-eq-true_iff}
use Prim.Native.Nat.{ℕ, ◌+◌, ◌*◌, ◌/◌, ◌%◌, ◌-◌, ◌<◌, ◌≤◌}
use native.Mathlib.Omega.{arith}
use native.Mathlib.Decide.{dec_lt}
use lib.Dec.{eqb}
use lib.ListN.{length, get_or}
use borrow.Author.Tests.{lt-ltb, le-ltb, leb-true, eq-eqb, eqb-true}
use Rattle.laws.specs.Range.{count}
use Rattle.laws.proofs.Collect.{Place, count_rises, collect_from, collect_has, collect_once}
use Rattle.tables.specs.declared.BaseGraph.{BaseGraph}
use Rattle.matrix.specs.Edges.{edges, edge_row, bit_at}
use Rattle.matrix.specs.Checks.{Joins, is_sent, place_of, members_of}
use Rattle.matrix.proofs.Edges.{bit_column, bit_lt}
use Rattle.matrix.proofs.Simple.{Simple}

-- where a sent bit stands
module _ (k info v : ℕ) where
  pub place_low : v < k → place_of k info v ≡ v
  unfolding place_of
  place_low h = rw (lt-ltb v k h)

  pub place_high : k ≤ v → place_of k info v ≡ k + (v - info)
  unfolding place_of
  place_high h = rw (le-ltb v k h)

  pub sent_high : is_sent k info v ≡ true → k ≤ v → info ≤ v
  unfolding is_sent
  sent_high e h = leb-true info v (rw (le-ltb v k h) at e)

-- no two sent bits stand at one place
pub place_once : (k info v v' : ℕ) → is_sent k info v ≡ true → is_sent k info v' ≡ true → place_of k info v ≡ place_of k info v'
    → v ≡ v'
place_once k info v v' t t' e = by (dec_lt v k) (dec_lt v' k)
  where
    by : Dec (v < k) → Dec (v' < k) → v ≡ v'
    by (yes h) (yes h') = omega (arith, place_low k info v h, place_low k info v' h')
    by (yes h) (no h') = omega (arith, place_low k info v h, place_high k info v' (omega arith))
    by (no h) (yes h') = omega (arith, place_high k info v (omega arith), place_low k info v' h')
    by (no h) (no h') =
        let l : k ≤ v = omega arith in
        let l' : k ≤ v' = omega arith in
        omega (arith, place_high k info v l, place_high k info v' l', sent_high k info v t l, sent_high k info v' t' l')

-- and the places end where the parity columns do
pub place_lt : (k info v w : ℕ) → is_sent k info v ≡ true → v < info + w → place_of k info v < k + w
place_lt k info v w t h = by (dec_lt v k)
  where
    by : Dec (v < k) → place_of k info v < k + w
    by (yes l) = omega (arith, place_low k info v l)
    by (no l) = omega (arith, place_high k info v (omega arith), sent_high k info v t (omega arith))

-- the place i of a check's list stands for a sent bit that the matrix joins to the check
pub record Member (g : BaseGraph) (z k info s i : ℕ) : Type 0 where
  pub bit : ℕ
  pub joins : Joins g z s bit
  pub sent : is_sent k info bit ≡ true
  pub place : place_of k info bit ≡ get_or (members_of g z k info s) i 0

module _ (g : BaseGraph) (z k info s : ℕ) where
  -- whether base edge b gives a member, and the place of its bit
  abbrev given : ℕ → Bool
  given b = eqb (edge_row g b) (s / z) && is_sent k info (bit_at g z b (s % z))

  abbrev place : ℕ → ℕ
  place b = place_of k info (bit_at g z b (s % z))

  row_of : (b : ℕ) → given b ≡ true → edge_row g b ≡ s / z
  row_of b e = eqb-true _ _ ((and-eq-true_iff _ _).0 e).0

  sent_of : (b : ℕ) → given b ≡ true → is_sent k info (bit_at g z b (s % z)) ≡ true
  sent_of b e = ((and-eq-true_iff (eqb (edge_row g b) (s / z)) _).0 e).1

  pub members_sound : (i : ℕ) → i < length (members_of g z k info s) → Member g z k info s i
  unfolding members_of
  members_sound i h =
      let r = collect_from given place 0 (edges g) i h in
      record {
        bit = bit_at g z r.number (s % z);
        joins = record { edge = r.number; edge_lt = r.below; row = row_of r.number r.has; bit = refl };
        sent = sent_of r.number r.has;
        place = r.is;
      }

  given_of : (v : ℕ) (j : Joins g z s v) → is_sent k info v ≡ true → given j.edge ≡ true
  given_of v j t = rw (eq-eqb (edge_row g j.edge) (s / z) j.row, j.bit) t

  pub members_complete : (v : ℕ) → Joins g z s v → is_sent k info v ≡ true → Place 0 (members_of g z k info s) (place_of k info v)
  unfolding members_of
  members_complete v j t = rw (← j.bit) (collect_has given place 0 (edges g) j.edge j.edge_lt (given_of v j t))

  -- one base edge alone joins a check to a bit: the bit tells the column
  apart : Simple g → 0 < z → (b b' : ℕ) → b < edges g → b' < edges g → given b ≡ true → given b' ≡ true
      → place b ≡ place b' → b ≡ b'
  apart simple lift b b' h h' t t' e =
      let same = place_once k info (bit_at g z b (s % z)) (bit_at g z b' (s % z)) (sent_of b t) (sent_of b' t') e in
      simple.once b b' h h' (row_of b t ∙ sym (row_of b' t'))
      (sym (bit_column g z b (s % z) lift) ∙ ap (λ (v : ℕ). v / z) same ∙ bit_column g z b' (s % z) lift)

  pub members_once : Simple g → 0 < z → (i j : ℕ) → i < length (members_of g z k info s) → j < length (members_of g z k info s)
      → get_or (members_of g z k info s) i 0 ≡ get_or (members_of g z k info s) j 0 → i ≡ j
  unfolding members_of
  members_once simple lift = collect_once given place 0 (edges g) (apart simple lift)

  -- the index of a member says how many members' edges come before its own
  rank : Simple g → 0 < z → (i : ℕ) → i < length (members_of g z k info s) → (m : Member g z k info s i)
      → count given m.joins.edge ≡ i
  unfolding members_of
  rank simple lift i h m =
      let r = collect_from given place 0 (edges g) i h in
      let has = given_of m.bit m.joins m.sent in
      let here = ap (place_of k info) m.joins.bit ∙ m.place ∙ sym r.is in
      ap (count given) (apart simple lift m.joins.edge r.number m.joins.edge_lt r.below has r.has here) ∙ r.rank

  -- the members stand in edge order
  pub members_rise : Simple g → 0 < z → (i j : ℕ) → i < length (members_of g z k info s) → j < length (members_of g z k info s)
      → (m : Member g z k info s i) (m' : Member g z k info s j) → i < j → m.joins.edge < m'.joins.edge
  members_rise simple lift i j h h' m m' l =
      count_rises given m.joins.edge m'.joins.edge (given_of m'.bit m'.joins m'.sent)
      (omega (arith, rank simple lift i h m, rank simple lift j h' m'))

  pub members_lt : Simple g → 0 < z → info ≡ g.shape.k_b * z → g.shape.n_b ≡ g.shape.k_b + g.shape.m_b
      → (i : ℕ) → i < length (members_of g z k info s) → get_or (members_of g z k info s) i 0 < k + g.shape.m_b * z
  members_lt simple lift start columns i h =
      let m = members_sound i h in
      let e = m.joins.edge in
      let below = bit_lt g z e (s % z) lift g.shape.n_b (simple.column_lt e m.joins.edge_lt) in
      let wide = ap (λ (n : ℕ). n * z) columns in
      rw (← m.place) (place_lt k info m.bit (g.shape.m_b * z) m.sent (omega arith))
