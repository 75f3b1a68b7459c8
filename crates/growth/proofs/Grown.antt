-- Growth gives three different rows below m to each column; and the lists that a loop keeps beside it. Assumes nothing.
use mathlib.Core.Path.{◌≡◌, refl, sym, ap, ◌∙◌, subst}
use mathlib.Core.Bool.{false, not, ◌||◌}
use mathlib.Core.List.{List, [], ◌∷◌, ◌++◌}
use Prim.Native.Nat.{ℕ, zero, suc, ◌+◌, ◌*◌, ◌/◌, ◌%◌, ◌<◌, ◌≤◌}
use native.Mathlib.Omega.{arith}
use native.Mathlib.Numerals.{add-one}
use native.Mathlib.Decide.{ℕ_discrete}
use lib.Dec.{eqb}
use lib.ListN.{length, get_or, set, length-set, get_or-append}
use lib.Seq.{get_or-set_same, get_or-set_other, get_or_at, ext_get_or}
use borrow.Author.Tests.{lt-leb, lt-ltb, ne_eqb, not-true}
use Rattle.std.specs.Prelude.{Option, Some}
use Rattle.columns.specs.Found.{below}
use Rattle.laws.specs.Columns.{faulty}
use Rattle.laws.proofs.Collect.{count_most}
use Rattle.laws.proofs.Foremost.{Lead, by_keys, lead_some}
use Rattle.laws.proofs.Some.{some_none, some_ext}
use Rattle.growth.specs.declared.rows.RowSet.{RowSet}
use Rattle.growth.specs.Growth.{joins, shares, taken, distance, edges_on, ahead_by, next_row, grown, rows_of}
use Rattle.growth.specs.Search.{meets, begun, joined, paired, chosen}
use Rattle.growth.proofs.Chosen.{chosen_is}
use Rattle.growth.proofs.Added.{length_more, taken_begun, edges_more, edges_same, shares_more}

pub length_grown : (m k n : ℕ) → length (grown m k n) ≡ n
unfolding grown
length_grown m k zero = refl
length_grown m k (suc n) =
    length_more (grown m k n) (next_row m k (grown m k n)) ∙ ap (λ x. x + 1) (length_grown m k n) ∙ add-one n

-- one of three numbers is neither a nor b
record Spare (a b : ℕ) : Type 0 where
  at : ℕ
  low : at < 3
  left : a ≡ at → ⊥
  right : b ≡ at → ⊥

spare : (a b : ℕ) → Spare a b
spare a b = by (ℕ_discrete a 0) (ℕ_discrete b 0) (ℕ_discrete a 1) (ℕ_discrete b 1)
  where
    by : Dec (a ≡ 0) → Dec (b ≡ 0) → Dec (a ≡ 1) → Dec (b ≡ 1) → Spare a b
    by (no p) (no q) r s = record { at = 0; low = omega arith; left = p; right = q }
    by (yes p) q r (no s) = record { at = 1; low = omega arith; left = λ e. omega arith; right = s }
    by (yes p) q r (yes s) = record { at = 2; low = omega arith; left = λ e. omega arith; right = λ e. omega arith }
    by (no p) (yes q) (no r) s = record { at = 1; low = omega arith; left = r; right = λ e. omega arith }
    by (no p) (yes q) (yes r) s = record { at = 2; low = omega arith; left = λ e. omega arith; right = λ e. omega arith }

-- the next row is one of the m, and not taken
module _ (m k : ℕ) (rows : List ℕ) (size : 3 ≤ m) where
  free : (r : ℕ) → (get_or rows (3 * (length rows / 3) + 0) 0 ≡ r → ⊥) → (get_or rows (3 * (length rows / 3) + 1) 0 ≡ r → ⊥)
      → taken m k rows r ≡ false
  unfolding begun
  free r f g =
      taken_begun m k rows r
      ∙ some_none (λ e. eqb (get_or rows (3 * (length rows / 3) + e) 0) r) (length rows % 3) (λ e h. at e h)
    where
      at : (e : ℕ) → e < length rows % 3 → eqb (get_or rows (3 * (length rows / 3) + e) 0) r ≡ false
      at zero h = ne_eqb (get_or rows (3 * (length rows / 3) + 0) 0) r f
      at (suc zero) h = ne_eqb (get_or rows (3 * (length rows / 3) + 1) 0) r g
      at (suc (suc e)) h = absurd (omega arith)

  leads : Lead (λ r. not (taken m k rows r)) (ahead_by (distance m k rows) (edges_on m k rows)) m (next_row m k rows)
  unfolding next_row
  leads =
      let s = spare (get_or rows (3 * (length rows / 3) + 0) 0) (get_or rows (3 * (length rows / 3) + 1) 0) in
      lead_some (λ r. not (taken m k rows r)) (ahead_by (distance m k rows) (edges_on m k rows)) (by_keys (distance m k rows) (edges_on m k rows)) m s.at
      (omega (arith, s.low)) (rw (free s.at s.left s.right))

  pub next_low : next_row m k rows < m
  next_low = leads.below

  pub next_free : taken m k rows (next_row m k rows) ≡ false
  next_free = not-true (taken m k rows (next_row m k rows)) leads.has

-- lists that agree up to a place are faulty there alike
faulty_ext : (m : ℕ) (rows rows' : List ℕ) (p : ℕ) → ((j : ℕ) → j ≤ p → get_or rows j 0 ≡ get_or rows' j 0) → faulty m rows p ≡ faulty m rows' p
unfolding faulty
faulty_ext m rows rows' p e =
    rw (
      e p (omega arith),
      some_ext (λ i. eqb (get_or rows (3 * (p / 3) + i) 0) (get_or rows' p 0)) (λ i. eqb (get_or rows' (3 * (p / 3) + i) 0) (get_or rows' p 0)) (p % 3)
          (λ i h. rw (e (3 * (p / 3) + i) (omega arith))),
    )

begun_ext : (rows rows' : List ℕ) (p r : ℕ) → ((j : ℕ) → j < p → get_or rows j 0 ≡ get_or rows' j 0) → begun rows p r ≡ begun rows' p r
unfolding begun
begun_ext rows rows' p r e =
    some_ext (λ i. eqb (get_or rows (3 * (p / 3) + i) 0) r) (λ i. eqb (get_or rows' (3 * (p / 3) + i) 0) r) (p % 3)
    (λ i h. rw (e (3 * (p / 3) + i) (omega arith)))

taken_grown : (m k n r : ℕ) → taken m k (grown m k n) r ≡ begun (grown m k n) n r
taken_grown m k n r = taken_begun m k (grown m k n) r ∙ ap (λ x. begun (grown m k n) x r) (length_grown m k n)

-- a row that is below m and not taken is not faulty
faulty_last : (m : ℕ) (rows : List ℕ) (n x : ℕ) → length rows ≡ n → x < m → begun rows n x ≡ false → faulty m (rows ++ (x ∷ [])) n ≡ false
unfolding faulty begun
faulty_last m rows n x e low f =
    rw (
      get_or_at rows x [] 0 n e,
      lt-leb m x low,
      some_ext (λ i. eqb (get_or (rows ++ (x ∷ [])) (3 * (n / 3) + i) 0) x) (λ i. eqb (get_or rows (3 * (n / 3) + i) 0) x) (n % 3)
          (λ i h. rw (get_or-append rows (x ∷ []) 0 (3 * (n / 3) + i) (omega arith))),
    )
    f

-- growth always gives three different rows below m
pub grown_sound : (m k : ℕ) → 3 ≤ m → (p n : ℕ) → p < n → faulty m (grown m k n) p ≡ false
unfolding grown
grown_sound m k size p zero h = absurd (omega arith)
grown_sound m k size p (suc n) h = by (ℕ_discrete p n) (grown_sound m k size p n)
  where
    x : ℕ
    x = next_row m k (grown m k n)

    by : Dec (p ≡ n) → (p < n → faulty m (grown m k n) p ≡ false) → faulty m (grown m k n ++ (x ∷ [])) p ≡ false
    by (yes e) earlier =
        rw e
        (faulty_last m (grown m k n) n x (length_grown m k n) (next_low m k (grown m k n) size)
        (sym (taken_grown m k n x) ∙ next_free m k (grown m k n) size))
    by (no e) earlier =
        faulty_ext m (grown m k n ++ (x ∷ [])) (grown m k n) p
        (λ j l. get_or-append (grown m k n) (x ∷ []) 0 j (omega (arith, length_grown m k n)))
        ∙ earlier (omega arith)

-- before place p: its rows, the rows that share a column, and each row's edges
pub record Growing (m k : ℕ) (rows : List ℕ) (near : List RowSet) (degree : List ℕ) (p : ℕ) : Type 0 where
  pub turn : p ≤ 3 * k
  pub long : length rows ≡ 3 * k
  pub wide : length near ≡ 64
  pub deep : length degree ≡ 64
  pub rows_at : (j : ℕ) → j < p → get_or rows j 0 ≡ get_or (grown m k p) j 0
  pub near_at : (q r : ℕ) → q < m → r < m → meets near q r ≡ shares m k (grown m k p) q r
  pub degree_at : (r : ℕ) → r < m → get_or degree r 0 ≡ edges_on m k (grown m k p) r

pub growing_first : {m k : ℕ} {rows degree : List ℕ} {near : List RowSet} → length rows ≡ 3 * k → length near ≡ 64 → length degree ≡ 64
    → ((q r : ℕ) → q < m → r < m → meets near q r ≡ shares m k [] q r) → ((r : ℕ) → r < m → get_or degree r 0 ≡ edges_on m k [] r)
    → Growing m k rows near degree 0
unfolding grown
growing_first a b c e f =
    record { turn = omega arith; long = a; wide = b; deep = c; rows_at = λ j h. absurd (omega arith); near_at = e; degree_at = f }

module _ {m k : ℕ} {rows degree : List ℕ} {near : List RowSet} {p : ℕ} (size : 3 ≤ m) (G : Growing m k rows near degree p) where
  pub growing_good : (j : ℕ) → j < p → faulty m rows j ≡ false
  growing_good j h = faulty_ext m rows (grown m k p) j (λ i l. G.rows_at i (omega arith)) ∙ grown_sound m k size j p h

  pub growing_row : chosen m near degree rows p ≡ next_row m k (grown m k p)
  growing_row =
      chosen_is m k (grown m k p) near degree rows p G.near_at G.degree_at
      (λ r h. begun_ext rows (grown m k p) p r G.rows_at ∙ sym (taken_grown m k p r))

  module _ {x : ℕ} (next : x ≡ chosen m near degree rows p) where
    is_next : x ≡ next_row m k (grown m k p)
    is_next = next ∙ growing_row

    pub growing_low : x < m
    growing_low = rw is_next (next_low m k (grown m k p) size)

    -- so there is one to choose
    pub growing_some : below m (chosen m near degree rows p) ≡ Some x
    growing_some = rw (← next, lt-ltb x m growing_low)

    pub growing_few : get_or degree x 0 ≤ k + m
    unfolding edges_on
    growing_few = rw (G.degree_at x growing_low) (count_most (λ c. joins m k (grown m k p) c x) (k + m))

    grown_next : grown m k (p + 1) ≡ grown m k p ++ (x ∷ [])
    unfolding grown
    grown_next = rw (add-one, is_next)

    joined_same : (q s : ℕ) → joined rows p (p % 3) x q s
        ≡ joined (grown m k p) (length (grown m k p)) (length (grown m k p) % 3) x q s
    unfolding joined
    joined_same q s =
        rw (length_grown m k p)
        (some_ext (λ e. paired (get_or rows (3 * (p / 3) + e) 0) x q s) (λ e. paired (get_or (grown m k p) (3 * (p / 3) + e) 0) x q s) (p % 3)
        (λ e h. rw (G.rows_at (3 * (p / 3) + e) (omega arith))))

    pub growing_next : {near' : List RowSet} → p < 3 * k → m ≤ 64 → length near' ≡ 64
        → ((q s : ℕ) → q < 64 → s < 64 → meets near' q s ≡ (meets near q s || joined rows p (p % 3) x q s))
        → Growing m k (set rows p x) near' (set degree x (get_or degree x 0 + 1)) (p + 1)
    growing_next {near'} h fits wide e =
        record {
          turn = omega arith;
          long = length-set rows p x ∙ G.long;
          wide = wide;
          deep = length-set degree x (get_or degree x 0 + 1) ∙ G.deep;
          rows_at = λ j l. rw grown_next (row j l (ℕ_discrete j p));
          near_at = λ q s l u.
              e q s (omega arith) (omega arith)
              ∙ (rw (G.near_at q s l u, joined_same q s, grown_next) (sym (shares_more m k (grown m k p) x space growing_low q s)));
          degree_at = λ r l. rw grown_next (edges r l (ℕ_discrete r x));
        }
      where
        space : length (grown m k p) < 3 * k
        space = omega (arith, length_grown m k p)

        row : (j : ℕ) → j < p + 1 → Dec (j ≡ p) → get_or (set rows p x) j 0 ≡ get_or (grown m k p ++ (x ∷ [])) j 0
        row j l (yes q) =
            rw q (get_or-set_same rows p x 0 (omega (arith, G.long)) ∙ sym (get_or_at (grown m k p) x [] 0 p (length_grown m k p)))
        row j l (no q) =
            get_or-set_other rows p j x 0 q
            ∙ G.rows_at j (omega arith)
            ∙ sym (get_or-append (grown m k p) (x ∷ []) 0 j (omega (arith, length_grown m k p)))

        edges : (r : ℕ) → r < m → Dec (r ≡ x) → get_or (set degree x (get_or degree x 0 + 1)) r 0 ≡ edges_on m k (grown m k p ++ (x ∷ [])) r
        edges r l (yes q) =
            rw (
              q,
              get_or-set_same degree x (get_or degree x 0 + 1) 0 (omega (arith, growing_low, G.deep)),
              G.degree_at x growing_low,
              edges_more m k (grown m k p) x space (rw is_next (next_free m k (grown m k p) size)),
            )
        edges r l (no q) =
            get_or-set_other degree x r (get_or degree x 0 + 1) 0 q ∙ G.degree_at r l ∙ sym (edges_same m k (grown m k p) x space r q)

  pub growing_next_row : {x : ℕ} {o : Option ℕ} → o ≡ Some x → o ≡ below m (chosen m near degree rows p) → x ≡ chosen m near degree rows p
  growing_next_row e f = let some = growing_some refl in cc

  pub growing_end : 3 * k ≤ p → rows ≡ rows_of m k
  unfolding rows_of
  growing_end h =
      let e : p ≡ 3 * k = omega (arith, G.turn) in
      ext_get_or 0 rows (grown m k (3 * k)) (G.long ∙ sym (length_grown m k (3 * k)))
      (λ i l. subst (λ y. get_or rows i 0 ≡ get_or (grown m k y) i 0) e (G.rows_at i (omega (arith, G.long))))
