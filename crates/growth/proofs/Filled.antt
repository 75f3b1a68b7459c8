-- Which rows share a column: by the parity columns alone, and with one pair more. Assumes nothing.
use mathlib.Core.Path.{◌≡◌, refl, sym, ap, ◌∙◌}
use mathlib.Core.Bool.{Bool, ◌&&◌, ◌||◌, or-false, or_assoc}
use mathlib.Core.List.{List}
use Prim.Native.Nat.{ℕ, ◌+◌, ◌*◌, ◌/◌, ◌<◌}
use native.Mathlib.Omega.{arith}
use native.Mathlib.Numerals.{add-one}
use native.Mathlib.Decide.{ℕ_discrete}
use lib.Dec.{eqb}
use lib.ListN.{length, get_or, set, length-set}
use lib.Seq.{get_or-set_same, get_or-set_other}
use borrow.Author.Tests.{eq-eqb, ne_eqb}
use Rattle.laws.specs.Range.{some}
use Rattle.growth.specs.declared.rows.RowSet.{RowSet}
use Rattle.growth.specs.Rows.{has}
use Rattle.growth.specs.Search.{meets, beside, parity_edges, paired, joined}

-- row a's set has b besides
set_meets : (l : List RowSet) (a b : ℕ) (rows : RowSet) → a < length l → ((t : ℕ) → has rows t ≡ (meets l a t || eqb t b)) → (s t : ℕ)
    → meets (set l a rows) s t ≡ (meets l s t || eqb s a && eqb t b)
set_meets l a b rows h e s t = by (ℕ_discrete s a)
  where
    by : Dec (s ≡ a) → meets (set l a rows) s t ≡ (meets l s t || eqb s a && eqb t b)
    by (yes q) = rw (q, get_or-set_same l a rows (record { bits = 0 }) h, eq-eqb a a refl) (e t)
    by (no q) = rw (get_or-set_other l a s rows (record { bits = 0 }) q, ne_eqb s a q) (sym (or-false (meets l s t)))

-- rows a and b have each other besides
pub paired_set : (l : List RowSet) (a b : ℕ) (rows rows' : RowSet) → length l ≡ 64 → a < 64 → b < 64
    → ((t : ℕ) → has rows t ≡ (meets l a t || eqb t b)) → ((t : ℕ) → has rows' t ≡ (meets (set l a rows) b t || eqb t a)) → (s t : ℕ)
    → meets (set (set l a rows) b rows') s t ≡ (meets l s t || paired a b s t)
unfolding paired
paired_set l a b rows rows' long h k e f s t =
    set_meets (set l a rows) b a rows' (omega (arith, length-set l a rows)) f s t
    ∙ ap (λ (u : Bool). u || eqb s b && eqb t a) (set_meets l a b rows (omega arith) e s t)
    ∙ or_assoc (meets l s t) (eqb s a && eqb t b) (eqb s b && eqb t a)

-- x is joined with the first n rows of place p's column
pub record Joining (rows : List ℕ) (p x : ℕ) (near : List RowSet) (n : ℕ) (near' : List RowSet) : Type 0 where
  pub at : (q s : ℕ) → meets near' q s ≡ (meets near q s || joined rows p n x q s)

module _ {rows : List ℕ} {p x : ℕ} {near : List RowSet} where
  pub joining_first : Joining rows p x near 0 near
  unfolding joined some
  joining_first = record { at = λ q s. sym (or-false (meets near q s)) }

  pub joining_next : {n : ℕ} {near' near'' : List RowSet} → Joining rows p x near n near' → (a : ℕ) → a ≡ get_or rows (3 * (p / 3) + n) 0
      → ((q s : ℕ) → meets near'' q s ≡ (meets near' q s || paired a x q s)) → Joining rows p x near (n + 1) near''
  unfolding joined some
  joining_next {n} {near'} {near''} J a e f =
      record {
        at = λ q s. f q s ∙ rw (J.at q s, add-one n, ← e) (or_assoc (meets near q s) (joined rows p n x q s) (paired a x q s));
      }

-- what the parity columns give of one row more
pub filled_near : (m : ℕ) (near : List RowSet) (q : ℕ) (rows : RowSet) → q < length near
    → ((k r : ℕ) → k < q → r < m → meets near k r ≡ beside m k r) → ((r : ℕ) → r < m → has rows r ≡ beside m q r) → (k r : ℕ) → k < q + 1 → r < m
    → meets (set near q rows) k r ≡ beside m k r
filled_near m near q rows h earlier here k r l u = by (ℕ_discrete k q)
  where
    by : Dec (k ≡ q) → meets (set near q rows) k r ≡ beside m k r
    by (yes e) = rw (e, get_or-set_same near q rows (record { bits = 0 }) h) (here r u)
    by (no n) = rw (get_or-set_other near q k rows (record { bits = 0 }) n) (earlier k r (omega arith) u)

pub filled_degree : (m : ℕ) (degree : List ℕ) (q edges : ℕ) → q < length degree → ((k : ℕ) → k < q → get_or degree k 0 ≡ parity_edges m k)
    → edges ≡ parity_edges m q → (k : ℕ) → k < q + 1 → get_or (set degree q edges) k 0 ≡ parity_edges m k
filled_degree m degree q edges h earlier here k l = by (ℕ_discrete k q)
  where
    by : Dec (k ≡ q) → get_or (set degree q edges) k 0 ≡ parity_edges m k
    by (yes e) = rw (e, get_or-set_same degree q edges 0 h) here
    by (no n) = get_or-set_other degree q k edges 0 n ∙ earlier k (omega arith)
