-- One row more: what it adds to a column, to the edges of a row, and to the rows that share a column. Assumes nothing.
use mathlib.Core.Path.{◌≡◌, refl, sym, ◌∙◌, subst}
use mathlib.Core.Logic.{⊎_elim}
use mathlib.Core.Bool.{Bool, true, false, ◌&&◌, ◌||◌, or-false}
use mathlib.Core.List.{List, [], ◌∷◌, ◌++◌}
use Prim.Native.Nat.{ℕ, ◌+◌, ◌*◌, ◌/◌, ◌%◌, ◌-◌, ◌<◌}
use native.Mathlib.Omega.{arith}
use native.Mathlib.Decide.{dec_lt}
use lib.Dec.{ltb, eqb}
use lib.ListN.{length, get_or, length-append, get_or-append}
use lib.Seq.{get_or-append_seam}
use borrow.Author.Tests.{lt-ltb, le-ltb, eq-eqb, ne_eqb, eqb-true, ltb-true}
use Rattle.laws.specs.Range.{some}
use Rattle.laws.specs.Columns.{has_row}
use Rattle.laws.proofs.Range.{count_ext}
use Rattle.std.proofs.lemmas.Bool.{and_parts, and_right, or_cases, or_left, or_right}
use Rattle.laws.proofs.Some.{alike, some_from, some_has, count_one}
use Rattle.growth.specs.Growth.{parity_has, joins, edges_on, shares, taken}
use Rattle.growth.specs.Search.{begun, paired, joined}
use Rattle.growth.proofs.Parity.{self_shares}

-- column c holds row r at its entry e
pub record Held (rows : List ℕ) (c r : ℕ) : Type 0 where
  pub entry : ℕ
  pub third : entry < 3
  pub inside : 3 * c + entry < length rows
  pub holds : get_or rows (3 * c + entry) 0 ≡ r

abbrev holds_at : List ℕ → ℕ → ℕ → ℕ → Bool
holds_at rows c r e = ltb (3 * c + e) (length rows) && eqb (get_or rows (3 * c + e) 0) r

pub held : (rows : List ℕ) (c r : ℕ) → has_row rows c r ≡ true → Held rows c r
unfolding has_row
held rows c r t =
    let s = some_from (holds_at rows c r) 3 t in
    let b = and_parts (ltb (3 * c + s.at) (length rows)) (eqb (get_or rows (3 * c + s.at) 0) r) s.has in
    record {
      entry = s.at;
      third = s.below;
      inside = ltb-true (3 * c + s.at) (length rows) b.0;
      holds = eqb-true (get_or rows (3 * c + s.at) 0) r b.1;
    }

pub has_held : (rows : List ℕ) (c r : ℕ) → Held rows c r → has_row rows c r ≡ true
unfolding has_row
has_held rows c r H =
    let e = H.entry in
    some_has (holds_at rows c r) 3 e H.third
    (rw (lt-ltb (3 * c + e) (length rows) H.inside, eq-eqb (get_or rows (3 * c + e) 0) r H.holds))

-- the rows taken are those before place p in its column
pub taken_begun : (m k : ℕ) (rows : List ℕ) (r : ℕ) → taken m k rows r ≡ begun rows (length rows) r
unfolding taken begun
taken_begun m k rows r = alike (has_row rows (length rows / 3) r) (begun rows (length rows) r) there back
  where
    row : ℕ → ℕ
    row e = get_or rows (3 * (length rows / 3) + e) 0

    there : has_row rows (length rows / 3) r ≡ true → some (λ e. eqb (row e) r) (length rows % 3) ≡ true
    there t =
        let H = held rows (length rows / 3) r t in
        some_has (λ e. eqb (row e) r) (length rows % 3) H.entry (omega (arith, H.inside)) (eq-eqb (row H.entry) r H.holds)

    back : some (λ e. eqb (row e) r) (length rows % 3) ≡ true → has_row rows (length rows / 3) r ≡ true
    back t =
        let s = some_from (λ e. eqb (row e) r) (length rows % 3) t in
        let l = s.below in
        has_held rows (length rows / 3) r
        (record { entry = s.at; third = omega arith; inside = omega arith; holds = eqb-true (row s.at) r s.has })

module _ (rows : List ℕ) (x : ℕ) where
  pub length_more : length (rows ++ (x ∷ [])) ≡ length rows + 1
  length_more = length-append rows (x ∷ [])

  -- what column c has with x: what it had, and x if it is x's column
  has_more : (c r : ℕ) → has_row (rows ++ (x ∷ [])) c r ≡ (has_row rows c r || eqb c (length rows / 3) && eqb x r)
  has_more c r = alike (has_row (rows ++ (x ∷ [])) c r) (has_row rows c r || eqb c (length rows / 3) && eqb x r) there back
    where
      there : has_row (rows ++ (x ∷ [])) c r ≡ true → (has_row rows c r || eqb c (length rows / 3) && eqb x r) ≡ true
      there t = by (held (rows ++ (x ∷ [])) c r t)
        where
          by : Held (rows ++ (x ∷ [])) c r → (has_row rows c r || eqb c (length rows / 3) && eqb x r) ≡ true
          by H = at (dec_lt (3 * c + H.entry) (length rows))
            where
              at : Dec (3 * c + H.entry < length rows) → (has_row rows c r || eqb c (length rows / 3) && eqb x r) ≡ true
              at (yes l) =
                  or_left (has_row rows c r) (eqb c (length rows / 3) && eqb x r)
                  (has_held rows c r
                  (record {
                    entry = H.entry;
                    third = H.third;
                    inside = l;
                    holds = sym (get_or-append rows (x ∷ []) 0 (3 * c + H.entry) l) ∙ H.holds;
                  }))
              at (no l) =
                  let e : 3 * c + H.entry ≡ length rows = omega (arith, H.inside, length_more) in
                  let d : c ≡ length rows / 3 = omega (arith, H.third) in
                  let y : x ≡ r = sym (get_or-append_seam rows x [] 0) ∙ (rw e at H.holds) in
                  or_right (has_row rows c r) (eqb c (length rows / 3) && eqb x r) (rw (eq-eqb c (length rows / 3) d, eq-eqb x r y))

      back : (has_row rows c r || eqb c (length rows / 3) && eqb x r) ≡ true → has_row (rows ++ (x ∷ [])) c r ≡ true
      back t = ⊎_elim old new (or_cases (has_row rows c r) (eqb c (length rows / 3) && eqb x r) t)
        where
          old : has_row rows c r ≡ true → has_row (rows ++ (x ∷ [])) c r ≡ true
          old u =
              let H = held rows c r u in
              has_held (rows ++ (x ∷ [])) c r
              (record {
                entry = H.entry;
                third = H.third;
                inside = omega (arith, H.inside, length_more);
                holds = get_or-append rows (x ∷ []) 0 (3 * c + H.entry) H.inside ∙ H.holds;
              })

          new : (eqb c (length rows / 3) && eqb x r) ≡ true → has_row (rows ++ (x ∷ [])) c r ≡ true
          new u =
              let b = and_parts (eqb c (length rows / 3)) (eqb x r) u in
              let d = eqb-true c (length rows / 3) b.0 in
              let e : 3 * c + length rows % 3 ≡ length rows = omega arith in
              has_held (rows ++ (x ∷ [])) c r
              (record {
                entry = length rows % 3;
                third = omega arith;
                inside = omega (arith, length_more);
                holds = rw e (get_or-append_seam rows x [] 0 ∙ eqb-true x r b.1);
              })

module _ (m k : ℕ) (rows : List ℕ) (x : ℕ) (space : length rows < 3 * k) where
  joins_more : (c r : ℕ) → joins m k (rows ++ (x ∷ [])) c r ≡ (joins m k rows c r || eqb c (length rows / 3) && eqb x r)
  unfolding joins
  joins_more c r = by (dec_lt c k)
    where
      by : Dec (c < k) → joins m k (rows ++ (x ∷ [])) c r ≡ (joins m k rows c r || eqb c (length rows / 3) && eqb x r)
      by (yes l) = rw (lt-ltb c k l) (has_more rows x c r)
      by (no l) =
          rw (le-ltb c k (omega arith), ne_eqb c (length rows / 3) (λ e. omega arith)) (sym (or-false (parity_has m (c - k) r)))

  -- in x's column, a row is taken or it is not there
  joins_taken : (r : ℕ) → joins m k rows (length rows / 3) r ≡ taken m k rows r
  unfolding joins taken
  joins_taken r = rw (lt-ltb (length rows / 3) k (omega arith))

  -- x has one edge more, if it was not taken, and no other row has
  pub edges_more : taken m k rows x ≡ false → edges_on m k (rows ++ (x ∷ [])) x ≡ edges_on m k rows x + 1
  unfolding edges_on
  edges_more free =
      count_one (λ c. joins m k rows c x) (λ c. joins m k (rows ++ (x ∷ [])) c x) (k + m) (length rows / 3) (omega arith)
      (joins_taken x ∙ free)
      (joins_more (length rows / 3) x
      ∙ or_right (joins m k rows (length rows / 3) x) (eqb (length rows / 3) (length rows / 3) && eqb x x)
      (rw (eq-eqb (length rows / 3) (length rows / 3) refl, eq-eqb x x refl)))
      (λ c h w. joins_more c x ∙ (rw (ne_eqb c (length rows / 3) w) (or-false (joins m k rows c x))))

  pub edges_same : (r : ℕ) → (r ≡ x → ⊥) → edges_on m k (rows ++ (x ∷ [])) r ≡ edges_on m k rows r
  unfolding edges_on
  edges_same r w =
      count_ext (λ c. joins m k (rows ++ (x ∷ [])) c r) (λ c. joins m k rows c r) (k + m)
      (λ c h.
      joins_more c r
      ∙ (rw (and_right (eqb c (length rows / 3)) (eqb x r) (ne_eqb x r (λ e. w (sym e)))) (or-false (joins m k rows c r))))

  -- a row taken is joined with x
  pairs : (a : ℕ) → taken m k rows a ≡ true → (q s : ℕ) → paired a x q s ≡ true → joined rows (length rows) (length rows % 3) x q s ≡ true
  unfolding joined begun
  pairs a t q s u =
      let e = some_from (λ e. eqb (get_or rows (3 * (length rows / 3) + e) 0) a) (length rows % 3) (sym (taken_begun m k rows a) ∙ t) in
      let y = eqb-true (get_or rows (3 * (length rows / 3) + e.at) 0) a e.has in
      some_has (λ e. paired (get_or rows (3 * (length rows / 3) + e) 0) x q s) (length rows % 3) e.at e.below (rw y u)

  -- x shares its column with the rows taken
  pub shares_more : x < m → (q s : ℕ)
      → shares m k (rows ++ (x ∷ [])) q s ≡ (shares m k rows q s || joined rows (length rows) (length rows % 3) x q s)
  unfolding shares joined paired begun
  shares_more here q s = alike (some both' (k + m)) (some both (k + m) || J) there back
    where
      both : ℕ → Bool
      both c = joins m k rows c q && joins m k rows c s

      both' : ℕ → Bool
      both' c = joins m k (rows ++ (x ∷ [])) c q && joins m k (rows ++ (x ∷ [])) c s

      J : Bool
      J = joined rows (length rows) (length rows % 3) x q s

      old : (c : ℕ) → c < k + m → joins m k rows c q ≡ true → joins m k rows c s ≡ true → (some both (k + m) || J) ≡ true
      old c h e f = or_left (some both (k + m)) J (some_has both (k + m) c h (rw (e, f)))

      -- the column is x's
      at_column : (c r : ℕ) → (eqb c (length rows / 3) && eqb x r) ≡ true → (c ≡ length rows / 3) × (x ≡ r)
      at_column c r u =
          let b = and_parts (eqb c (length rows / 3)) (eqb x r) u in
          (eqb-true c (length rows / 3) b.0, eqb-true x r b.1)

      in_taken : (c r : ℕ) → c ≡ length rows / 3 → joins m k rows c r ≡ true → taken m k rows r ≡ true
      in_taken c r e t = sym (joins_taken r) ∙ (rw e at t)

      first : (c : ℕ) → joins m k rows c q ≡ true → (c ≡ length rows / 3) × (x ≡ s) → (some both (k + m) || J) ≡ true
      first c e w =
          or_right (some both (k + m)) J
          (pairs q (in_taken c q w.0 e) q s
          (or_left (eqb q q && eqb s x) (eqb q x && eqb s q) (rw (eq-eqb q q refl, eq-eqb s x (sym w.1)))))

      second : (c : ℕ) → joins m k rows c s ≡ true → (c ≡ length rows / 3) × (x ≡ q) → (some both (k + m) || J) ≡ true
      second c e w =
          or_right (some both (k + m)) J
          (pairs s (in_taken c s w.0 e) q s
          (or_right (eqb q s && eqb s x) (eqb q x && eqb s s) (rw (eq-eqb s s refl, eq-eqb q x (sym w.1)))))

      alone : x ≡ q → x ≡ s → (some both (k + m) || J) ≡ true
      alone e f =
          or_left (some both (k + m)) J
          (subst (λ y. some (λ c. joins m k rows c y && joins m k rows c s) (k + m) ≡ true) e
          (subst (λ y. some (λ c. joins m k rows c x && joins m k rows c y) (k + m) ≡ true) f (self_shares m k rows x here)))

      there : some both' (k + m) ≡ true → (some both (k + m) || J) ≡ true
      there t =
          let w = some_from both' (k + m) t in
          let c = w.at in
          let b = and_parts (joins m k (rows ++ (x ∷ [])) c q) (joins m k (rows ++ (x ∷ [])) c s) w.has in
          let right = or_cases (joins m k rows c s) (eqb c (length rows / 3) && eqb x s) (sym (joins_more c s) ∙ b.1) in
          ⊎_elim
          (λ u. ⊎_elim (λ v. old c w.below u v) (λ v. first c u (at_column c s v)) right)
          (λ u. ⊎_elim (λ v. second c v (at_column c q u)) (λ v. alone (at_column c q u).1 (at_column c s v).1) right)
          (or_cases (joins m k rows c q) (eqb c (length rows / 3) && eqb x q) (sym (joins_more c q) ∙ b.0))

      kept : (c r : ℕ) → joins m k rows c r ≡ true → joins m k (rows ++ (x ∷ [])) c r ≡ true
      kept c r e = joins_more c r ∙ or_left (joins m k rows c r) (eqb c (length rows / 3) && eqb x r) e

      new : joins m k (rows ++ (x ∷ [])) (length rows / 3) x ≡ true
      new =
          joins_more (length rows / 3) x
          ∙ or_right (joins m k rows (length rows / 3) x) (eqb (length rows / 3) (length rows / 3) && eqb x x)
          (rw (eq-eqb (length rows / 3) (length rows / 3) refl, eq-eqb x x refl))

      together : joins m k (rows ++ (x ∷ [])) (length rows / 3) q ≡ true → joins m k (rows ++ (x ∷ [])) (length rows / 3) s ≡ true
          → some both' (k + m) ≡ true
      together e f = some_has both' (k + m) (length rows / 3) (omega arith) (rw (e, f))

      pair : (a : ℕ) → joins m k (rows ++ (x ∷ [])) (length rows / 3) a ≡ true → paired a x q s ≡ true → some both' (k + m) ≡ true
      pair a e u =
          ⊎_elim
          (λ v.
          let b = and_parts (eqb q a) (eqb s x) v in
          together (rw (eqb-true q a b.0) e) (rw (eqb-true s x b.1) new))
          (λ v.
          let b = and_parts (eqb q x) (eqb s a) v in
          together (rw (eqb-true q x b.0) new) (rw (eqb-true s a b.1) e))
          (or_cases (eqb q a && eqb s x) (eqb q x && eqb s a) u)

      row : ℕ → ℕ
      row e = get_or rows (3 * (length rows / 3) + e) 0

      back : (some both (k + m) || J) ≡ true → some both' (k + m) ≡ true
      back t =
          ⊎_elim
          (λ u.
          let w = some_from both (k + m) u in
          let b = and_parts (joins m k rows w.at q) (joins m k rows w.at s) w.has in
          some_has both' (k + m) w.at w.below (rw (kept w.at q b.0, kept w.at s b.1)))
          (λ u.
          let w = some_from (λ e. paired (row e) x q s) (length rows % 3) u in
          let in_column = some_has (λ e. eqb (row e) (row w.at)) (length rows % 3) w.at w.below (eq-eqb (row w.at) (row w.at) refl) in
          let there = joins_taken (row w.at) ∙ taken_begun m k rows (row w.at) ∙ in_column in
          pair (row w.at) (kept (length rows / 3) (row w.at) there) w.has)
          (or_cases (some both (k + m)) J t)
