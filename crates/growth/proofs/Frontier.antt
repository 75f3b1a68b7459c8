-- The rows that a step leads to, as a loop over the rows of a frontier gathers them. Assumes nothing.
use mathlib.Core.Path.{◌≡◌, sym, ◌∙◌}
use mathlib.Core.Logic.{⊎_elim}
use mathlib.Core.Bool.{true, false, not, ◌&&◌, ◌||◌, and-true}
use mathlib.Core.List.{List}
use Prim.Native.Nat.{ℕ}
use native.Mathlib.Decide.{ℕ_discrete}
use lib.Dec.{eqb}
use borrow.Author.Tests.{ne_eqb}
use Rattle.laws.specs.Range.{some}
use Rattle.std.proofs.lemmas.Bool.{and_parts, both_ways, or_cases, or_left, or_right}
use Rattle.laws.proofs.Some.{alike, some_from, some_has}
use Rattle.growth.specs.declared.rows.RowSet.{RowSet}
use Rattle.growth.specs.Rows.{has, Lowest}
use Rattle.growth.specs.Search.{meets}

-- a row that is gathered shares a column with a row of the frontier; and each row that shares one with a row of the frontier that is
-- not left is gathered
pub record Gathering (near : List RowSet) (frontier left gathered : RowSet) : Type 0 where
  pub sound : (r : ℕ) → has gathered r ≡ true → some (λ q. has frontier q && meets near q r) 64 ≡ true
  pub done : (q r : ℕ) → has frontier q ≡ true → has left q ≡ false → meets near q r ≡ true → has gathered r ≡ true
  pub within : (q : ℕ) → has left q ≡ true → has frontier q ≡ true

module _ {near : List RowSet} {frontier : RowSet} where
  pub gathering_first : {gathered : RowSet} → ((r : ℕ) → has gathered r ≡ false) → Gathering near frontier frontier gathered
  gathering_first {gathered} none =
      record {
        sound = λ r e. absurd (both_ways (has gathered r) (none r) e);
        done = λ q r e f. absurd (both_ways (has frontier q) f e);
        within = λ q e. e;
      }

  pub gathering_next : {left rest gathered gathered' : RowSet} {q : ℕ} → Gathering near frontier left gathered → Lowest left q rest
      → ((r : ℕ) → has gathered' r ≡ (has gathered r || meets near q r)) → Gathering near frontier rest gathered'
  gathering_next {left} {rest} {gathered} {gathered'} {q} G L e =
      record {
        sound = λ r t.
            ⊎_elim (G.sound r)
            (λ u. some_has (λ q. has frontier q && meets near q r) 64 q L.low (rw (G.within q L.had) u))
            (or_cases (has gathered r) (meets near q r) (sym (e r) ∙ t));
        done = λ s r t f u. done s r t f u (ℕ_discrete s q);
        within = λ s t. G.within s (and_parts (has left s) (not (eqb s q)) (sym (L.others s) ∙ t)).0;
      }
    where
      done : (s r : ℕ) → has frontier s ≡ true → has rest s ≡ false → meets near s r ≡ true → Dec (s ≡ q) → has gathered' r ≡ true
      done s r t f u (yes w) = e r ∙ or_right (has gathered r) (meets near q r) (rw w at u)
      done s r t f u (no w) =
          let kept : has rest s ≡ has left s = L.others s ∙ rw (ne_eqb s q w) (and-true (has left s)) in
          e r ∙ or_left (has gathered r) (meets near q r) (G.done s r t (sym kept ∙ f) u)

  pub gathering_end : {left gathered : RowSet} → Gathering near frontier left gathered → ((q : ℕ) → has left q ≡ false) → (r : ℕ)
      → has gathered r ≡ some (λ q. has frontier q && meets near q r) 64
  gathering_end {left} {gathered} G none r =
      alike (has gathered r) (some (λ q. has frontier q && meets near q r) 64) (G.sound r)
      (λ t.
      let s = some_from (λ q. has frontier q && meets near q r) 64 t in
      let b = and_parts (has frontier s.at) (meets near s.at r) s.has in
      G.done s.at r b.0 (none s.at) b.1)
