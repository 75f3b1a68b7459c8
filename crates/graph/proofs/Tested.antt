-- What the tests of the calls come to: passed, they give the limits. Assumes nothing.
use Rattle.std.specs.Prelude.{Ok, Err}
use mathlib.Core.Path.{◌≡◌, refl, ap}
use mathlib.Core.Bool.{false}
use mathlib.Core.List.{List}
use Prim.Native.Nat.{ℕ, ◌+◌, ◌*◌, ◌-◌, ◌≤◌, ◌<◌}
use native.Mathlib.Omega.{arith}
use native.Mathlib.Decide.{dec_lt, ℕ_discrete}
use borrow.Author.Tests.{lt-ltb, le-ltb, eq-eqb, ne_eqb}
use lib.ListN.{length}
use Rattle.laws.specs.Columns.{faulty, first_fault}
use Rattle.laws.proofs.First.{first_least}
use Rattle.refusals.specs.Outcome.{Outcome, and_then, in_range, exact}
use Rattle.cycles.specs.Places.{place_cycles}
use Rattle.cycles.proofs.Once.{once}
use Rattle.graph.specs.Calls.{rated_told, lifted_told, sound_told, cycles_told}

-- two tests are passed where each is
both_passed : (t u : Outcome (Unit {0})) → and_then t (λ _. u) ≡ Ok tt → (t ≡ Ok tt) × (u ≡ Ok tt)
both_passed (Ok x) u e = (refl, e)
both_passed (Err r) u e = cc

module _ (value low high : ℕ) where
  pub in_range_passed : low ≤ value → value ≤ high → in_range value low high ≡ Ok tt
  in_range_passed h k = rw (le-ltb value low h, le-ltb high value k)

  pub in_range_fits : in_range value low high ≡ Ok tt → (low ≤ value) × (value ≤ high)
  in_range_fits e = by (dec_lt value low) (dec_lt high value)
    where
      by : Dec (value < low) → Dec (high < value) → (low ≤ value) × (value ≤ high)
      by (yes h) d = let f = rw (lt-ltb value low h) at e in cc
      by (no h) (yes k) = let f = rw (le-ltb value low (omega arith), lt-ltb high value k) at e in cc
      by (no h) (no k) = (omega arith, omega arith)

pub exact_passed : (number given wanted : ℕ) → given ≡ wanted → exact number given wanted ≡ Ok tt
exact_passed number given wanted e = rw (eq-eqb given wanted e)

pub exact_fits : (number given wanted : ℕ) → exact number given wanted ≡ Ok tt → given ≡ wanted
exact_fits number given wanted e = by (ℕ_discrete given wanted)
  where
    by : Dec (given ≡ wanted) → given ≡ wanted
    by (yes h) = h
    by (no h) = let f = rw (ne_eqb given wanted h) at e in cc

-- the limits of design values, as the tests leave them
pub record Shaped (n_b k_b : ℕ) : Type 0 where
  pub least : 4 ≤ n_b
  pub most : n_b ≤ 64
  pub some : 1 ≤ k_b
  pub few : k_b ≤ n_b - 3

pub record Rated (n_b percent : ℕ) : Type 0 where
  pub least : 4 ≤ n_b
  pub most : n_b ≤ 64
  pub whole : percent ≤ 100

pub rated_fits : {n_b percent : ℕ} → rated_told n_b percent ≡ Ok tt → Rated n_b percent
rated_fits {n_b} {percent} e =
    let t = both_passed (in_range n_b 4 64) (in_range percent 0 100) e in
    let width = in_range_fits n_b 4 64 t.0 in
    record { least = width.0; most = width.1; whole = (in_range_fits percent 0 100 t.1).1 }

-- the test of refusal 4
module _ (m : ℕ) (rows : List ℕ) where
  pub sound_passed : length rows ≤ first_fault m rows → sound_told m rows ≡ Ok tt
  sound_passed h = rw (le-ltb (first_fault m rows) (length rows) h)

  pub none_faulty : sound_told m rows ≡ Ok tt → (p : ℕ) → p < length rows → faulty m rows p ≡ false
  unfolding first_fault
  none_faulty e p l = by (dec_lt (first_fault m rows) (length rows))
    where
      by : Dec (first_fault m rows < length rows) → faulty m rows p ≡ false
      by (yes h) = let f = rw (lt-ltb (first_fault m rows) (length rows) h) at e in cc
      by (no h) = (first_least (faulty m rows) (length rows)).before p (omega arith)

-- the count by places is the count that is told
pub counted : (n_b k_b z : ℕ) (rows shifts : List ℕ) → lifted_told n_b k_b z ≡ Ok tt → exact 5 (length rows) (3 * k_b) ≡ Ok tt
    → exact 5 (length shifts) (3 * k_b) ≡ Ok tt → sound_told (n_b - k_b) rows ≡ Ok tt
    → Ok (place_cycles rows shifts z k_b) ≡ cycles_told n_b k_b rows shifts z
unfolding cycles_told
counted n_b k_b z rows shifts limits long wide sound =
    let e = exact_fits 5 (length rows) (3 * k_b) long in
    rw (limits, long, wide, sound)
    (ap Ok (once (n_b - k_b) k_b rows shifts z e (λ p l. none_faulty (n_b - k_b) rows sound p (omega arith))))

-- the sizes of a graph within the limits
pub record Sized (n_b k_b : ℕ) : Type 0 where
  pub rows : 3 ≤ n_b - k_b
  pub all : k_b + (n_b - k_b) ≤ 64
  pub less : k_b ≤ n_b
  pub most : k_b ≤ 61

pub sized : {n_b k_b : ℕ} → Shaped n_b k_b → Sized n_b k_b
sized {n_b} {k_b} S =
    record {
      rows = omega (arith, S.least, S.few);
      all = omega (arith, S.most, S.least, S.few);
      less = omega (arith, S.least, S.few);
      most = omega (arith, S.most, S.few);
    }
