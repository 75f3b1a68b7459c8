-- Mid-block factor: the factors of a list of accepted grants. Assumes nothing.
use mathlib.Core.Path.{◌≡◌, ap, refl}
use mathlib.Core.Bool.{cond, Bool, true, false}
use mathlib.Core.List.{List, [], ◌∷◌, ◌++◌}
use Prim.Native.Nat.{ℕ, ◌+◌, ◌-◌, ◌<◌, ◌≤◌}
use native.Mathlib.Omega.{arith}
use native.Mathlib.Decide.{dec_le}
use lib.Dec.{leb}
use borrow.Author.Tests.{le-leb, lt-leb}
use Rattle.ahead.specs.Claim.{Accepted, sum_of, eighths_at}
use Rattle.std.specs.Prelude.{None, unwrap_or}
use Rattle.ahead.specs.Decoder.{Decode, eighths_in_force}

-- ---- a grant that brings nothing leaves the eighths in force
pub no_force : (t : Bool) (e : ℕ) → cond t e (unwrap_or None e) ≡ e
no_force true e = refl
no_force false e = refl

pub same_force : (d : Decode) → eighths_in_force d None ≡ d.eighths
unfolding eighths_in_force
same_force d = no_force d.converged d.eighths

-- ---- the factors of a list of accepted grants, and of one grant more
pub factor_low : (l : List Accepted) (a : Accepted) (i : ℕ) → 1 ≤ i → i ≤ sum_of l
    → eighths_at (l ++ (a ∷ [])) i ≡ eighths_at l i
unfolding eighths_at sum_of
factor_low [] a i one h = absurd (omega arith)
factor_low (b ∷ l) a i one h = by (dec_le i b.g) (factor_low l a (i - b.g))
  where
    by : Dec (i ≤ b.g) → (1 ≤ i - b.g → i - b.g ≤ sum_of l → eighths_at (l ++ (a ∷ [])) (i - b.g)
        ≡ eighths_at l (i - b.g))
        → cond (leb i b.g) b.eighths (eighths_at (l ++ (a ∷ [])) (i - b.g))
        ≡ cond (leb i b.g) b.eighths (eighths_at l (i - b.g))
    by (yes k) earlier = rw (le-leb i b.g k)
    by (no k) earlier = ap (cond (leb i b.g) b.eighths) (earlier (omega arith) (omega arith))

pub factor_last : (l : List Accepted) (a : Accepted) (i : ℕ) → sum_of l < i → i ≤ sum_of l + a.g
    → eighths_at (l ++ (a ∷ [])) i ≡ a.eighths
unfolding eighths_at sum_of
factor_last [] a i h k = rw (le-leb i a.g (omega arith))
factor_last (b ∷ l) a i h k =
    rw (lt-leb i b.g (omega arith)) (factor_last l a (i - b.g) (omega arith) (omega arith))

pub sum_more : (l : List Accepted) (a : Accepted) → sum_of (l ++ (a ∷ [])) ≡ sum_of l + a.g
unfolding sum_of
sum_more [] a = omega arith
sum_more (b ∷ l) a = omega (arith, sum_more l a)

-- ---- the factors of accepted grants are eighths
abbrev pub Within : List Accepted → Type 0
Within l = (i : ℕ) → 1 ≤ i → i ≤ sum_of l → (1 ≤ eighths_at l i) × (eighths_at l i ≤ 8)

abbrev pub EachGood : List Accepted → Type 0
EachGood [] = Unit {0}
EachGood (a ∷ l) = ((1 ≤ a.eighths) × (a.eighths ≤ 8)) × EachGood l

pub each_within : (l : List Accepted) → EachGood l → Within l
unfolding eighths_at sum_of
each_within [] G i h k = absurd (omega arith)
each_within (a ∷ l) (p, G) i h k = by (dec_le i a.g) (each_within l G (i - a.g))
  where
    by : Dec (i ≤ a.g) → (1 ≤ i - a.g → i - a.g ≤ sum_of l → (1 ≤ eighths_at l (i - a.g))
        × (eighths_at l (i - a.g) ≤ 8))
        → (1 ≤ cond (leb i a.g) a.eighths (eighths_at l (i - a.g)))
        × (cond (leb i a.g) a.eighths (eighths_at l (i - a.g)) ≤ 8)
    by (yes e) f = rw (le-leb i a.g e) p
    by (no e) f = rw (lt-leb i a.g (omega arith)) (f (omega arith) (omega arith))

pub each_more : (l : List Accepted) (a : Accepted) → EachGood l → (1 ≤ a.eighths) × (a.eighths ≤ 8)
    → EachGood (l ++ (a ∷ []))
each_more [] a G p = (p, tt)
each_more (b ∷ l) a (q, G) p = (q, each_more l a G p)

-- ---- mid-block factor
abbrev pub Each : ℕ → List Accepted → Type 0
Each e [] = Unit {0}
Each e (a ∷ l) = (a.eighths ≡ e) × Each e l

pub each_at : (e : ℕ) (l : List Accepted) → Each e l → (i : ℕ) → 1 ≤ i → i ≤ sum_of l → eighths_at l i ≡ e
unfolding eighths_at sum_of
each_at e [] E i h k = absurd (omega arith)
each_at e (a ∷ l) (p, E) i h k = by (dec_le i a.g) (each_at e l E (i - a.g))
  where
    by : Dec (i ≤ a.g) → (1 ≤ i - a.g → i - a.g ≤ sum_of l → eighths_at l (i - a.g) ≡ e)
        → cond (leb i a.g) a.eighths (eighths_at l (i - a.g)) ≡ e
    by (yes q) f = rw (le-leb i a.g q) p
    by (no q) f = rw (lt-leb i a.g (omega arith)) (f (omega arith) (omega arith))

pub each_last : (e : ℕ) (l : List Accepted) (a : Accepted) → Each e l → a.eighths ≡ e → Each e (l ++ (a ∷ []))
each_last e [] a E p = (p, tt)
each_last e (b ∷ l) a (q, E) p = (q, each_last e l a E p)
