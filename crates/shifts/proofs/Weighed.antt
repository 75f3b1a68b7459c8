-- The laws of weights: (1) a weight goes by the difference alone, so a table holds it at d + 1022; (2) a test that a list is the
-- table, which is computed along the list.
-- Assumes nothing.
use Rattle.std.proofs.Common.{◌≡◌, ℕ, zero, suc, ◌+◌, ◌*◌, ◌%◌, ◌<◌, ◌≤◌, Bool, true, false, cond, ◌&&◌, T, eqb, List, [], ◌∷◌, length, get_or, sym, ap, ◌∙◌, suc-mul, add_comm, arith, eq-eqb, ne_eqb, eqb→eq}
use mir.Facts.{and_yes}
use native.Mathlib.Decide.{ℕ_discrete}
use native.Mathlib.Nat.{mod-add-mod, add-mul-mod_self_left}
use Rattle.laws.specs.Range.{every, count}
use Rattle.laws.specs.Columns.{congruent}
use Rattle.laws.proofs.Range.{count_ext, lt_at}
use Rattle.laws.proofs.Collect.{count_most}
use Rattle.shifts.specs.Shifts.{test_lifts, weight}
use Rattle.shifts.specs.Biases.{Weights}

-- ---- (1) the same number added to both sides changes nothing
add_same : (z a b c : ℕ) → a % z ≡ b % z → (a + c) % z ≡ (b + c) % z
add_same z a b c e = sym (mod-add-mod a z c) ∙ ap (λ (n : ℕ). (n + c) % z) e ∙ mod-add-mod b z c

-- z - 1 times c more is z times c
around : (z a c : ℕ) → (a + c + z * c) % suc z ≡ a % suc z
around z a c =
    let e : a + c + z * c ≡ a + suc z * c = omega (arith, suc-mul z c) in
    rw e (add-mul-mod_self_left a (suc z) c)

same_add : (z a b c : ℕ) → 0 < z → (a + c) % z ≡ (b + c) % z → a % z ≡ b % z
same_add zero a b c h e = absurd (omega arith)
same_add (suc z) a b c h e = sym (around z a c) ∙ add_same (suc z) (a + c) (b + c) (z * c) e ∙ around z b c

congruent_add : (z a b c : ℕ) → 0 < z → congruent z (a + c) (b + c) ≡ congruent z a b
unfolding congruent
congruent_add z a b c h = by (ℕ_discrete (a % z) (b % z))
  where
    by : Dec (a % z ≡ b % z) → eqb ((a + c) % z) ((b + c) % z) ≡ eqb (a % z) (b % z)
    by (yes e) = rw (eq-eqb (a % z) (b % z) e, eq-eqb ((a + c) % z) ((b + c) % z) (add_same z a b c e))
    by (no n) = rw (ne_eqb (a % z) (b % z) n, ne_eqb ((a + c) % z) ((b + c) % z) (λ e. n (same_add z a b c h e)))

-- a test lift is above 0
lift_pos : (t : ℕ) → t < 17 → 0 < get_or test_lifts t 0
unfolding test_lifts every
lift_pos t h = lt_at (λ k. 0) (λ k. get_or test_lifts k 0) 17 tt t h

weight_add : (a b c : ℕ) → weight (a + c) (b + c) ≡ weight a b
unfolding weight
weight_add a b c = by (ℕ_discrete a b)
  where
    counts : count (λ i. congruent (get_or test_lifts i 0) (a + c) (b + c)) 17 ≡ count (λ i. congruent (get_or test_lifts i 0) a b) 17
    counts = count_ext _ _ 17 (λ k h. congruent_add (get_or test_lifts k 0) a b c (lift_pos k h))

    by : Dec (a ≡ b) → cond (eqb (a + c) (b + c)) 1000 (count (λ i. congruent (get_or test_lifts i 0) (a + c) (b + c)) 17)
        ≡ cond (eqb a b) 1000 (count (λ i. congruent (get_or test_lifts i 0) a b) 17)
    by (yes e) = rw (eq-eqb a b e, eq-eqb (a + c) (b + c) (omega arith))
    by (no n) = rw (ne_eqb a b n, ne_eqb (a + c) (b + c) (λ e. n (omega arith))) counts

pub weight_at : (up down i : ℕ) → i + down ≡ up + 1022 → weight up down ≡ weight i 1022
weight_at up down i e =
    sym (weight_add up down 1022) ∙ rw (← e, add_comm down 1022) (weight_add i 1022 down)

pub weight_le : (up down : ℕ) → weight up down ≤ 1000
unfolding weight
weight_le up down = by (eqb up down)
  where
    by : (t : Bool) → cond t 1000 (count (λ i. congruent (get_or test_lifts i 0) up down) 17) ≤ 1000
    by true = omega arith
    by false = omega (arith, count_most (λ i. congruent (get_or test_lifts i 0) up down) 17)

-- ---- (2) the numbers of a list are the weights from i on
unfoldable pub holds : List ℕ → ℕ → Bool
holds [] i = true
holds (x ∷ w) i = eqb x (weight i 1022) && holds w (suc i)

holds_at : (w : List ℕ) (i : ℕ) → T (holds w i) → (k : ℕ) → k < length w → get_or w k 0 ≡ weight (i + k) 1022
unfolding holds
holds_at [] i t k h = absurd (omega arith)
holds_at (x ∷ w) i t zero h = eqb→eq x (weight i 1022) (and_yes (eqb x (weight i 1022)) (holds w (suc i)) t).0 ∙ ap (λ (n : ℕ). weight n 1022) (omega arith)
holds_at (x ∷ w) i t (suc k) h =
    holds_at w (suc i) (and_yes (eqb x (weight i 1022)) (holds w (suc i)) t).1 k (omega arith) ∙ ap (λ (n : ℕ). weight n 1022) (omega arith)

pub weights_are : (w : List ℕ) → length w ≡ 2045 → T (holds w 0) → Weights w
weights_are w e t = record { long = e; at = λ i h. holds_at w 0 t i (omega arith) ∙ ap (λ (n : ℕ). weight n 1022) (omega arith) }
