-- The laws of biases: (1) those of the columns, added one after the other; (2) those of the other rows of a place. Assumes nothing.
use Rattle.std.proofs.Common.{◌≡◌, ℕ, ◌+◌, ◌*◌, ◌/◌, ◌%◌, ◌<◌, ◌≤◌, Bool, true, false, cond, ◌&&◌, eqb, List, length, get_or, set, refl, ap, ◌∙◌, arith, length-set, get_or-set_other, get_or-set_same, eq-eqb, ne_eqb}
use native.Mathlib.Decide.{ℕ_discrete}
use Rattle.laws.specs.Range.{sum, first}
use Rattle.laws.specs.Columns.{entry_of, has_row, shift_on}
use Rattle.laws.proofs.Range.{sum_more}
use Rattle.laws.proofs.Pairs.{sum_ext}
use Rattle.shifts.specs.Shifts.{weight, this_row, other_place, cost, penalty}
use Rattle.shifts.specs.Biases.{row_cost, bias_cost, Held, Biases}
use Rattle.shifts.proofs.Weighed.{weight_at}

pub shift_on_lt : (rows shifts : List ℕ) (c row : ℕ) → ((i : ℕ) → get_or shifts i 0 < 512) → shift_on rows shifts c row < 512
unfolding shift_on
shift_on_lt rows shifts c row low = low (3 * c + first (λ e. eqb (entry_of rows c e) row) 3)

-- ---- (1) one bias more
bias_more : (bias : List ℕ) (n v x : ℕ) → n < length bias → bias_cost (set bias n v) (n + 1) x ≡ bias_cost bias n x + weight (x + v) 1022
unfolding bias_cost
bias_more bias n v x h =
    sum_more (λ i. weight (x + get_or (set bias n v) i 0) 1022) n
    ∙ rw (get_or-set_same bias n v 0 h, sum_ext (λ i. weight (x + get_or (set bias n v) i 0) 1022) (λ i. weight (x + get_or bias i 0) 1022) n kept)
  where
    kept : (k : ℕ) → k < n → weight (x + get_or (set bias n v) k 0) 1022 ≡ weight (x + get_or bias k 0) 1022
    kept k l = rw (get_or-set_other bias n k v 0 (λ e. omega arith))

low_more : (bias : List ℕ) (n v : ℕ) → n < length bias → v < 1534 → ((i : ℕ) → i < n → get_or bias i 0 < 1534)
    → (i : ℕ) → i < n + 1 → get_or (set bias n v) i 0 < 1534
low_more bias n v h l low i k = by (ℕ_discrete i n)
  where
    by : Dec (i ≡ n) → get_or (set bias n v) i 0 < 1534
    by (yes e) = rw (e, get_or-set_same bias n v 0 h) l
    by (no m) = rw (get_or-set_other bias n i v 0 m) (low i (omega arith))

-- the rows of this place and of the other place e, and the shift there
module _ (rows shifts : List ℕ) (e : ℕ) where
  abbrev this : ℕ
  this = get_or rows (length shifts) 0

  abbrev other : ℕ
  other = get_or rows (3 * (length shifts / 3) + e) 0

  abbrev there : ℕ
  there = get_or shifts (3 * (length shifts / 3) + e) 0

  abbrev both : ℕ → Bool
  both c = has_row rows c this && has_row rows c other

  abbrev bias_is : ℕ → ℕ → Type 0
  bias_is c v = v + (shift_on rows shifts c this + there) ≡ shift_on rows shifts c other + 1022

  cost_off : (x c : ℕ) → both c ≡ false → cost rows shifts x e c ≡ 0
  unfolding cost this_row other_place
  cost_off x c h = rw h

  cost_on : (x c v : ℕ) → both c ≡ true → bias_is c v → cost rows shifts x e c ≡ weight (x + v) 1022
  unfolding cost this_row other_place
  cost_on x c v h k =
      rw h (weight_at (x + shift_on rows shifts c other) (shift_on rows shifts c this + there) (x + v) (omega arith))

-- before column c: the biases of the earlier columns are added
pub record Adding (rows shifts : List ℕ) (e : ℕ) (bias₀ : List ℕ) (n : ℕ) (bias : List ℕ) (count c : ℕ) : Type 0 where
  pub within : c ≤ length shifts / 3
  pub most : count ≤ n + c
  pub biases : Biases (λ x. bias_cost bias₀ n x + sum (cost rows shifts x e) c) bias count

module _ {rows shifts : List ℕ} {e : ℕ} {bias₀ : List ℕ} {n : ℕ} where
  pub adding_first : Held bias₀ n → Adding rows shifts e bias₀ n bias₀ n 0
  unfolding sum
  adding_first H = record { within = omega arith; most = omega arith; biases = record { held = H; costs = λ x. omega arith } }

  pub adding_skip : {bias : List ℕ} {count c : ℕ} → Adding rows shifts e bias₀ n bias count c → c < length shifts / 3
      → both rows shifts e c ≡ false → Adding rows shifts e bias₀ n bias count (c + 1)
  adding_skip {bias} {count} {c} A b h =
      record {
        within = omega arith;
        most = omega (arith, A.most);
        biases = record {
          held = A.biases.held;
          costs = λ x. omega (arith, A.biases.costs x, sum_more (cost rows shifts x e) c, cost_off rows shifts e x c h);
        };
      }

  pub adding_more : {bias : List ℕ} {count c : ℕ} (v : ℕ) → Adding rows shifts e bias₀ n bias count c → c < length shifts / 3
      → count < 183 → both rows shifts e c ≡ true → (v < 1534) × bias_is rows shifts e c v
      → Adding rows shifts e bias₀ n (set bias count v) (count + 1) (c + 1)
  adding_more {bias} {count} {c} v A b k h (l, q) =
      let inside : count < length bias = omega (arith, A.biases.held.long) in
      record {
        within = omega arith;
        most = omega (arith, A.most);
        biases = record {
          held = record {
            long = length-set bias count v ∙ A.biases.held.long;
            fits = omega arith;
            low = low_more bias count v inside l A.biases.held.low;
          };
          costs = λ x.
              omega (
                arith,
                bias_more bias count v x inside,
                A.biases.costs x,
                sum_more (cost rows shifts x e) c,
                cost_on rows shifts e x c v h q,
              );
        };
      }

  pub adding_all : {bias : List ℕ} {count c : ℕ} → Adding rows shifts e bias₀ n bias count c → length shifts / 3 ≤ c
      → length shifts < 183 → Biases (λ x. bias_cost bias₀ n x + row_cost rows shifts e x) bias count × (count ≤ n + 61)
  adding_all {bias} {count} {c} A h l =
      let q : c ≡ length shifts / 3 = omega (arith, A.within) in
      (rw q at A.biases, omega (arith, A.most))

-- ---- (2) what the draw x costs with the other place k
abbrev share : List ℕ → List ℕ → ℕ → ℕ → ℕ
share rows shifts x k = cond (eqb k (length shifts % 3)) 0 (row_cost rows shifts k x)

-- before the other place e: the biases of the earlier ones are collected
pub record Collecting (rows shifts bias : List ℕ) (n e : ℕ) : Type 0 where
  pub within : e ≤ 3
  pub most : n ≤ 61 * e
  pub biases : Biases (λ x. sum (share rows shifts x) e) bias n

module _ {rows shifts : List ℕ} where
  pub collecting_first : {bias : List ℕ} → length bias ≡ 183 → Collecting rows shifts bias 0 0
  unfolding sum bias_cost
  collecting_first long =
      record {
        within = omega arith;
        most = omega arith;
        biases = record {
          held = record { long = long; fits = omega arith; low = λ i h. absurd (omega arith) };
          costs = λ x. refl;
        };
      }

  pub collecting_skip : {bias : List ℕ} {n e : ℕ} → Collecting rows shifts bias n e → e < 3 → e ≡ length shifts % 3
      → Collecting rows shifts bias n (e + 1)
  collecting_skip {bias} {n} {e} C h q =
      record {
        within = omega arith;
        most = omega (arith, C.most);
        biases = record {
          held = C.biases.held;
          costs = λ x.
              let z : share rows shifts x e ≡ 0 = rw (eq-eqb e (length shifts % 3) q) in
              omega (arith, C.biases.costs x, sum_more (share rows shifts x) e, z);
        };
      }

  pub collecting_more : {bias bias' : List ℕ} {n n' e : ℕ} → Collecting rows shifts bias n e → e < 3 → (e ≡ length shifts % 3 → ⊥)
      → Biases (λ x. bias_cost bias n x + row_cost rows shifts e x) bias' n' × (n' ≤ n + 61)
      → Collecting rows shifts bias' n' (e + 1)
  collecting_more {bias} {bias'} {n} {n'} {e} C h q (B, l) =
      record {
        within = omega arith;
        most = omega (arith, C.most);
        biases = record {
          held = B.held;
          costs = λ x.
              let z : share rows shifts x e ≡ row_cost rows shifts e x = rw (ne_eqb e (length shifts % 3) q) in
              omega (arith, C.biases.costs x, B.costs x, sum_more (share rows shifts x) e, z);
        };
      }

  pub collecting_all : {bias : List ℕ} {n e : ℕ} → Collecting rows shifts bias n e → 3 ≤ e → Biases (penalty rows shifts) bias n
  unfolding penalty
  collecting_all {bias} {n} {e} C h =
      let three : e ≡ 3 = omega (arith, C.within) in
      record { held = C.biases.held; costs = λ x. C.biases.costs x ∙ ap (sum (share rows shifts x)) three }
