-- The laws of placing shifts one after the other. Assumes nothing.
use Rattle.std.proofs.Common.{◌≡◌, ℕ, ◌+◌, ◌*◌, ◌<◌, ◌≤◌, List, length, take, set, sym, refl, ap, ◌∙◌, add-one, arith, length-set, length-take-le, take_all, take-suc-set}
use Rattle.shifts.specs.Shifts.{choose, chosen, shifts_of}
use Rattle.shifts.specs.Biases.{Partly, Follows}
use Rattle.shifts.proofs.Drawn.{shift_lt}

-- before place p of n
pub record Placing (rows : List ℕ) (seed n : ℕ) (shifts : List ℕ) (state p : ℕ) : Type 0 where
  pub within : p ≤ n
  pub long : length shifts ≡ n
  pub placed : take p shifts ≡ (chosen rows seed p).shifts
  pub reached : state ≡ (chosen rows seed p).state

module _ {rows : List ℕ} {seed n : ℕ} where
  pub placing_first : {shifts : List ℕ} → length shifts ≡ n → Placing rows seed n shifts seed 0
  unfolding chosen
  placing_first e = record { within = omega arith; long = e; placed = refl; reached = refl }

  pub placing_next : {shifts : List ℕ} {state p : ℕ} (shift state' : ℕ) → Placing rows seed n shifts state p → p < n
      → Follows rows (take p shifts) state shift state' → Placing rows seed n (set shifts p shift) state' (p + 1)
  unfolding chosen choose
  placing_next {shifts} {state} {p} shift state' P h F =
      let inside : p < length shifts = omega (arith, P.long) in
      record {
        within = omega arith;
        long = length-set shifts p shift ∙ P.long;
        placed = rw (add-one, take-suc-set shifts p shift inside, F.shift_is, P.reached, P.placed);
        reached = rw (add-one, F.state_is, P.reached, P.placed);
      }

  pub placing_partly : {shifts : List ℕ} {state p k : ℕ} → Placing rows seed n shifts state p → p < n → k ≤ 61 → n ≡ 3 * k → length rows ≡ 3 * k
      → Partly rows (take p shifts)
  placing_partly {shifts} {state} {p} {k} P h m e q =
      let l : length (take p shifts) ≡ p = length-take-le p shifts (omega (arith, P.long)) in
      record {
        inside = rw l (omega arith);
        most = omega arith;
        low = λ i. rw P.placed (shift_lt rows seed p i);
      }

  pub placing_all : {shifts : List ℕ} {state p : ℕ} → Placing rows seed n shifts state p → n ≤ p → shifts ≡ shifts_of rows seed n
  unfolding shifts_of
  placing_all {shifts} {state} {p} P h =
      let e : p ≡ n = omega (arith, P.within) in
      sym (take_all p shifts (omega (arith, P.long))) ∙ P.placed ∙ ap (λ (k : ℕ). (chosen rows seed k).shifts) e
