-- A column bit by bit: the slots that join a bit, and the bits below an offset, done. Assumes nothing.
use Rattle.std.proofs.Common.{◌≡◌, refl, sym, ap, subst, ◌∙◌, List, ℕ, ◌+◌, ◌-◌, ◌/◌, ◌%◌, ◌<◌, ◌≤◌, length, arith}
use native.Mathlib.Decide.{ℕ_discrete}
use native.Mathlib.Nat.{mod-lt}
use lib.ListN.{get_or, set, length-set}
use lib.Seq.{get_or-set_same, get_or-set_other}
use lib.Ieee.{Float, nan, sub, binary32}
use Rattle.laws.specs.Written.{Written, At, tabulate}
use Rattle.laws.proofs.Slots.{slot_div, slot_mod, slot_is, turned_back, back_then_on_below}
use Rattle.laws.proofs.Written.{Upto, upto_run, upto_all, same, tabulated}
use Rattle.messages.specs.Memory.{number}
use Rattle.slots.specs.Row.{Of}
use Rattle.totals.specs.Joined.{joined_slot, total_over, offset_of, Joins, Fits, Sent}

module _ (m channel : List Float) (z slots : ℕ) (turn edges : List ℕ) (fits : (i : ℕ) → i < length edges → Fits z slots turn (get_or edges i 0)) where
  abbrev total : ℕ → Float
  total j = total_over (number m) z turn j (number channel j) edges

  abbrev sent : ℕ → Float
  sent s = sub binary32 (total (offset_of z turn s)) (number m s)

  -- the bits below offset j are done
  pub record BitsDone (j : ℕ) (totals w₀ w : List Float) : Type 0 where
    pub long : length totals ≡ z
    pub done : (k : ℕ) → k < j → number totals k ≡ total k
    pub sent : Written nan 0 (Upto (Of edges (length edges) z) (offset_of z turn) j) sent w₀ w

  -- the slots that join the bit at offset j
  module _ (j : ℕ) (j_lt : j < z) where
    lift : 0 < z
    lift = omega arith

    of_joins : (s : ℕ) → Joins edges (length edges) z turn j s → At (Of edges (length edges) z) (offset_of z turn) j s
    unfolding joined_slot
    of_joins s p =
        let b = get_or edges p.index 0 in
        let l = mod-lt (j + z - get_or turn b 0) lift in
        let over : s / z ≡ b = ap (λ (x : ℕ). x / z) p.is ∙ slot_div b z _ l in
        let off : s % z ≡ (j + z - get_or turn b 0) % z = ap (λ (x : ℕ). x % z) p.is ∙ slot_mod b z _ l in
        record {
          among = record { index = p.index; inside = p.inside; is = sym over };
          has = rw (over, off) (back_then_on_below j (get_or turn b 0) z j_lt (fits p.index p.inside).turn_lt);
        }

    to_joins : (s : ℕ) → At (Of edges (length edges) z) (offset_of z turn) j s → Joins edges (length edges) z turn j s
    unfolding joined_slot
    to_joins s q =
        let p = q.among in
        let b = get_or edges p.index 0 in
        let e : (s % z + get_or turn b 0) % z ≡ j = subst (λ (x : ℕ). (s % z + get_or turn x 0) % z ≡ j) (sym p.is) q.has in
        record {
          index = p.index;
          inside = p.inside;
          is = slot_is s z b _ (sym p.is) (turned_back (s % z) (get_or turn b 0) j z (mod-lt s lift) (fits p.index p.inside).turn_lt e);
        }

    pub bits_more : (totals w₀ w w' : List Float) (t : Float) → BitsDone j totals w₀ w → t ≡ total j
        → Written nan 0 (Joins edges (length edges) z turn j) (λ s. sub binary32 t (number m s)) w w' → BitsDone (j + 1) (set totals j t) w₀ w'
    bits_more totals w₀ w w' t D is W =
        record {
          long = length-set totals j t ∙ D.long;
          done = λ k l. done k l (ℕ_discrete k j);
          sent = upto_run D.sent (same W of_joins to_joins (λ s p. ap (λ x. sub binary32 x (number m s)) (is ∙ ap total (sym p.has)))) (λ s p. refl);
        }
      where
        done : (k : ℕ) → k < j + 1 → Dec (k ≡ j) → number (set totals j t) k ≡ total k
        done k l (yes e) = rw e (get_or-set_same totals j t nan (omega (arith, D.long)) ∙ is)
        done k l (no e) = get_or-set_other totals j k t nan (λ q. e q) ∙ D.done k (omega arith)

  module _ (j : ℕ) (totals w₀ w : List Float) (all : z ≤ j) (D : BitsDone j totals w₀ w) where
    pub bits_totals : totals ≡ tabulate total z
    bits_totals = tabulated nan total z totals D.long (λ k l. D.done k (omega arith))

    pub bits_sent : 0 < z → Sent z turn edges totals m w₀ w
    bits_sent lift =
        let below : (s : ℕ) → offset_of z turn s < j = λ s. omega (arith, mod-lt (s % z + get_or turn (s / z) 0) lift) in
        same (upto_all D.sent (λ s p. below s)) (λ s p. p) (λ s p. p)
        (λ s p. ap (λ x. sub binary32 x (number m s)) (sym (D.done (offset_of z turn s) (below s))))
