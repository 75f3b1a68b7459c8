-- What is sent over one base edge more: at all its slots, and at the slot that joins one bit. Assumes nothing.
use Rattle.std.proofs.Common.{◌≡◌, refl, sym, ap, ap₂, subst, ◌∙◌, List, ℕ, ◌+◌, ◌*◌, ◌/◌, ◌%◌, ◌<◌, ◌≤◌, length, take, drop, arith}
use mathlib.Core.Logic.{◌⊎◌, inl, inr}
use native.Mathlib.Decide.{ℕ_discrete}
use native.Mathlib.Nat.{zero-add, mod-lt}
use borrow.Rule.Slice.PartMut.{put_mid}
use lib.ListN.{get_or, set}
use lib.Ieee.{Float, nan, sub, binary32}
use Rattle.laws.specs.Written.{Written, tabulate}
use Rattle.laws.proofs.Slots.{slot_div, slot_mod, slot_is}
use Rattle.laws.proofs.Written.{Among, run_more, store, put_tabulated, part_at}
use Rattle.messages.specs.Memory.{number}
use Rattle.slots.specs.Row.{Of}
use Rattle.totals.specs.Joined.{joined_slot, offset_of, Joins, Fits}

module _ (z : ℕ) (turn edges : List ℕ) (i : ℕ) (h : i < length edges) (w₀ w : List Float) where
  module _ (totals m : List Float) (lift : 0 < z) (b s n k slots : ℕ) (b_is : b ≡ get_or edges i 0) (s_is : s ≡ get_or turn b 0) (n_is : n ≡ z) (k_is : k ≡ z)
      (fits : Fits z slots turn (get_or edges i 0)) (long : length w ≡ slots) where
    inside : b * z + z ≤ length w
    inside = rw (b_is, long) fits.inside

    pub edge_sent : (part : List Float)
        → Written nan 0 (Of edges i z) (λ x. sub binary32 (number totals (offset_of z turn x)) (number m x)) w₀ w
        → part ≡ tabulate (λ t. sub binary32 (number totals ((t + s) % k)) (number (take n (drop (b * z) m)) t)) k
        → Written nan 0 (Of edges (i + 1) z) (λ x. sub binary32 (number totals (offset_of z turn x)) (number m x)) w₀ (put_mid (b * z) n w part)
    edge_sent part W U =
        let g = λ (t : ℕ). sub binary32 (number totals ((t + s) % z)) (number (take n (drop (b * z) m)) t) in
        let is : part ≡ tabulate g z = rw k_is at U in
        run_more (b * z) z W
        (subst (λ (x : ℕ). Written nan x (λ t. t < z) g w (put_mid (b * z) n w part)) (sym (zero-add (b * z))) (put_tabulated nan (b * z) z n w part g n_is inside is))
        (λ t l.
        ap₂ (sub binary32) (turned t l) (part_at nan m (b * z) z n t n_is l))
        (λ x p. record { index = p.index; inside = omega (arith, p.inside); is = p.is })
        (λ t l. record { index = i; inside = omega arith; is = sym (slot_div b z t l ∙ b_is) })
        (λ x p. back x p (ℕ_discrete p.index i))
      where
        turned : (t : ℕ) → t < z → number totals ((t + s) % z) ≡ number totals (offset_of z turn (b * z + t))
        turned t l = rw (slot_mod b z t l, slot_div b z t l, ← s_is) refl

        back : (x : ℕ) (p : Of edges (i + 1) z x) → Dec (p.index ≡ i) → Of edges i z x ⊎ Among (b * z) z x
        back x p (yes e) =
            let q : x / z ≡ b = sym p.is ∙ ap (λ (y : ℕ). get_or edges y 0) e ∙ sym b_is in
            let is : x ≡ b * z + x % z = slot_is x z b (x % z) q refl in
            inr (omega arith, omega (arith, mod-lt x lift))
        back x p (no e) = inl (record { index = p.index; inside = omega (arith, p.inside); is = p.is })

  pub slot_sent : (j s : ℕ) (f : ℕ → Float) → s ≡ joined_slot z turn j (get_or edges i 0) → s < length w
      → Written nan 0 (Joins edges i z turn j) f w₀ w → Written nan 0 (Joins edges (i + 1) z turn j) f w₀ (set w s (f s))
  slot_sent j s f is inside W =
      subst (λ (x : ℕ). Written nan 0 (Joins edges (i + 1) z turn j) f w₀ (set w x (f s))) (zero-add s)
      (store s (f s) W (omega (arith, W.long)) refl
      (record { index = i; inside = omega arith; is = is })
      (λ x p. record { index = p.index; inside = omega (arith, p.inside); is = p.is })
      (λ x p n. back x p n (ℕ_discrete p.index i)))
    where
      back : (x : ℕ) (p : Joins edges (i + 1) z turn j x) → (x ≡ s → ⊥) → Dec (p.index ≡ i) → Joins edges i z turn j x
      back x p n (yes e) = absurd (n (p.is ∙ ap (λ (k : ℕ). joined_slot z turn j (get_or edges k 0)) e ∙ sym is))
      back x p n (no e) = record { index = p.index; inside = omega (arith, p.inside); is = p.is }

pub all_sent : {z n : ℕ} {edges : List ℕ} {f : ℕ → Float} {w w' : List Float} → n ≡ length edges → Written nan 0 (Of edges n z) f w w'
    → Written nan 0 (Of edges (length edges) z) f w w'
all_sent {z} {n} {edges} {f} {w} {w'} e W = subst (λ (i : ℕ). Written nan 0 (Of edges i z) f w w') e W
