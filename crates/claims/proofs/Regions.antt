-- What stands where after Start: n channel places and n totals with f, e messages to checks with m, e messages to bits with 0.
-- Assumes nothing.
use mathlib.Core.Path.{◌≡◌, sym, ◌∙◌}
use mathlib.Core.List.{List}
use Prim.Native.Nat.{ℕ, ◌+◌, ◌-◌, ◌*◌, ◌<◌, ◌≤◌}
use native.Mathlib.Omega.{arith}
use native.Mathlib.Decide.{dec_lt}
use native.Mathlib.Nat.{zero-add}
use lib.ListN.{length, get_or}
use lib.Ieee.{Float, nan}
use Rattle.laws.specs.Floats.{nought}
use Rattle.laws.specs.Written.{rewritten}
use Rattle.laws.proofs.Written.{length_rewritten, low_rewritten, at_rewritten}

module _ (n e : ℕ) (f m : ℕ → Float) (w : List Float) (room : 2 * n + 2 * e ≤ length w) where
  abbrev pub channelled : List Float
  channelled = rewritten 0 n f w

  abbrev pub totalled : List Float
  totalled = rewritten n n f channelled

  abbrev pub sent : List Float
  sent = rewritten (2 * n) e m totalled

  abbrev pub all : List Float
  all = rewritten (2 * n + e) e (λ s. nought) sent

  length_channelled : length channelled ≡ length w
  length_channelled = length_rewritten nan 0 n f w (omega arith)

  length_totalled : length totalled ≡ length w
  length_totalled = length_rewritten nan n n f channelled (omega (arith, length_channelled)) ∙ length_channelled

  length_sent : length sent ≡ length w
  length_sent = length_rewritten nan (2 * n) e m totalled (omega (arith, length_totalled)) ∙ length_totalled

  pub length_all : length all ≡ length w
  length_all = length_rewritten nan (2 * n + e) e (λ s. nought) sent (omega (arith, length_sent)) ∙ length_sent

  before_sent : (i : ℕ) → i < 2 * n + e → get_or all i nan ≡ get_or sent i nan
  before_sent = low_rewritten nan (2 * n + e) e (λ s. nought) sent (omega (arith, length_sent))

  pub sent_at_lem : (s : ℕ) → s < e → get_or all (2 * n + s) nan ≡ m s
  sent_at_lem s h =
      before_sent (2 * n + s) (omega arith) ∙ at_rewritten nan (2 * n) e m totalled (omega (arith, length_totalled)) s h

  pub channel_at : (v : ℕ) → v < n → get_or all v nan ≡ f v
  channel_at v h =
      before_sent v (omega arith)
      ∙ low_rewritten nan (2 * n) e m totalled (omega (arith, length_totalled)) v (omega arith)
      ∙ low_rewritten nan n n f channelled (omega (arith, length_channelled)) v h
      ∙ rw zero-add at (at_rewritten nan 0 n f w (omega arith) v h)

  pub totals_at : (v : ℕ) → v < n → get_or all (n + v) nan ≡ f v
  totals_at v h =
      before_sent (n + v) (omega arith)
      ∙ low_rewritten nan (2 * n) e m totalled (omega (arith, length_totalled)) (n + v) (omega arith)
      ∙ at_rewritten nan n n f channelled (omega (arith, length_channelled)) v h

  pub bits_at : (s : ℕ) → s < e → get_or all (2 * n + e + s) nan ≡ nought
  bits_at s h = at_rewritten nan (2 * n + e) e (λ s. nought) sent (omega (arith, length_sent)) s h

-- so all four regions are the same in any memory
module _ (n e : ℕ) (f m : ℕ → Float) (w w' : List Float) (room : 2 * n + 2 * e ≤ length w) (room' : 2 * n + 2 * e ≤ length w') where
  at_offset : (base s i : ℕ) (x : Float) → base + s ≡ i → get_or (all n e f m w room) (base + s) nan ≡ x
      → get_or (all n e f m w' room') (base + s) nan ≡ x → get_or (all n e f m w room) i nan ≡ get_or (all n e f m w' room') i nan
  at_offset base s i x k p q = rw k at (p ∙ sym q)

  pub any_memory : (i : ℕ) → i < 2 * n + 2 * e → get_or (all n e f m w room) i nan ≡ get_or (all n e f m w' room') i nan
  any_memory i h = by (dec_lt i n) (dec_lt i (2 * n)) (dec_lt i (2 * n + e))
    where
      by : Dec (i < n) → Dec (i < 2 * n) → Dec (i < 2 * n + e) → get_or (all n e f m w room) i nan ≡ get_or (all n e f m w' room') i nan
      by (yes a) b c = channel_at n e f m w room i a ∙ sym (channel_at n e f m w' room' i a)
      by (no a) (yes b) c =
          at_offset n (i - n) i _ (omega arith) (totals_at n e f m w room (i - n) (omega arith)) (totals_at n e f m w' room' (i - n) (omega arith))
      by (no a) (no b) (yes c) =
          at_offset (2 * n) (i - 2 * n) i _ (omega arith) (sent_at_lem n e f m w room (i - 2 * n) (omega arith))
          (sent_at_lem n e f m w' room' (i - 2 * n) (omega arith))
      by (no a) (no b) (no c) =
          at_offset (2 * n + e) (i - (2 * n + e)) i _ (omega arith) (bits_at n e f m w room (i - (2 * n + e)) (omega arith))
          (bits_at n e f m w' room' (i - (2 * n + e)) (omega arith))
