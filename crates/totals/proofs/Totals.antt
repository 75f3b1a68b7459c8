-- The total of a bit, and those of a column, over one base edge more. Assumes nothing.
use Rattle.std.proofs.Common.{◌≡◌, refl, sym, ap, ap₂, ◌∙◌, List, [], ℕ, ◌+◌, ◌-◌, ◌*◌, ◌%◌, ◌<◌, length, take, drop, arith}
use native.Mathlib.Nat.{mod-lt}
use lib.Ieee.{Float, nan, add, binary32}
use lib.ListN.{get_or}
use Rattle.laws.specs.Range.{folded}
use Rattle.laws.specs.Written.{tabulate}
use Rattle.laws.proofs.Folded.{folded_more}
use Rattle.laws.proofs.Written.{tabulated, tabulate_ext, get_d_tabulate, part_at}
use Rattle.messages.specs.Memory.{number}
use Rattle.totals.specs.Joined.{joined_slot, total_over}

module _ (m : ℕ → Float) (z : ℕ) (turn : List ℕ) (j : ℕ) (x : Float) where
  pub total_none : total_over m z turn j x [] ≡ x
  unfolding total_over folded
  total_none = refl

  pub total_more : (l : List ℕ) (i : ℕ) → i < length l
      → total_over m z turn j x (take (i + 1) l) ≡ add binary32 (total_over m z turn j x (take i l)) (m (joined_slot z turn j (get_or l i 0)))
  unfolding total_over
  total_more l i h = folded_more (λ y b. add binary32 y (m (joined_slot z turn j b))) x l i h

module _ (m : List Float) (z : ℕ) (turn edges : List ℕ) (w₀ : List Float) where
  -- the totals of a column, over the first i base edges
  abbrev pub totals : ℕ → List Float
  totals i = tabulate (λ j. total_over (number m) z turn j (number w₀ j) (take i edges)) z

  pub totals_none : length w₀ ≡ z → w₀ ≡ totals 0
  totals_none long = tabulated nan _ z w₀ long (λ j l. sym (total_none (number m) z turn j (number w₀ j)))

  pub totals_more : (i b s n : ℕ) (w w' : List Float) → i < length edges → b ≡ get_or edges i 0 → s ≡ get_or turn b 0 → n ≡ z → length w ≡ z
      → w ≡ totals i → w' ≡ tabulate (λ j. add binary32 (number w j) (number (take n (drop (b * z) m)) ((j + length w - s) % length w))) (length w)
      → w' ≡ totals (i + 1)
  unfolding joined_slot
  totals_more i b s n w w' h b_is s_is n_is long W U =
      U ∙ ap (λ (k : ℕ). tabulate (λ j. add binary32 (number w j) (number (take n (drop (b * z) m)) ((j + k - s) % k))) k) long
      ∙ tabulate_ext _ _ z
      (λ j l.
      let lift : 0 < z = omega arith in
      ap₂ (add binary32) (ap (λ v. number v j) W ∙ get_d_tabulate nan _ z j l)
      (part_at nan m (b * z) z n ((j + z - s) % z) n_is (mod-lt (j + z - s) lift) ∙ rw (s_is, b_is) refl)
      ∙ sym (total_more (number m) z turn j (number w₀ j) edges i h))
