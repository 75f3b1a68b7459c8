-- What a run leaves, by its numbers: a list that is combined, block after block; and two runs side by side. Assumes nothing.
use Rattle.std.proofs.Common.{◌≡◌, List, ◌∷◌, ◌++◌, ap, ap₂, ◌∙◌, refl, ℕ, zero, suc, ◌+◌, ◌-◌, ◌<◌, ◌≤◌, length, arith}
use native.Mathlib.Decide.{dec_lt}
use lib.Ieee.{Float, nan}
use lib.ListN.{get_or}
use Rattle.laws.specs.Written.{Written, tabulate}
use Rattle.laws.proofs.Written.{tabulated, tabulate_ext, get_d_tabulate}
use Rattle.messages.specs.Memory.{number}
use Rattle.segments.specs.Combined.{combined, combined_block, CombinedUpto}

module _ (op : Float → Float → Float → Float) (to a b : List Float) where
  pub upto_none : CombinedUpto op to a b 0 to
  upto_none = record { long = refl; done = λ k l. absurd (omega arith); rest = λ k l. refl }

  -- a block of them, computed of what is `to` from m on, is put at m
  pub upto_block : (m n i e : ℕ) (v w w' block : List Float) → CombinedUpto op to a b i w → block ≡ combined_block op v a b m n
      → Written nan m (λ j. j < n) (λ j. get_or block j nan) w w' → ((k : ℕ) → m ≤ k → number v k ≡ number to k) → m ≤ i → i ≤ e → e ≡ m + n
      → CombinedUpto op to a b e w'
  unfolding combined_block
  upto_block m n i e v w w' block U is W same from end at =
      record {
        long = W.long ∙ U.long;
        done = λ k l. done k l (dec_lt k m);
        rest = λ k l. W.off k (λ j p q. omega arith) ∙ U.rest k (omega arith);
      }
    where
      done : (k : ℕ) → k < e → Dec (k < m) → number w' k ≡ op (number to k) (number a k) (number b k)
      done k l (yes p) = W.off k (λ j q r. omega arith) ∙ U.done k (omega arith)
      done k l (no p) =
          let j = k - m in
          let here : m + j ≡ k = omega arith in
          rw here at (W.at j (omega arith) ∙ ap (λ x. get_or x j nan) is ∙ get_d_tabulate nan _ n j (omega arith))
          ∙ ap (λ x. op x (number a k) (number b k)) (same k (omega arith))

  pub upto_all : (i : ℕ) (w : List Float) → CombinedUpto op to a b i w → length to ≤ i → w ≡ combined op to a b
  unfolding combined
  upto_all i w U all = tabulated nan _ (length to) w U.long (λ k l. U.done k (omega arith))

-- two runs side by side
pub joined : {A : Type 0} (f g h : ℕ → A) (a b n : ℕ) → ((i : ℕ) → i < a → f i ≡ h i) → ((i : ℕ) → i < b → g i ≡ h (a + i)) → n ≡ a + b
    → tabulate f a ++ tabulate g b ≡ tabulate h n
unfolding tabulate
joined f g h zero b n p q e =
    let e' : n ≡ b = omega arith in
    rw e' (tabulate_ext g h b (λ i l. q i l ∙ ap h (omega arith)))
joined f g h (suc a) b n p q e =
    let e' : n ≡ suc (a + b) = omega arith in
    rw e'
    (ap₂ ◌∷◌ (p 0 (omega arith))
    (joined (λ i. f (suc i)) g (λ i. h (suc i)) a b (a + b) (λ i l. p (suc i) (omega arith)) (λ i l. q i l ∙ ap h (omega arith)) refl))

-- a list by its numbers
pub by_number : (xs : List Float) → xs ≡ tabulate (number xs) (length xs)
by_number xs = tabulated nan (number xs) (length xs) xs refl (λ k l. refl)
