-- Functions of a list that read and write its first n elements alone: what stands behind those is left, and does not tell.
-- Assumes nothing.
use mathlib.Core.Path.{◌≡◌, sym, ap, ◌∙◌}
use mathlib.Core.List.{List, ◌++◌, append_assoc}
use Prim.Native.Nat.{ℕ, ◌+◌, ◌-◌, ◌<◌, ◌≤◌}
use native.Mathlib.Omega.{arith}
use lib.ListN.{length, take, drop, get_or, take-append-drop}
use lib.Seq.{length-take-le, take-append-le, drop-append-le, get_or-append-add, get_or-drop}
use Rattle.laws.specs.Written.{rewritten}
use Rattle.laws.proofs.Written.{tabulate_ext, length_rewritten}

pub record Front {A : Type 0} (n : ℕ) (f : List A → List A) : Type 0 where
  pub append : (w x : List A) → n ≤ length w → f (w ++ x) ≡ f w ++ x
  pub long : (w : List A) → n ≤ length w → length (f w) ≡ length w

module _ {A : Type 0} {n : ℕ} where
  -- one after another
  pub front_then : {f h : List A → List A} → Front n f → Front n h → Front n (λ w. h (f w))
  front_then {f} {h} F H =
      record {
        append = λ w x k. ap h (F.append w x k) ∙ H.append (f w) x (omega (arith, F.long w k));
        long = λ w k. H.long (f w) (omega (arith, F.long w k)) ∙ F.long w k;
      }

  module _ {f : List A → List A} (F : Front n f) where
    -- it may be lent the first k elements, where those are enough
    pub front_lent : (k : ℕ) (w : List A) → n ≤ length (take k w) → f (take k w) ++ drop k w ≡ f w
    front_lent k w h = sym (F.append (take k w) (drop k w) h) ∙ ap f (take-append-drop k w)

    pub front_past : (d : A) (w : List A) → n ≤ length w → (i : ℕ) → n ≤ i → get_or (f w) i d ≡ get_or w i d
    front_past d w h i k =
        let a : List A = f (take n w) in
        let l : length (take n w) ≡ n = length-take-le n w h in
        let m : length a ≡ n = F.long (take n w) (omega arith) ∙ l in
        let j : length a + (i - n) ≡ i = omega arith in
        let j' : n + (i - n) ≡ i = omega arith in
        ap (λ (u : List A). get_or u i d) (sym (front_lent n w (omega arith)))
        ∙ ap (λ (t : ℕ). get_or (a ++ drop n w) t d) (sym j)
        ∙ get_or-append-add a (drop n w) (i - n) d
        ∙ get_or-drop n w (i - n) d
        ∙ ap (λ (t : ℕ). get_or w t d) j'

-- a list that is rewritten by a function that reads those elements alone
pub front_rewritten : {A : Type 0} {n : ℕ} (d : A) (base k : ℕ) (f : List A → ℕ → A) → base + k ≤ n
    → ((w x : List A) → n ≤ length w → (s : ℕ) → s < k → f (w ++ x) s ≡ f w s) → Front n (λ w. rewritten base k (f w) w)
unfolding rewritten
front_rewritten {A} {n} d base k f h e =
    record { append = appends; long = λ w l. length_rewritten d base k (f w) w (omega arith) }
  where
    appends : (w x : List A) → n ≤ length w → rewritten base k (f (w ++ x)) (w ++ x) ≡ rewritten base k (f w) w ++ x
    appends w x l =
        let p : base ≤ length w = omega arith in
        let q : base + k ≤ length w = omega arith in
        rw (take-append-le base w x p, drop-append-le (base + k) w x q, tabulate_ext (f (w ++ x)) (f w) k (e w x l)) (simp append_assoc)
