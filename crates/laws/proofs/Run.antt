-- The laws of `run`: a run broken off and taken up again is one run, a converged one stays as it is, and a run over part of a
-- memory is a run over the whole. Assumes nothing.
use mathlib.Core.Path.{◌≡◌, refl, ap, ◌∙◌}
use mathlib.Core.Bool.{Bool, true, false, cond}
use mathlib.Core.List.{List, ◌++◌}
use Prim.Native.Nat.{ℕ, zero, suc, ◌+◌, ◌≤◌}
use native.Mathlib.Omega.{arith}
use native.Mathlib.Nat.{add-zero, add-suc}
use lib.ListN.{length}
use Rattle.laws.specs.Run.{Progress, next, run}
use Rattle.laws.proofs.Front.{Front}

-- what holds either way
either : {A : Type 0} (P : A → Type 0) (t : Bool) (a b : A) → P a → P b → P (cond t a b)
either P true a b p q = p
either P false a b p q = q

-- a run with its memory seen through f
abbrev pub seen : {W : Type 0} → (W → W) → Progress W → Progress W
seen f p = record { memory = f p.memory; iterations = p.iterations; converged = p.converged }

seen_cond : {W : Type 0} (f : W → W) (t : Bool) (p q : Progress W) → cond t (seen f p) (seen f q) ≡ seen f (cond t p q)
seen_cond f true p q = refl
seen_cond f false p q = refl

module _ {W : Type 0} (iterate : ℕ → W → W) (settled : W → Bool) where
  pub run_add : (a b : ℕ) (p : Progress W) → run iterate settled (a + b) p ≡ run iterate settled b (run iterate settled a p)
  unfolding run
  run_add a zero p = rw add-zero
  run_add a (suc b) p = rw add-suc (ap (next iterate settled) (run_add a b p))

  pub run_done : (n : ℕ) (p : Progress W) → p.converged ≡ true → run iterate settled n p ≡ p
  unfolding run next
  run_done zero p e = refl
  run_done (suc n) p e = rw (run_done n p e, e)

  next_most : (p : Progress W) → (next iterate settled p).iterations ≤ p.iterations + 1
  unfolding next
  next_most p = either (λ q. q.iterations ≤ p.iterations + 1) p.converged p _ (omega arith) (omega arith)

  pub run_most : (n : ℕ) (p : Progress W) → (run iterate settled n p).iterations ≤ p.iterations + n
  unfolding run
  run_most zero p = omega arith
  run_most (suc n) p = omega (arith, next_most (run iterate settled n p), run_most n p)

  -- what each iteration keeps of a memory, a run keeps
  module _ (P : W → Type 0) (keeps : (i : ℕ) (w : W) → P w → P (iterate i w)) where
    next_keeps : (p : Progress W) → P p.memory → P (next iterate settled p).memory
    unfolding next
    next_keeps p h = either (λ q. P q.memory) p.converged p _ h (keeps p.iterations p.memory h)

    pub run_keeps : (n : ℕ) (p : Progress W) → P p.memory → P (run iterate settled n p).memory
    unfolding run
    run_keeps zero p h = h
    run_keeps (suc n) p h = next_keeps (run iterate settled n p) (run_keeps n p h)

    -- and so a run over memories f w, as w with something behind it, is the run over the memories w
    module _ (f : W → W) (same_iterate : (i : ℕ) (w : W) → P w → iterate i (f w) ≡ f (iterate i w))
        (same_settled : (w : W) → P w → settled (f w) ≡ settled w) where
      next_seen : (p : Progress W) → P p.memory → next iterate settled (seen f p) ≡ seen f (next iterate settled p)
      unfolding next
      next_seen p h =
          rw (same_iterate p.iterations p.memory h, same_settled (iterate p.iterations p.memory) (keeps _ _ h))
          (seen_cond f p.converged p _)

      pub run_seen : (n : ℕ) (p : Progress W) → P p.memory → run iterate settled n (seen f p) ≡ seen f (run iterate settled n p)
      unfolding run
      run_seen zero p h = refl
      run_seen (suc n) p h = rw (run_seen n p h) (next_seen (run iterate settled n p) (run_keeps n p h))

-- a run over the front of a list is the run over the list
module _ {A : Type 0} (iterate : ℕ → List A → List A) (settled : List A → Bool) {n : ℕ} (front : (i : ℕ) → Front n (iterate i))
    (same_settled : (w x : List A) → n ≤ length w → settled (w ++ x) ≡ settled w) where
  pub run_long : (m : ℕ) (p : Progress (List A)) → n ≤ length p.memory → length (run iterate settled m p).memory ≡ length p.memory
  run_long m p h =
      run_keeps iterate settled (λ w. length w ≡ length p.memory) (λ i w e. (front i).long w (omega arith) ∙ e) m p refl

  pub run_append : (m : ℕ) (p : Progress (List A)) (x : List A) → n ≤ length p.memory
      → run iterate settled m (seen (λ w. w ++ x) p) ≡ seen (λ w. w ++ x) (run iterate settled m p)
  run_append m p x h =
      run_seen iterate settled (λ w. n ≤ length w) (λ i w k. omega (arith, (front i).long w k)) (λ w. w ++ x)
      (λ i w k. (front i).append w x k)
      (λ w k. same_settled w x k)
      m
      p
      h
