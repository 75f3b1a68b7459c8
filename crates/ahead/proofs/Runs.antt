-- Laws of runs: steps that agree where they are asked; how far a run goes. Assumes nothing.
use mathlib.Core.Path.{◌≡◌, refl, sym, ap, ◌∙◌}
use mathlib.Core.Bool.{Bool, true, false, cond, true≢false}
use Prim.Native.Nat.{ℕ, zero, suc, ◌+◌, ◌<◌, ◌≤◌}
use native.Mathlib.Omega.{arith}
use Rattle.laws.specs.Run.{Progress, next, run}
use Rattle.laws.proofs.Run.{run_most}

-- ---- runs whose steps agree where they are asked
module _ {W : Type 0} (f h : ℕ → W → W) (end : W → Bool) where
  next_same : (p : Progress W) → (p.converged ≡ false → (w : W) → f p.iterations w ≡ h p.iterations w)
      → next f end p ≡ next h end p
  unfolding next
  next_same p e = by p.converged refl
    where
      by : (t : Bool) → p.converged ≡ t
          → cond t p (record {
            memory = f p.iterations p.memory;
            iterations = p.iterations + 1;
            converged = end (f p.iterations p.memory);
          })
          ≡ cond t p (record {
            memory = h p.iterations p.memory;
            iterations = p.iterations + 1;
            converged = end (h p.iterations p.memory);
          })
      by true q = refl
      by false q = rw (e q p.memory) refl

module _ {W : Type 0} (f : ℕ → W → W) (end : W → Bool) where
  next_least : (p : Progress W) → p.iterations ≤ (next f end p).iterations
  unfolding next
  next_least p = by p.converged
    where
      by : (t : Bool) → p.iterations
          ≤ (cond t p (record {
            memory = f p.iterations p.memory;
            iterations = p.iterations + 1;
            converged = end (f p.iterations p.memory);
          })).iterations
      by true = omega arith
      by false = omega arith

  pub run_least : (n : ℕ) (p : Progress W) → p.iterations ≤ (run f end n p).iterations
  unfolding run
  run_least zero p = omega arith
  run_least (suc n) p = omega (arith, run_least n p, next_least (run f end n p))

  next_going : (p : Progress W) → (next f end p).converged ≡ false → (p.converged ≡ false)
      × ((next f end p).iterations ≡ p.iterations + 1)
  unfolding next
  next_going p = by p.converged refl
    where
      by : (t : Bool) → p.converged ≡ t
          → (cond t p (record {
            memory = f p.iterations p.memory;
            iterations = p.iterations + 1;
            converged = end (f p.iterations p.memory);
          })).converged ≡ false
          → (p.converged ≡ false)
          × ((cond t p (record {
            memory = f p.iterations p.memory;
            iterations = p.iterations + 1;
            converged = end (f p.iterations p.memory);
          })).iterations ≡ p.iterations + 1)
      by true q e = absurd (true≢false (sym q ∙ e))
      by false q e = (q, refl)

  -- a run that has not converged has done all
  pub run_going : (n : ℕ) (p : Progress W) → (run f end n p).converged ≡ false → (run f end n p).iterations
      ≡ p.iterations + n
  unfolding run
  run_going zero p e = omega arith
  run_going (suc n) p e =
      let (q, i) = next_going (run f end n p) e in
      omega (arith, i, run_going n p q)

pub run_same : {W : Type 0} (f h : ℕ → W → W) (end : W → Bool) (n : ℕ) (p : Progress W)
    → ((i : ℕ) → p.iterations ≤ i → i < p.iterations + n → (w : W) → f i w ≡ h i w) → run f end n p
    ≡ run h end n p
unfolding run
run_same f h end zero p e = refl
run_same f h end (suc n) p e =
    let earlier = run_same f h end n p (λ i a b w. e i a (omega arith) w) in
    next_same f h end (run f end n p)
    (λ q w. e (run f end n p).iterations (run_least f end n p) (omega (arith, run_most f end n p)) w)
    ∙ ap (next h end) earlier
