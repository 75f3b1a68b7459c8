-- The unbroken decode: of its needed numbers alone, in any memory; an accepted grant more goes on where it is.
-- Assumes nothing.
use mathlib.Core.Path.{◌≡◌, refl, sym, ap, ap₂, ◌∙◌}
use mathlib.Core.Bool.{Bool, true, false, ◌&&◌}
use mathlib.Core.List.{List, [], ◌∷◌, ◌++◌}
use Prim.Native.Nat.{ℕ, ◌+◌, ◌≤◌}
use native.Mathlib.Omega.{arith}
use lib.Dec.{eqb}
use lib.ListN.{length, take, drop, take-append-drop}
use lib.Seq.{length-take-le, take_at, drop_at}
use lib.Ieee.{Float}
use Rattle.laws.specs.Run.{Progress, run}
use Rattle.laws.proofs.Front.{Front, front_then, front_lent}
use Rattle.laws.proofs.Run.{seen, run_add, run_done, run_most, run_long, run_append}
use Rattle.messages.specs.Memory.{bits_of, slots_of, needed}
use Rattle.messages.specs.Iteration.{settled}
use Rattle.messages.proofs.Append.{same_settled}
use Rattle.ldpc.specs.declared.choice.Code.{Code}
use Rattle.ldpc.specs.Choice.{made}
use Rattle.ldpc.specs.Code.{code_graph, work_of}
use Rattle.ldpc.proofs.Made.{sized}
use Rattle.ldpc.proofs.CodeEdges.{code_simple}
use Rattle.channel.specs.Channel.{start_memory}
use Rattle.word.specs.Word.{word_of}
use Rattle.coder.specs.Calls.{unsatisfied_of}
use Rattle.decoder.specs.Decoding.{result_of}
use Rattle.claims.proofs.Whole.{start_front, word_lent}
use Rattle.ahead.specs.Schedules.{Schedule, factor_of, step}
use Rattle.ahead.specs.Decoder.{Choices, iterated, unbroken}
use Rattle.ahead.specs.Claim.{Accepted, sum_of, eighths_at, unbroken_by, run_so_far}
use Rattle.ahead.proofs.Layered.{step_front}
use Rattle.ahead.proofs.Runs.{run_least, run_same, run_going}
use Rattle.claims.proofs.Anywhere.{same_start}
use Rattle.ahead.specs.OneCall.{Anywhere, FirstSchedule}
use Rattle.runs.specs.Runs as R
use Rattle.ahead.proofs.Eighths.{six_is_alpha}
use Rattle.ahead.proofs.Factors.{Each, each_at, factor_low, factor_last, sum_more}

-- ---- a function of a list that reads and writes its first n elements alone
module _ {A : Type 0} {n : ℕ} {f : List A → List A} (F : Front n f) where
  pub front_take : (w : List A) → n ≤ length w → take n (f w) ≡ f (take n w)
  front_take w h =
      let l = length-take-le n w h in
      ap (take n) (sym (front_lent F n w (omega (arith, l))))
      ∙ take_at (f (take n w)) (drop n w) n (F.long (take n w) (omega (arith, l)) ∙ l)

  pub front_drop : (w : List A) → n ≤ length w → drop n (f w) ≡ drop n w
  front_drop w h =
      let l = length-take-le n w h in
      ap (drop n) (sym (front_lent F n w (omega (arith, l))))
      ∙ drop_at (f (take n w)) (drop n w) n (F.long (take n w) (omega (arith, l)) ∙ l)

-- ---- start, iterations and the word read and write the needed numbers alone, as in claims/proofs/Whole
-- a decode cut down to its needed numbers
abbrev pub cut : Code → Progress (List Float) → Progress (List Float)
cut c p = seen (take (work_of c)) p

module _ (c : Code) (m : made c ≡ true) (schedule : Schedule) (e : ℕ → ℕ) where
  pub step_of : (i : ℕ) → Front (work_of c) (step schedule (factor_of (e i)) (code_graph c) c.z)
  unfolding work_of needed bits_of slots_of
  step_of i = step_front schedule (factor_of (e i)) (code_graph c) (code_simple c) c.z (sized c m).lift

  pub same_end : (w x : List Float) → work_of c ≤ length w → settled (code_graph c) c.z (w ++ x)
      ≡ settled (code_graph c) c.z w
  unfolding work_of needed bits_of slots_of
  same_end = same_settled (code_graph c) (code_simple c) c.z (sized c m).lift

  pub iterated_long : (n : ℕ) (p : Progress (List Float)) → work_of c ≤ length p.memory
      → length (iterated schedule e c n p).memory ≡ length p.memory
  unfolding iterated
  iterated_long n = run_long _ _ step_of same_end n

  pub iterated_lent : (n : ℕ) (p : Progress (List Float)) (k : ℕ) → work_of c ≤ length (take k p.memory)
      → seen (λ w. w ++ drop k p.memory) (iterated schedule e c n (seen (take k) p)) ≡ iterated schedule e c n p
  unfolding iterated
  iterated_lent n p k h =
      sym (run_append _ _ step_of same_end n (seen (take k) p) (drop k p.memory) h)
      ∙ ap (λ (w : List Float). iterated schedule e c n (seen (λ v. w) p)) (take-append-drop k p.memory)

  pub iterated_front : (n i : ℕ) (converged : Bool)
      → Front (work_of c) (λ w.
      (iterated schedule e c n (record { memory = w; iterations = i; converged = converged })).memory)
  unfolding iterated
  iterated_front n i converged =
      record {
        append =
            λ w x h. ap (λ p. p.memory)
            (run_append _ _ step_of same_end n (record { memory = w; iterations = i; converged = converged }) x
            h);
        long = λ w h. iterated_long n (record { memory = w; iterations = i; converged = converged }) h;
      }

  pub iterated_cut : (n : ℕ) (p : Progress (List Float)) → work_of c ≤ length p.memory
      → cut c (iterated schedule e c n p) ≡ iterated schedule e c n (cut c p)
  iterated_cut n p h =
      let q : Progress (List Float) = iterated schedule e c n (cut c p) in
      let l = length-take-le (work_of c) p.memory h in
      ap (cut c) (sym (iterated_lent n p (work_of c) (omega (arith, l))))
      ∙ ap (λ (v : List Float). record { memory = v; iterations = q.iterations; converged = q.converged })
      (take_at q.memory (drop (work_of c) p.memory) (work_of c)
      (iterated_long n (cut c p) (omega (arith, l)) ∙ l))

  pub unbroken_front : (n : ℕ) (rx : List Float)
      → Front (work_of c) (λ w. (unbroken schedule e c rx w n).memory)
  unfolding unbroken
  unbroken_front n rx = front_then (start_front c rx) (iterated_front n 0 false)

-- two decodes that are the same as far as their needed numbers go
module _ (c : Code) (m : made c ≡ true) (p q : Progress (List Float)) (h : work_of c ≤ length p.memory)
    (k : work_of c ≤ length q.memory)
    (same : cut c p ≡ cut c q) where
  pub same_word : word_of c p.memory ≡ word_of c q.memory
  same_word =
      let word_cut : (v : List Float) → work_of c ≤ length v → word_of c (take (work_of c) v) ≡ word_of c v
      = λ v l. word_lent c m (work_of c) v (omega (arith, length-take-le (work_of c) v l)) in
      sym (word_cut p.memory h) ∙ ap (λ (r : Progress (List Float)). word_of c r.memory) same
      ∙ word_cut q.memory k

  pub same_result : result_of c p ≡ result_of c q
  unfolding result_of
  same_result =
      ap₂ (λ (r : Progress (List Float)) (word : List ℕ).
      record {
        iterations = r.iterations;
        converged = r.converged;
        clean = r.converged && eqb (unsatisfied_of c word) 0;
      }) same same_word

  pub same_iterated : (schedule : Schedule) (e : ℕ → ℕ) (n : ℕ) → cut c (iterated schedule e c n p)
      ≡ cut c (iterated schedule e c n q)
  same_iterated schedule e n =
      iterated_cut c m schedule e n p h ∙ ap (iterated schedule e c n) same
      ∙ sym (iterated_cut c m schedule e n q k)

-- ---- an accepted grant more goes on where the unbroken decode is
module _ (c : Code) (ch : Choices) (rx w : List Float) (l : List Accepted) (a : Accepted) where
  abbrev now : Progress (List Float)
  now = run_so_far c ch rx w l

  abbrev more : List Accepted
  more = l ++ (a ∷ [])

  abbrev steps : (ℕ → ℕ) → ℕ → List Float → List Float
  steps e i = step ch.schedule (factor_of (e i)) (code_graph c) c.z

  abbrev ends : List Float → Bool
  ends = settled (code_graph c) c.z

  abbrev fresh : Progress (List Float)
  fresh = record { memory = start_memory c rx w; iterations = 0; converged = false }

  pub low_same : (n : ℕ) → n ≤ sum_of l → unbroken_by c ch rx w more n ≡ unbroken_by c ch rx w l n
  unfolding unbroken_by unbroken iterated
  low_same n h =
      run_same (steps (λ i. eighths_at more (i + 1))) (steps (λ i. eighths_at l (i + 1))) ends n fresh
      (λ i p q v. ap (λ (e : ℕ). step ch.schedule (factor_of e) (code_graph c) c.z v)
      (factor_low l a (i + 1) (omega arith) (omega arith)))

  pub going : now.converged ≡ false → now.iterations ≡ sum_of l
  unfolding unbroken_by run_so_far unbroken iterated
  going q = run_going (steps (λ i. eighths_at l (i + 1))) ends (sum_of l) fresh q ∙ omega arith

  grant_same : (n : ℕ) → n ≤ a.g → iterated ch.schedule (λ i. a.eighths) c n now
      ≡ iterated ch.schedule (λ i. eighths_at more (i + 1)) c n now
  unfolding iterated
  grant_same n h = by now.converged refl
    where
      by : (t : Bool) → now.converged ≡ t → run (steps (λ i. a.eighths)) ends n now
          ≡ run (steps (λ i. eighths_at more (i + 1))) ends n now
      by true q = run_done _ _ n now q ∙ sym (run_done _ _ n now q)
      by false q =
          let i_is = going q in
          run_same (steps (λ i. a.eighths)) (steps (λ i. eighths_at more (i + 1))) ends n now
          (λ i b d v. ap (λ (e : ℕ). step ch.schedule (factor_of e) (code_graph c) c.z v)
          (sym (factor_last l a (i + 1) (omega (arith, i_is)) (omega (arith, i_is)))))

  pub on_same : (n : ℕ) → n ≤ a.g → iterated ch.schedule (λ i. a.eighths) c n now
      ≡ unbroken_by c ch rx w more (sum_of l + n)
  unfolding run_so_far unbroken_by unbroken iterated
  on_same n h =
      grant_same n h
      ∙ ap (iterated ch.schedule (λ i. eighths_at more (i + 1)) c n) (sym (low_same (sum_of l) (omega arith)))
      ∙ sym (run_add (steps (λ i. eighths_at more (i + 1))) ends (sum_of l) n fresh)

  pub goes_on : iterated ch.schedule (λ i. a.eighths) c a.g now ≡ run_so_far c ch rx w more
  unfolding run_so_far
  goes_on = on_same a.g (omega arith) ∙ ap (unbroken_by c ch rx w more) (sym (sum_more l a))

-- ---- a converged run stays, and one goes no further than it may
module _ (c : Code) (schedule : Schedule) (e : ℕ → ℕ) (n : ℕ) (p : Progress (List Float)) where
  pub iterated_done : p.converged ≡ true → iterated schedule e c n p ≡ p
  unfolding iterated
  iterated_done q =
      run_done (λ i. step schedule (factor_of (e i)) (code_graph c) c.z) (settled (code_graph c) c.z) n p q

  pub iterated_most : (iterated schedule e c n p).iterations ≤ p.iterations + n
  unfolding iterated
  iterated_most =
      run_most (λ i. step schedule (factor_of (e i)) (code_graph c) c.z) (settled (code_graph c) c.z) n p

  pub iterated_least : p.iterations ≤ (iterated schedule e c n p).iterations
  unfolding iterated
  iterated_least =
      run_least (λ i. step schedule (factor_of (e i)) (code_graph c) c.z) (settled (code_graph c) c.z) n p

-- ---- a decode whose factors are all one
module _ (c : Code) (ch : Choices) (rx w : List Float) where
  pub one_of : (l : List Accepted) → Each ch.eighths l → run_so_far c ch rx w l
      ≡ unbroken ch.schedule (λ i. ch.eighths) c rx w (sum_of l)
  unfolding run_so_far unbroken_by unbroken iterated
  one_of l E =
      run_same (λ i. step ch.schedule (factor_of (eighths_at l (i + 1))) (code_graph c) c.z)
      (λ i. step ch.schedule (factor_of ch.eighths) (code_graph c) c.z) (settled (code_graph c) c.z) (sum_of l)
      (record { memory = start_memory c rx w; iterations = 0; converged = false })
      (λ i a b v. ap (λ (e : ℕ). step ch.schedule (factor_of e) (code_graph c) c.z v)
      (each_at ch.eighths l E (i + 1) (omega arith) (omega arith)))

-- ---- in any memory
module _ (c : Code) (m : made c ≡ true) (schedule : Schedule) (e : ℕ → ℕ) (n : ℕ) (rx w w' : List Float)
    (room : work_of c ≤ length w)
    (room' : work_of c ≤ length w') where
  any_cut : cut c (unbroken schedule e c rx w n) ≡ cut c (unbroken schedule e c rx w' n)
  unfolding unbroken
  any_cut =
      same_iterated c m (record { memory = start_memory c rx w; iterations = 0; converged = false })
      (record { memory = start_memory c rx w'; iterations = 0; converged = false })
      (omega (arith, (start_front c rx).long w room)) (omega (arith, (start_front c rx).long w' room'))
      (ap (λ (v : List Float). record { memory = v; iterations = 0; converged = false })
      (same_start c rx w w' room room')) schedule e n

  long : work_of c ≤ length (unbroken schedule e c rx w n).memory
  long = omega (arith, (unbroken_front c m schedule e n rx).long w room)

  long' : work_of c ≤ length (unbroken schedule e c rx w' n).memory
  long' = omega (arith, (unbroken_front c m schedule e n rx).long w' room')

  pub any_result : result_of c (unbroken schedule e c rx w n) ≡ result_of c (unbroken schedule e c rx w' n)
  any_result = same_result c m _ _ long long' any_cut

  pub any_word : word_of c (unbroken schedule e c rx w n).memory
      ≡ word_of c (unbroken schedule e c rx w' n).memory
  any_word = same_word c m _ _ long long' any_cut

  pub any_numbers : take (work_of c) (unbroken schedule e c rx w n).memory
      ≡ take (work_of c) (unbroken schedule e c rx w' n).memory
  any_numbers = ap (λ p. p.memory) any_cut

  pub past_numbers : drop (work_of c) (unbroken schedule e c rx w n).memory ≡ drop (work_of c) w
  past_numbers = front_drop (unbroken_front c m schedule e n rx) w room

pub anywhere : Anywhere
anywhere c m schedule e rx w w' n room room' =
    let same = any_cut c m schedule e n rx w w' room room' in (
      ap (λ p. p.iterations) same,
      ap (λ p. p.converged) same,
      any_numbers c m schedule e n rx w w' room room',
      past_numbers c m schedule e n rx w w' room room',
    )

pub first_schedule : FirstSchedule
unfolding unbroken iterated step R.iterated R.unbroken
first_schedule c n = (λ e p. refl, λ p. rw six_is_alpha refl, λ rx w. rw six_is_alpha refl)
