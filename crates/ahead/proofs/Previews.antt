-- The preview: where a grant more would come to, and a grant to the copy. Assumes nothing.
use Rattle.std.specs.Prelude.{Ok, Err, None}
use mathlib.Core.Path.{◌≡◌, refl, sym, ap, ap₂, ◌∙◌, subst}
use mathlib.Core.Bool.{true}
use mathlib.Core.List.{List, [], ◌++◌}
use Prim.Native.Nat.{ℕ, ◌+◌, ◌≤◌, min}
use native.Mathlib.Omega.{arith}
use lib.ListN.{length, take, drop, take-append-drop, length-append}
use lib.Seq.{length-take-le, take-append-le, take_at, drop_at}
use lib.Ieee.{Float}
use borrow.Author.Tests.{le-ltb}
use Rattle.refusals.specs.Outcome.{Outcome, and_then, after, if_length}
use Rattle.refusals.specs.declared.Numbers.{Numbers}
use Rattle.laws.specs.Run.{Progress}
use Rattle.ldpc.specs.declared.choice.Code.{Code}
use Rattle.ldpc.specs.Choice.{made}
use Rattle.ldpc.specs.Code.{work_of}
use Rattle.ldpc.proofs.Refused.{made_passed}
use Rattle.decoder.specs.declared.record.DecodeResult.{DecodeResult}
use Rattle.word.specs.Word.{word_of}
use Rattle.decoder.specs.Decoding.{result_of}
use Rattle.decoder.specs.Calls.{if_work, if_sum}
use Rattle.claims.proofs.Cases.{length_cases, work_cases, sum_cases, work_same}
use Rattle.ahead.specs.Refused.{if_eighths, if_new_eighths, if_slice}
use Rattle.ahead.specs.Decoder.{Choices, Decode, record_of, progress_of, lowest_of, eighths_in_force, run_of_grant, lowest_after_grant, grant_outcome, memory_after_grant, read_outcome, word_after_read, preview_outcome}
use Rattle.ahead.specs.Claim.{Accepted, Owed, sum_of, eighths_at, unbroken_by, run_so_far, owed_record, owed_eighths, accepted_with, run_ahead, owed_preview, previewed_word, previewed_copy}
use Rattle.ahead.specs.Preview.{copy_with_needed, copy_after_preview, word_after_preview, IsAGrant}
use Rattle.refusals.proofs.Lengths.{length_passed}
use Rattle.ahead.proofs.Tests.{eighths_passed, work_passed, made_both, eighths_both, sum_both}
use Rattle.ahead.proofs.Unbroken.{cut, front_drop, iterated_long, iterated_front, unbroken_front, same_word, same_result, same_iterated, goes_on}
use Rattle.ahead.proofs.Factors.{same_force}

-- ---- a preview of what is held after a list of calls
module _ (c : Code) (m : made c ≡ true) (ch : Choices) (rx w : List Float) (enough : work_of c ≤ length w)
    (o : Owed) (g lent : ℕ)
    (copy : List Float) where
  abbrev W : ℕ
  W = work_of c

  abbrev here : Progress (List Float)
  here = run_so_far c ch rx w o.accepted

  abbrev lent_memory : List Float
  lent_memory = take lent here.memory

  abbrev there : Progress (List Float)
  there = run_ahead c ch rx w o g

  abbrev granted_in : List Float → Progress (List Float)
  granted_in v = run_of_grant (owed_record c ch rx w o) g None v

  here_long : W ≤ length here.memory
  unfolding run_so_far unbroken_by
  here_long =
      omega (
        arith,
        (unbroken_front c m ch.schedule (λ i. eighths_at o.accepted (i + 1)) (sum_of o.accepted)
            rx).long w enough,
      )

  there_long : W ≤ length there.memory
  unfolding run_ahead run_so_far unbroken_by
  there_long =
      let l : List Accepted = accepted_with c ch rx w o g None in
      omega (arith, (unbroken_front c m ch.schedule (λ i. eighths_at l (i + 1)) (sum_of l) rx).long w enough)

  module _ (v : List Float) (long : W ≤ length v) (same : take W v ≡ take W here.memory) where
    granted_cut : cut c (granted_in v) ≡ cut c there
    unfolding run_of_grant eighths_in_force progress_of owed_record record_of run_ahead accepted_with
        owed_eighths
    granted_cut =
        same_iterated c m (record {
          memory = v;
          iterations = here.iterations;
          converged = here.converged;
        }) here long here_long
        (ap (λ (u : List Float).
        record { memory = u; iterations = here.iterations; converged = here.converged }) same) ch.schedule
        (λ i. owed_eighths c ch rx w o None) g
        ∙ ap (cut c) (goes_on c ch rx w o.accepted (record { g = g; eighths = owed_eighths c ch rx w o None }))

    granted_long : W ≤ length (granted_in v).memory
    unfolding run_of_grant progress_of owed_record record_of
    granted_long =
        omega (
          arith,
          iterated_long c m ch.schedule (λ i. eighths_in_force (owed_record c ch rx w o) None) g
              (progress_of (owed_record c ch rx w o) v) long,
          long,
        )

    granted_past : drop W (granted_in v).memory ≡ drop W v
    unfolding run_of_grant progress_of owed_record record_of
    granted_past =
        front_drop (iterated_front c m ch.schedule (λ i. eighths_in_force (owed_record c ch rx w o) None) g
        here.iterations here.converged) v long

    result_there : result_of c (granted_in v) ≡ result_of c there
    result_there = same_result c m (granted_in v) there granted_long there_long granted_cut

    word_there : word_of c (granted_in v).memory ≡ word_of c there.memory
    word_there = same_word c m (granted_in v) there granted_long there_long granted_cut

    memory_there : (granted_in v).memory ≡ take W there.memory ++ drop W v
    memory_there =
        sym (take-append-drop W (granted_in v).memory) ∙ ap₂ ◌++◌ (ap (λ p. p.memory) granted_cut) granted_past

  lent_same : W ≤ length lent_memory → take W lent_memory ≡ take W here.memory
  lent_same h =
      sym (take-append-le W lent_memory (drop lent here.memory) h)
      ∙ ap (take W) (take-append-drop lent here.memory)

  module _ (low : 1 ≤ o.eighths) (high : o.eighths ≤ 8) (given : length lent_memory ≡ min lent (length w)) where
    pub preview_told : (room : ℕ) → preview_outcome (owed_record c ch rx w o) g lent_memory copy room
        ≡ owed_preview c ch rx w o g lent copy room
    unfolding preview_outcome owed_preview owed_record record_of
    preview_told room =
        made_passed _ c m
        ∙ ap (if_length 9 room c.n_tx)
        (eighths_passed o.eighths _ low high
        ∙ work_same c (length lent_memory) _ _
        (λ h. ap (λ r. if_work c (length copy) (if_sum (here.iterations + g) (Ok r)))
        (result_there lent_memory h (lent_same h)))
        ∙ ap (λ n. if_work c n
        (if_work c (length copy) (if_sum (here.iterations + g) (Ok (result_of c there))))) given)

    -- where it is accepted, the memory was lent far enough
    told_cases : (P : Outcome DecodeResult → Type 0) → ((n : Numbers) → P (Err n))
        → (W ≤ length lent_memory → P (Ok (result_of c there)))
        → (room : ℕ) → P (owed_preview c ch rx w o g lent copy room)
    unfolding owed_preview
    told_cases P refusal p room =
        length_cases P refusal 9 room c.n_tx (λ a.
        work_cases P refusal c (min lent (length w)) (λ h.
        work_cases P refusal c (length copy) (λ k. sum_cases P refusal (here.iterations + g) (p (rw given h)))))

    pub preview_word : (out : List ℕ)
        → word_after_preview (owed_record c ch rx w o) g lent_memory copy out
        ≡ previewed_word c ch rx w o g lent copy out
    unfolding word_after_preview previewed_word owed_record record_of
    preview_word out =
        ap (λ t. after t (λ _. word_of c (granted_in lent_memory).memory) out) (preview_told (length out))
        ∙ told_cases (λ t. after t (λ _. word_of c (granted_in lent_memory).memory) out
        ≡ after t (λ _. word_of c there.memory) out) (λ n. refl)
        (λ h. word_there lent_memory h (lent_same h)) (length out)

    pub preview_copy : (room : ℕ)
        → copy_after_preview (owed_record c ch rx w o) g lent_memory copy room
        ≡ previewed_copy c ch rx w o g lent copy room
    unfolding copy_after_preview previewed_copy copy_with_needed owed_record record_of
    preview_copy room =
        let v : List Float = take W lent_memory ++ drop W copy in
        ap (λ t. after t (λ _. (granted_in v).memory) copy) (preview_told room)
        ∙ told_cases (λ t. after t (λ _. (granted_in v).memory) copy
        ≡ after t (λ _. take W there.memory ++ drop W copy) copy) (λ n. refl)
        (λ h.
        let long = length-take-le W lent_memory h in
        let v_long : W ≤ length v = omega (arith, length-append (take W lent_memory) (drop W copy), long) in
        memory_there v v_long (take_at (take W lent_memory) (drop W copy) W long ∙ lent_same h)
        ∙ ap (λ (x : List Float). take W there.memory ++ x) (drop_at (take W lent_memory) (drop W copy) W long))
        room

-- ---- a preview is a grant to the copy and a read
module _ (d : Decode) (g : ℕ) (w copy : List Float) (out : List ℕ) (room : work_of d.code ≤ length w)
    (room' : work_of d.code ≤ length copy)
    (long : length out ≡ d.code.n_tx) where
  abbrev needs : ℕ
  needs = work_of d.code

  abbrev v : List Float
  v = copy_with_needed d w copy

  take_long : length (take needs w) ≡ needs
  take_long = length-take-le needs w room

  v_long : needs ≤ length v
  unfolding copy_with_needed
  v_long = omega (arith, length-append (take needs w) (drop needs copy), take_long)

  left_long : made d.code ≡ true → (u : List Float) → needs ≤ length u
      → needs ≤ length (run_of_grant d g None u).memory
  unfolding run_of_grant progress_of
  left_long m u h =
      omega (arith, iterated_long d.code m d.schedule (λ i. eighths_in_force d None) g (progress_of d u) h, h)

  same_cut : made d.code ≡ true → cut d.code (run_of_grant d g None w) ≡ cut d.code (run_of_grant d g None v)
  unfolding run_of_grant progress_of copy_with_needed
  same_cut m =
      same_iterated d.code m (progress_of d w) (progress_of d v) room v_long
      (ap (λ (u : List Float). progress_of d u)
      (sym (take_at (take needs w) (drop needs copy) needs take_long))) d.schedule
      (λ i. eighths_in_force d None) g

  -- the cases: 11, 13, 10, and the grant
  Goal : Outcome DecodeResult → Outcome Decode → Type 0
  Goal p t =
      let left = after t (λ _. (run_of_grant d g None v).memory) v in
      (p ≡ and_then t (λ e. read_outcome e left (length out)))
      × (after p (λ _. (run_of_grant d g None v).memory) copy ≡ after t (λ _. left) copy)
      × (after p (λ _. word_of d.code (run_of_grant d g None w).memory) out
      ≡ after t (λ e. word_after_read e left out) out)

  refusals : (n : Numbers) → Goal (Err n) (Err n)
  unfolding Goal
  refusals n = (refl, refl, refl)

  abbrev rec : Decode
  rec = record_of d.code d.schedule (eighths_in_force d None) (lowest_of d []) (run_of_grant d g None v)

  module _ (m : made d.code ≡ true) (low : 1 ≤ d.eighths) (high : d.eighths ≤ 8) where
    read_is : read_outcome rec (run_of_grant d g None v).memory (length out)
        ≡ Ok (result_of d.code (run_of_grant d g None v))
    unfolding read_outcome record_of progress_of if_work result_of
    read_is =
        let f = same_force d in
        made_passed _ d.code m ∙ length_passed _ 9 (length out) d.code.n_tx long
        ∙ eighths_passed (eighths_in_force d None) _ (omega (arith, f)) (omega (arith, f))
        ∙ (rw (le-ltb (length (run_of_grant d g None v).memory) needs (left_long m v v_long)) refl)

    accepted : Goal (Ok (result_of d.code (run_of_grant d g None w))) (Ok rec)
    unfolding Goal word_after_read record_of
    accepted = (
      ap Ok (same_result d.code m _ _ (left_long m w room) (left_long m v v_long) (same_cut m)) ∙ sym read_is,
      refl,
      same_word d.code m _ _ (left_long m w room) (left_long m v v_long) (same_cut m)
          ∙ sym (ap (λ t. after t (λ _. word_of d.code (run_of_grant d g None v).memory) out) read_is),
    )

  tested : Goal (preview_outcome d g w copy (length out)) (grant_outcome d g None None v)
  unfolding preview_outcome grant_outcome if_slice if_new_eighths lowest_after_grant
  tested =
      made_both Goal refusals d.code (λ m.
      subst (λ p. Goal p (if_eighths d.eighths
      (if_work d.code (length v) (if_sum (d.iterations + g) (Ok rec)))))
      (sym (length_passed _ 9 (length out) d.code.n_tx long))
      (eighths_both Goal refusals d.eighths (λ e.
      subst (λ p. Goal p (if_work d.code (length v) (if_sum (d.iterations + g) (Ok rec))))
      (sym (work_passed d.code (length w) room _ ∙ work_passed d.code (length copy) room' _))
      (subst (λ t. Goal (if_sum (d.iterations + g) (Ok (result_of d.code (run_of_grant d g None w)))) t)
      (sym (work_passed d.code (length v) v_long _))
      (sum_both Goal refusals (d.iterations + g) (accepted m e.0 e.1))))))

pub is_a_grant : IsAGrant
unfolding copy_after_preview word_after_preview memory_after_grant Goal
is_a_grant d g w copy out room room' long = tested d g w copy out room room' long
