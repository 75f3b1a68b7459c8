-- Lowest count: the least count over a list whose calls all brought the slice. Assumes nothing.
use Rattle.std.specs.Prelude.{Option, Some, None, Ok, Err}
use mathlib.Core.Path.{◌≡◌, refl, sym, ap, ◌∙◌, subst}
use mathlib.Core.Bool.{true, false, cond}
use mathlib.Core.List.{List, [], ◌∷◌, ◌++◌}
use Prim.Native.Nat.{ℕ, ◌+◌, ◌-◌, ◌≤◌, ◌*◌}
use native.Mathlib.Omega.{arith}
use lib.ListN.{length, drop}
use lib.Ieee.{Float}
use Rattle.refusals.specs.Outcome.{Outcome, after}
use Rattle.laws.specs.Run.{Progress, run}
use Rattle.ldpc.specs.declared.choice.Code.{Code}
use Rattle.ldpc.specs.Choice.{made}
use Rattle.ldpc.specs.Code.{work_of, checks_of, code_graph, info_end}
use Rattle.coder.specs.Calls.{unsatisfied_of}
use Rattle.channel.specs.Channel.{start_memory}
use Rattle.word.specs.Word.{word_of}
use Rattle.ahead.specs.Decoder.{Choices, Decode, Lowest, iterated, unbroken, record_of, first_lowest, run_of_grant, lowest_after_grant, lowest_of, progress_of, eighths_in_force, grant_outcome, slice_after_grant}
use Rattle.ahead.specs.Claim.{preview, Call, grant, read, held_first, after_all, Accepted, sum_of, eighths_at, Owed, unbroken_by, run_so_far, owed_record, owed_eighths, accepted_with, owed_lowest_from, owed_lowest, with_grant, owed_after, owed_all, owed_first, held_at, owed_lowest_first, least_place, BringsSlice, LowestKept, GrantWeighs, CountFits}
use Rattle.ahead.proofs.Unbroken.{low_same, goes_on, iterated_most, iterated_least}
use Rattle.ahead.proofs.Lowest.{count_at, LeastOf, least_first, least_is, weigh_least, least_ext, told_all}
use Rattle.ahead.proofs.Claim.{A, all_room, broken, owed_cases, weighed_is}
use lib.Dec.{eqb}
use borrow.Author.Tests.{ne_eqb}
use Rattle.refusals.specs.declared.Numbers.{Numbers}
use Rattle.claims.proofs.Cases.{made_cases, length_cases, work_cases, sum_cases, never}
use Rattle.ahead.specs.Refused.{if_slice}
use Rattle.ahead.proofs.Tests.{eighths_cases, brought_cases}
use Rattle.ldpc.proofs.Theorems.{code_sizes}
use Rattle.laws.proofs.Collect.{count_most}
use Rattle.matrix.specs.Checks.{check_sum, lifted, unmet}

-- ---- the least count over a list whose calls all brought the slice
module _ (c : Code) (m : made c ≡ true) (ch : Choices) (rx w : List Float) (enough : work_of c ≤ length w)
    (word : List ℕ) where
  -- what is read at i, weighed there
  abbrev read_at : List Accepted → ℕ → Lowest
  read_at l i =
      let read = word_of c (unbroken_by c ch rx w l i).memory in
      record { count = unsatisfied_of c read; at = i; word = read }

  abbrev Least : Owed → Type 0
  Least o = LeastOf (read_at o.accepted) (run_so_far c ch rx w o.accepted).iterations o.lowest

  reached_most : (l : List Accepted) → (run_so_far c ch rx w l).iterations ≤ sum_of l
  unfolding run_so_far unbroken_by unbroken
  reached_most l =
      omega (
        arith,
        iterated_most c ch.schedule (λ i. eighths_at l (i + 1)) (sum_of l) (record {
          memory = start_memory c rx w;
          iterations = 0;
          converged = false;
        }),
      )

  -- and no fewer after one grant more
  reached_rises : (l : List Accepted) (a : Accepted)
      → (run_so_far c ch rx w l).iterations ≤ (run_so_far c ch rx w (l ++ (a ∷ []))).iterations
  reached_rises l a =
      omega (
        arith,
        iterated_least c ch.schedule (λ i. a.eighths) a.g (run_so_far c ch rx w l),
        ap (λ p. p.iterations) (goes_on c ch rx w l a),
      )

  least_grant : (o : Owed) → Least o → (g : ℕ) (brought : Option ℕ) (k : ℕ)
      → Least (with_grant c ch rx w o g brought (Some k))
  unfolding owed_lowest accepted_with
  least_grant o L g brought k =
      let a : Accepted = record { g = g; eighths = owed_eighths c ch rx w o brought } in
      let more : List Accepted = o.accepted ++ (a ∷ []) in
      let before : ℕ = (run_so_far c ch rx w o.accepted).iterations in
      let n : ℕ = (run_so_far c ch rx w more).iterations - before in
      let before_less : before ≤ sum_of o.accepted = reached_most o.accepted in
      let L' : LeastOf (read_at more) before o.lowest
      = least_ext (read_at o.accepted) (read_at more) before o.lowest
      (λ i h. ap (λ (p : Progress (List Float)).
      record { count = unsatisfied_of c (word_of c p.memory); at = i; word = word_of c p.memory })
      (sym (low_same c ch rx w o.accepted a i (omega (arith, before_less))))) L in
      let all : before + n ≡ (run_so_far c ch rx w more).iterations =
      omega (arith, reached_rises o.accepted a) in
      subst (λ (i : ℕ). LeastOf (read_at more) i (owed_lowest_from c ch rx w more before n o.lowest)) all
      (subst (LeastOf (read_at more) (before + n))
      (sym (weighed_is c m ch rx w enough word more before n o.lowest))
      (weigh_least (read_at more) c (λ j. (unbroken_by c ch rx w more (before + j)).memory) before before n
      o.lowest L' (λ j x y. refl)))

  least_one : (o : Owed) → Least o → (g : ℕ) (brought : Option ℕ) (k lent : ℕ)
      → Least (owed_after c ch rx w (length word) o (grant g brought (Some k) lent))
  unfolding owed_after
  least_one o L g brought k lent =
      owed_cases c ch rx w (length word) o g brought (Some k) lent
      (λ t. Least (after t (λ _. with_grant c ch rx w o g brought (Some k)) o)) (λ n. L)
      (λ f B h. least_grant o L g brought k)

  least_all : (o : Owed) → Least o → (calls : List Call) → BringsSlice calls
      → Least (owed_all c ch rx w (length word) o calls)
  unfolding owed_all owed_after
  least_all o L [] B = L
  least_all o L (grant g brought None lent ∷ calls) B = absurd B
  least_all o L (grant g brought (Some k) lent ∷ calls) B =
      least_all (owed_after c ch rx w (length word) o (grant g brought (Some k) lent))
      (least_one o L g brought k lent) calls B
  least_all o L (read lent out ∷ calls) B = least_all o L calls B
  least_all o L (preview g lent copy out ∷ calls) B = least_all o L calls B

pub lowest_kept : LowestKept
unfolding owed_first held_at owed_record record_of run_so_far unbroken_by unbroken iterated run sum_of
    first_lowest
lowest_kept c ch rx w k word lent d start calls B =
    let S = A c ch rx w (Some k) word lent d start in
    let room = all_room c ch rx w (Some k) word lent d start in
    let first : Owed = owed_first c ch rx w (owed_lowest_first c rx w (Some k) word) in
    let o : Owed = owed_all c ch rx w (length word) first calls in
    let at : ℕ → Lowest = λ i. read_at c S.code_made ch rx w room word o.accepted i in
    let starts : LeastOf (λ i. read_at c S.code_made ch rx w room word [] i) 0
    (owed_lowest_first c rx w (Some k) word) = least_first _ in
    let L = least_all c S.code_made ch rx w room word first starts calls B in
    let held = (broken c ch rx w (Some k) word lent d start calls).1 in
    let is : o.lowest ≡ at
    (least_place (count_at at) (after_all (held_first d c ch rx (Some k) word w lent) calls).decode.iterations)
    = least_is at (run_so_far c ch rx w o.accepted).iterations o.lowest L
    ∙ ap (λ (i : ℕ). at (least_place (count_at at) i)) (sym (ap (λ h. h.decode.iterations) held)) in (
      ap (λ h. h.decode.lowest_at) held ∙ ap (λ x. x.at) is,
      ap (λ h. h.decode.lowest) held ∙ ap (λ x. x.count) is,
      ap (λ h. h.word) held ∙ ap (λ (x : Lowest). x.word ++ drop c.n_tx word) is,
    )

-- ---- a grant with the slice, of any record
module _ (d : Decode) (g : ℕ) (brought : Option ℕ) (word : List ℕ) (w : List Float) where
  abbrev c : Code
  c = d.code

  abbrev stood : Lowest
  stood = lowest_of d word

  abbrev run_to : ℕ → Progress (List Float)
  run_to i = run_of_grant d i brought w

  -- what stood, at 0, and what is read after i iterations
  abbrev candidate : ℕ → Lowest
  candidate i =
      let read = word_of c (run_to i).memory in
      record {
        count = cond (eqb i 0) stood.count (unsatisfied_of c read);
        at = cond (eqb i 0) stood.at (d.iterations + i);
        word = cond (eqb i 0) stood.word read;
      }

  candidate_after : (i : ℕ) → 1 ≤ i
      → record {
        count = unsatisfied_of c (word_of c (run_to i).memory);
        at = d.iterations + i;
        word = word_of c (run_to i).memory;
      } ≡ candidate i
  candidate_after i h = rw (ne_eqb i 0 (omega arith)) refl

  weighs : lowest_after_grant d g brought (Some word) w
      ≡ candidate (least_place (count_at candidate) ((run_to g).iterations - d.iterations))
  unfolding lowest_after_grant run_of_grant progress_of
  weighs =
      let n : ℕ = (run_to g).iterations - d.iterations in
      (told_all c d.schedule (λ i. eighths_in_force d brought) (progress_of d w) stood g).lowest_is
      ∙ least_is candidate (0 + n) _
      (weigh_least candidate c (λ j. (run_to j).memory) d.iterations 0 n stood (least_first candidate)
      (λ j a b. candidate_after j a ∙ ap candidate (omega arith)))
      ∙ ap (λ (k : ℕ). candidate (least_place (count_at candidate) k)) (omega arith)

  -- of an answer x, and of what it leaves in the slice
  abbrev Weighs : Decode → List ℕ → Type 0
  Weighs x left =
      let least = candidate (least_place (count_at candidate) (x.iterations - d.iterations)) in
      (x.lowest ≡ least.count) × (x.lowest_at ≡ least.at) × (left ≡ least.word)

  record_weighs : Weighs
      (record_of c d.schedule (eighths_in_force d brought) (lowest_after_grant d g brought (Some word) w)
      (run_to g)) (lowest_after_grant d g brought (Some word) w).word
  unfolding record_of
  record_weighs = (ap (λ y. y.count) weighs, ap (λ y. y.at) weighs, ap (λ y. y.word) weighs)

pub grant_weighs : GrantWeighs
unfolding grant_outcome if_slice slice_after_grant lowest_of
grant_weighs d g brought word w x e =
    made_cases P refusal d.code (λ m.
    length_cases P refusal 9 (length word) d.code.n_tx (λ l.
    eighths_cases P refusal d.eighths _ (λ a.
    brought_cases P refusal brought _ (λ b.
    work_cases P refusal d.code (length w) (λ h. sum_cases P refusal (d.iterations + g) given))))) e
  where
    P : Outcome Decode → Type 0
    P t =
        t ≡ Ok x → Weighs d g brought word w x
        (after t (λ _. (lowest_after_grant d g brought (Some word) w).word) word)

    refusal : (n : Numbers) → P (Err n)
    refusal n = never n

    given : P (Ok (record_of d.code d.schedule (eighths_in_force d brought)
        (lowest_after_grant d g brought (Some word) w) (run_of_grant d g brought w)))
    given q =
        let is : record_of d.code d.schedule (eighths_in_force d brought)
        (lowest_after_grant d g brought (Some word) w) (run_of_grant d g brought w) ≡ x = cc in
        subst (λ y. Weighs d g brought word w y (lowest_after_grant d g brought (Some word) w).word) is
        (record_weighs d g brought word w)

-- ---- a count of failed checks fits
pub count_fits : CountFits
unfolding unsatisfied_of unmet checks_of
count_fits code m word =
    omega (
      arith,
      count_most (check_sum (code_graph code) code.z (lifted code.k (info_end code) word))
          ((code_graph code).shape.m_b * code.z),
      (code_sizes code m).checks_most,
    )
