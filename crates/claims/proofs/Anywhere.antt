-- The unbroken decode is of its code, its readings and its limit alone: whatever its memory held before Start, it tells the same, and
-- the needed numbers are the same. Assumes nothing.
use mathlib.Core.Path.{◌≡◌, sym, ap, ap₂, ◌∙◌}
use mathlib.Core.Bool.{true, false, ◌&&◌}
use mathlib.Core.List.{List, ◌++◌}
use Prim.Native.Nat.{ℕ, ◌<◌, ◌≤◌}
use native.Mathlib.Omega.{arith}
use lib.Dec.{eqb}
use lib.ListN.{length, take, drop, get_or}
use lib.Seq.{ext_get_or, length-take-le, get_or-take, take-append-le, take-length}
use lib.Ieee.{Float, nan}
use Rattle.laws.specs.Run.{Progress}
use Rattle.laws.proofs.Run.{seen}
use Rattle.messages.specs.Memory.{bits_of, slots_of, to_checks_at, to_bits_at}
use Rattle.ldpc.specs.declared.choice.Code.{Code}
use Rattle.ldpc.specs.Choice.{made}
use Rattle.ldpc.specs.Code.{code_graph, work_of}
use Rattle.coder.specs.Calls.{unsatisfied_of}
use Rattle.decoder.specs.declared.record.Decode.{Decode}
use Rattle.decoder.specs.declared.record.DecodeResult.{DecodeResult}
use Rattle.channel.specs.Channel.{channel_of, start_memory}
use Rattle.word.specs.Word.{word_of}
use Rattle.runs.specs.Runs.{iterated, unbroken}
use Rattle.decoder.specs.Decoding.{record_of, result_of}
use Rattle.claims.proofs.Regions.{any_memory, length_all}
use Rattle.claims.proofs.Whole.{iterated_lent, iterated_long, word_lent}

module _ (c : Code) (rx w w' : List Float) (room : work_of c ≤ length w) (room' : work_of c ≤ length w') where
  start_long : (v : List Float) → work_of c ≤ length v → length (start_memory c rx v) ≡ length v
  unfolding start_memory work_of to_bits_at to_checks_at bits_of slots_of
  start_long v h = length_all (bits_of (code_graph c) c.z) (slots_of (code_graph c) c.z) (channel_of c rx) _ v h

  same_place : (i : ℕ) → i < work_of c → get_or (start_memory c rx w) i nan ≡ get_or (start_memory c rx w') i nan
  unfolding start_memory work_of to_bits_at to_checks_at bits_of slots_of
  same_place = any_memory (bits_of (code_graph c) c.z) (slots_of (code_graph c) c.z) (channel_of c rx) _ w w' room room'

  pub same_start : take (work_of c) (start_memory c rx w) ≡ take (work_of c) (start_memory c rx w')
  same_start =
      let long = length-take-le (work_of c) (start_memory c rx w) (omega (arith, start_long w room)) in
      let long' = length-take-le (work_of c) (start_memory c rx w') (omega (arith, start_long w' room')) in
      ext_get_or nan (take (work_of c) (start_memory c rx w)) (take (work_of c) (start_memory c rx w')) (long ∙ sym long')
      (λ i h.
      let k : i < work_of c = omega (arith, long) in
      get_or-take (work_of c) (start_memory c rx w) i nan k ∙ same_place i k ∙ sym (get_or-take (work_of c) (start_memory c rx w') i nan k))

-- two decodes that tell the same: the record, what a read gives, and the needed numbers
pub record Same (c : Code) (p q : Progress (List Float)) : Type 0 where
  pub record_is : record_of c p ≡ record_of c q
  pub result_is : result_of c p ≡ result_of c q
  pub word_is : word_of c p.memory ≡ word_of c q.memory
  pub numbers_are : take (work_of c) p.memory ≡ take (work_of c) q.memory

module _ (c : Code) (m : made c ≡ true) (factor : Float) (n : ℕ) (rx : List Float) where
  -- the decode in the needed numbers alone
  fresh : List Float → Progress (List Float)
  fresh v = record { memory = start_memory c rx v; iterations = 0; converged = false }

  core : List Float → Progress (List Float)
  core v = iterated factor c n (seen (take (work_of c)) (fresh v))

  -- what a read tells, by the record and the word
  result : Decode → List ℕ → DecodeResult
  result d word =
      record { iterations = d.iterations; converged = d.converged; clean = d.converged && eqb (unsatisfied_of c word) 0 }

  module _ (v : List Float) (h : work_of c ≤ length v) where
    long : length (take (work_of c) (start_memory c rx v)) ≡ work_of c
    long = length-take-le (work_of c) (start_memory c rx v) (omega (arith, start_long c rx v v h h v h))

    core_is : seen (λ w. w ++ drop (work_of c) (start_memory c rx v)) (core v) ≡ unbroken factor c rx v n
    unfolding unbroken core fresh
    core_is = iterated_lent c m factor n (fresh v) (work_of c) (omega (arith, long))

    core_long : length (core v).memory ≡ work_of c
    unfolding core fresh
    core_long = iterated_long c m factor n (seen (take (work_of c)) (fresh v)) (omega (arith, long)) ∙ long

    numbers : take (work_of c) (unbroken factor c rx v n).memory ≡ (core v).memory
    numbers =
        ap (λ p. take (work_of c) p.memory) (sym core_is)
        ∙ take-append-le (work_of c) (core v).memory (drop (work_of c) (start_memory c rx v)) (omega (arith, core_long))
        ∙ ap (λ (k : ℕ). take k (core v).memory) (sym core_long) ∙ take-length (core v).memory

    core_same : Same c (unbroken factor c rx v n) (core v)
    unfolding record_of result_of result
    core_same =
        let word : word_of c (unbroken factor c rx v n).memory ≡ word_of c (core v).memory
        = sym (word_lent c m (work_of c) (unbroken factor c rx v n).memory (omega (arith, ap length numbers, core_long))) ∙ ap (word_of c) numbers in
        let told : record_of c (unbroken factor c rx v n) ≡ record_of c (core v) = ap (record_of c) (sym core_is) in
        record {
          record_is = told;
          result_is = ap₂ result told word;
          word_is = word;
          numbers_are = numbers ∙ sym (take-length (core v).memory) ∙ ap (λ (k : ℕ). take k (core v).memory) core_long;
        }

  pub anywhere : (w w' : List Float) → work_of c ≤ length w → work_of c ≤ length w'
      → Same c (unbroken factor c rx w n) (unbroken factor c rx w' n)
  unfolding core fresh
  anywhere w w' room room' =
      let e : core w ≡ core w' = ap (λ (v : List Float). iterated factor c n (seen (λ u. v) (fresh w))) (same_start c rx w w' room room') in
      let S = core_same w room in
      let S' = core_same w' room' in
      record {
        record_is = S.record_is ∙ ap (record_of c) e ∙ sym S'.record_is;
        result_is = S.result_is ∙ ap (result_of c) e ∙ sym S'.result_is;
        word_is = S.word_is ∙ ap (λ p. word_of c p.memory) e ∙ sym S'.word_is;
        numbers_are = S.numbers_are ∙ ap (λ p. take (work_of c) p.memory) e ∙ sym S'.numbers_are;
      }
