-- Start, iterations and the word read and write the needed numbers of a memory alone, so each may be lent any part of it that has
-- them; and iterations go on where they were broken off. For any factor. Assumes nothing.
use mathlib.Core.Path.{◌≡◌, refl, sym, ap, ◌∙◌}
use mathlib.Core.Bool.{true, false, cond}
use mathlib.Core.List.{List, ◌++◌}
use Prim.Native.Nat.{ℕ, ◌+◌, ◌-◌, ◌*◌, ◌/◌, ◌%◌, ◌<◌, ◌≤◌}
use native.Mathlib.Omega.{arith}
use native.Mathlib.Nat.{add-mul}
use native.Mathlib.Decide.{dec_lt}
use lib.Dec.{ltb}
use lib.ListN.{length, take, drop, take-append-drop}
use lib.Ieee.{Float, nan}
use borrow.Author.Tests.{lt-ltb, le-ltb}
use Rattle.laws.specs.Floats.{nought}
use Rattle.laws.specs.Run.{Progress}
use Rattle.laws.specs.Written.{rewritten}
use Rattle.laws.proofs.Written.{tabulate_ext}
use Rattle.laws.proofs.Front.{Front, front_then, front_rewritten}
use Rattle.laws.proofs.Run.{seen, run_add, run_long, run_append}
use Rattle.tables.specs.declared.BaseGraph.{BaseGraph}
use Rattle.matrix.specs.Edges.{bit_at}
use Rattle.matrix.specs.Encoding.{bit}
use Rattle.messages.specs.Memory.{bits_of, slots_of, to_checks_at, to_bits_at, needed}
use Rattle.messages.specs.Iteration.{iteration, settled}
use Rattle.messages.proofs.Append.{iteration_front, same_settled, same_decision}
use Rattle.ldpc.specs.declared.choice.Code.{Code}
use Rattle.ldpc.specs.Choice.{made}
use Rattle.ldpc.specs.Code.{code_graph, info_end, work_of}
use Rattle.ldpc.proofs.Made.{sized}
use Rattle.ldpc.proofs.CodeEdges.{code_simple}
use Rattle.channel.specs.Channel.{channel_of, start_memory}
use Rattle.word.specs.Word.{word_of}
use Rattle.runs.specs.Runs.{iterated, unbroken}

-- no iteration done yet
abbrev fresh : List Float → Progress (List Float)
fresh w = record { memory = w; iterations = 0; converged = false }

module _ (c : Code) where
  -- numbers that do not hang on the memory
  put : (base n : ℕ) (f : ℕ → Float) → base + n ≤ work_of c → Front (work_of c) (rewritten base n f)
  put base n f h = front_rewritten nan base n (λ w. f) h (λ w x k s l. refl)

  pub start_front : (rx : List Float) → Front (work_of c) (start_memory c rx)
  unfolding start_memory work_of to_bits_at to_checks_at slots_of bits_of
  start_front rx =
      let g : BaseGraph = code_graph c in
      let channel = put 0 (bits_of g c.z) (channel_of c rx) (omega arith) in
      let totals = put (bits_of g c.z) (bits_of g c.z) (channel_of c rx) (omega arith) in
      let to_checks =
      put (to_checks_at g c.z) (slots_of g c.z) (λ s. channel_of c rx (bit_at g c.z (s / c.z) (s % c.z))) (omega arith) in
      let to_bits = put (to_bits_at g c.z) (slots_of g c.z) (λ s. nought) (omega arith) in
      front_then (front_then (front_then channel totals) to_checks) to_bits

  pub iterated_add : (factor : Float) (a b : ℕ) (p : Progress (List Float))
      → iterated factor c (a + b) p ≡ iterated factor c b (iterated factor c a p)
  unfolding iterated
  iterated_add factor = run_add _ _

  pub unbroken_add : (factor : Float) (rx w : List Float) (a b : ℕ)
      → unbroken factor c rx w (a + b) ≡ iterated factor c b (unbroken factor c rx w a)
  unfolding unbroken
  unbroken_add factor rx w a b = iterated_add factor a b _

module _ (c : Code) (m : made c ≡ true) where
  step_front : (factor : Float) → Front (work_of c) (iteration factor (code_graph c) c.z)
  unfolding work_of needed bits_of slots_of
  step_front = iteration_front (code_graph c) (code_simple c) c.z (sized c m).lift

  same_end : (w x : List Float) → work_of c ≤ length w → settled (code_graph c) c.z (w ++ x) ≡ settled (code_graph c) c.z w
  unfolding work_of needed bits_of slots_of
  same_end = same_settled (code_graph c) (code_simple c) c.z (sized c m).lift

  module _ (factor : Float) (n : ℕ) where
    pub iterated_long : (p : Progress (List Float)) → work_of c ≤ length p.memory
        → length (iterated factor c n p).memory ≡ length p.memory
    unfolding iterated
    iterated_long = run_long _ _ (λ i. step_front factor) same_end n

    iterated_append : (p : Progress (List Float)) (x : List Float) → work_of c ≤ length p.memory
        → iterated factor c n (seen (λ w. w ++ x) p) ≡ seen (λ w. w ++ x) (iterated factor c n p)
    unfolding iterated
    iterated_append = run_append _ _ (λ i. step_front factor) same_end n

    -- lent the first k numbers, where those are enough
    pub iterated_lent : (p : Progress (List Float)) (k : ℕ) → work_of c ≤ length (take k p.memory)
        → seen (λ w. w ++ drop k p.memory) (iterated factor c n (seen (take k) p)) ≡ iterated factor c n p
    iterated_lent p k h =
        sym (iterated_append (seen (take k) p) (drop k p.memory) h)
        ∙ ap (λ (w : List Float). iterated factor c n (seen (λ v. w) p)) (take-append-drop k p.memory)

    iterated_front : Front (work_of c) (λ w. (iterated factor c n (fresh w)).memory)
    iterated_front =
        record { append = λ w x h. ap (λ p. p.memory) (iterated_append (fresh w) x h); long = λ w h. iterated_long (fresh w) h }

    pub unbroken_front : (rx : List Float) → Front (work_of c) (λ w. (unbroken factor c rx w n).memory)
    unfolding unbroken
    unbroken_front rx = front_then (start_front c rx) iterated_front

  -- the place of a transmitted bit in the lifted word
  pub sent_lt : (i : ℕ) → i < c.n_tx → cond (ltb i c.k) i (info_end c + (i - c.k)) < bits_of (code_graph c) c.z
  unfolding info_end bits_of
  sent_lt i h =
      let S = sized c m in
      let s = (code_graph c).shape in
      let e : s.k_b * c.z + s.m_b * c.z ≡ s.n_b * c.z =
      sym (add-mul s.k_b s.m_b c.z) ∙ ap (λ x. x * c.z) S.shape.columns in
      elim (dec_lt i c.k) [
        | yes k ↦ rw (lt-ltb i c.k k) (omega (arith, S.info_most))
        | no k ↦ rw (le-ltb i c.k (omega arith)) (omega (arith, S.parity))
      ]

  pub word_append : (w x : List Float) → work_of c ≤ length w → word_of c (w ++ x) ≡ word_of c w
  unfolding word_of work_of needed bits_of slots_of
  word_append w x h =
      tabulate_ext _ _ c.n_tx
      (λ i k. ap bit (same_decision (code_graph c) (code_simple c) c.z (sized c m).lift w x h _ (sent_lt i k)))

  pub word_lent : (k : ℕ) (w : List Float) → work_of c ≤ length (take k w) → word_of c (take k w) ≡ word_of c w
  word_lent k w h = sym (word_append (take k w) (drop k w) h) ∙ ap (word_of c) (take-append-drop k w)
