-- Eighths and layered schedule: a noiseless block ends after one iteration, at any factor, by either schedule.
-- Assumes nothing.
use mathlib.Core.Path.{◌≡◌, ap, ◌∙◌}
use mathlib.Core.Bool.{Bool, true, false}
use mathlib.Core.List.{List}
use Prim.Native.Nat.{ℕ, ◌/◌, ◌%◌, ◌<◌, ◌≤◌}
use lib.Dec.{eqb}
use lib.ListN.{length, get_or}
use lib.Ieee.{Float, nan}
use borrow.Author.Tests.{eq-eqb}
use Rattle.laws.specs.Run.{Progress, next}
use Rattle.laws.proofs.Floats.{Sided}
use Rattle.tables.specs.declared.BaseGraph.{BaseGraph}
use Rattle.matrix.specs.Edges.{bit_at}
use Rattle.matrix.specs.Checks.{lifted}
use Rattle.messages.specs.Memory.{bits_of, slots_of, to_checks_at, to_bits_at}
use Rattle.messages.specs.Iteration.{decision, settled}
use Rattle.bits.specs.Sums.{Bits}
use Rattle.ldpc.specs.declared.choice.Code.{Code}
use Rattle.ldpc.specs.Choice.{made}
use Rattle.ldpc.specs.Code.{code_graph, info_end, work_of}
use Rattle.ldpc.proofs.Made.{sized}
use Rattle.ldpc.proofs.CodeEdges.{code_simple}
use Rattle.coder.specs.Calls.{unsatisfied_of, encoding_of}
use Rattle.coder.proofs.Encoded.{encoded_length}
use Rattle.channel.specs.Channel.{channel_of, start_memory}
use Rattle.word.specs.Word.{word_of}
use Rattle.decoder.specs.Decoding.{result_of}
use Rattle.claims.proofs.Regions.{totals_at, bits_at}
use Rattle.claims.proofs.Noiseless.{run_first, encoded_bits, encoded_met, check_met, channel_sided, word_read, start_long, start_channel, start_fresh}
use Rattle.ahead.specs.Schedules.{Schedule, factor_of, step}
use Rattle.ahead.specs.Decoder.{iterated, unbroken}
use Rattle.ahead.proofs.Layered.{Fresh, codeword_settles, step_decides}
use Rattle.ahead.proofs.Eighths.{eighths_are_factors}

-- a decode has ended after one iteration, clean, on an encoding
abbrev pub Ends : Code → List ℕ → Progress (List Float) → Type 0
Ends c info p =
    (result_of c p ≡ record { iterations = 1; converged = true; clean = true })
    × (word_of c p.memory ≡ encoding_of c info)

module _ (c : Code) (m : made c ≡ true) (rx w : List Float) where
  abbrev g : BaseGraph
  g = code_graph c

  -- the memory after one iteration
  abbrev one : Schedule → (ℕ → ℕ) → List Float
  one schedule e = step schedule (factor_of (e 0)) g c.z (start_memory c rx w)

  -- ---- where that has converged, on an encoding, the unbroken decode ends there, clean
  module _ (info : List ℕ) (length_info : length info ≡ c.k) (bits : Bits info) (schedule : Schedule)
      (e : ℕ → ℕ)
      (settles : settled g c.z (one schedule e) ≡ true) (word : word_of c (one schedule e) ≡ encoding_of c info)
      (n : ℕ) (some : 1 ≤ n) where
    ends_first : unbroken schedule e c rx w n
        ≡ record { memory = one schedule e; iterations = 1; converged = true }
    unfolding unbroken iterated next
    ends_first =
        run_first (λ i. step schedule (factor_of (e i)) g c.z) (settled g c.z)
        (record { memory = start_memory c rx w; iterations = 0; converged = false }) settles n some
        ∙ (λ i. record { memory = one schedule e; iterations = 1; converged = settles i })

    pub ends : Ends c info (unbroken schedule e c rx w n)
    unfolding result_of
    ends =
        let clean = eq-eqb _ 0 (ap (unsatisfied_of c) word ∙ encoded_met c m info length_info bits) in (
          ap (result_of c) ends_first ∙ (λ i. record { iterations = 1; converged = true; clean = clean i }),
          ap (λ p. word_of c p.memory) ends_first ∙ word,
        )

  -- ---- so it is with a noiseless block
  module _ (room : work_of c ≤ length w) (info : List ℕ) (length_info : length info ≡ c.k) (bits : Bits info)
      (readings : (i : ℕ) → i < c.n_tx → Sided (eqb (get_or (encoding_of c info) i 0) 1) (get_or rx i nan))
    where
      abbrev x : ℕ → Bool
      x = lifted c.k (info_end c) (encoding_of c info)

      fresh : Fresh g c.z x (start_memory c rx w)
      unfolding start_memory to_checks_at to_bits_at bits_of slots_of work_of
      fresh =
          let sided = channel_sided c m (encoding_of c info) rx readings in
          let f : ℕ → Float = channel_of c rx in
          let message : ℕ → Float = λ s. f (bit_at g c.z (s / c.z) (s % c.z)) in
          record {
            long = start_long c m rx w room;
            channel = λ v h. rw (start_channel c m rx w room v h) (sided v h);
            totals = λ v h. rw (totals_at (bits_of g c.z) (slots_of g c.z) f message w room v h) (sided v h);
            to_checks = start_fresh c m rx w room;
            to_bits = bits_at (bits_of g c.z) (slots_of g c.z) f message w room;
          }

      module _ (schedule : Schedule) (e : ℕ → ℕ) (low : 1 ≤ e 0) (high : e 0 ≤ 8) where
        decision_is : (v : ℕ) → v < bits_of g c.z → decision g c.z (one schedule e) v ≡ x v
        decision_is =
            step_decides g (code_simple c) c.z (sized c m).lift x (check_met c m info length_info bits)
            (factor_of (e 0)) (eighths_are_factors (e 0) low high) (start_memory c rx w) fresh schedule

        settles_one : settled g c.z (one schedule e) ≡ true
        settles_one =
            codeword_settles g (code_simple c) c.z (sized c m).lift x (check_met c m info length_info bits)
            (one schedule e) decision_is

        word_is : word_of c (one schedule e) ≡ encoding_of c info
        unfolding encoding_of
        word_is =
            word_read c m (encoding_of c info) (encoded_length c m info)
            (encoded_bits g c.z c.k info length_info bits) (one schedule e) decision_is

        pub noiseless_ends : (n : ℕ) → 1 ≤ n → Ends c info (unbroken schedule e c rx w n)
        noiseless_ends = ends info length_info bits schedule e settles_one word_is
