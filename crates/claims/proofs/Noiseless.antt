-- A noiseless block is decoded in one iteration: where no reading is NaN and the negative ones are exactly the ones of a codeword,
-- a decode with a limit of 1 or more gives that word, 1 iteration, converged and clean. Assumes nothing.
use mathlib.Core.Path.{◌≡◌, refl, sym, ap, ◌∙◌}
use mathlib.Core.Bool.{Bool, true, false, cond}
use mathlib.Core.List.{List}
use Prim.Native.Nat.{ℕ, ◌+◌, ◌-◌, ◌*◌, ◌/◌, ◌%◌, ◌<◌, ◌≤◌}
use native.Mathlib.Omega.{arith}
use native.Mathlib.Decide.{dec_lt}
use native.Mathlib.Nat.{add-mul}
use lib.Dec.{ltb, eqb}
use lib.ListN.{length, get_or, take}
use lib.Seq.{ext_get_or, length-take-le, get_or-take}
use lib.Ieee.{Float, nan, is_nan, lt, fits}
use borrow.Author.Tests.{lt-ltb, le-ltb, le-leb, lt-leb, eq-eqb}
use Rattle.laws.specs.Floats.{negative}
use Rattle.laws.specs.Run.{Progress, next, run}
use Rattle.laws.proofs.Collect.{none_counted}
use Rattle.laws.proofs.Floats.{Sided, Factor}
use Rattle.laws.proofs.Run.{run_add, run_done}
use Rattle.laws.proofs.Slots.{edge_lt}
use Rattle.laws.proofs.Written.{length_tabulate, get_d_tabulate}
use Rattle.tables.specs.declared.BaseGraph.{BaseGraph}
use Rattle.matrix.specs.Edges.{bit_at}
use Rattle.matrix.specs.Checks.{check_sum, unmet, is_sent, place_of, lifted}
use Rattle.matrix.specs.Encoding.{parity_bit, bit, encoding}
use Rattle.matrix.proofs.Edges.{bit_lt}
use Rattle.matrix.proofs.Words.{lifted_parity, bit_of, length_encoding, encoding_info, encoding_parity}
use Rattle.messages.specs.Memory.{bits_of, slots_of, to_checks_at, to_bits_at, needed, reading}
use Rattle.messages.specs.Iteration.{iteration, decision, settled}
use Rattle.messages.proofs.Noiseless.{decides, settles}
use Rattle.bits.specs.Sums.{Bits}
use Rattle.bits.proofs.Bytes.{bit_most}
use Rattle.ldpc.specs.declared.choice.Code.{Code}
use Rattle.ldpc.specs.Choice.{made}
use Rattle.ldpc.specs.Code.{code_graph, info_end, checks_of, work_of}
use Rattle.ldpc.proofs.Made.{sized}
use Rattle.ldpc.proofs.CodeEdges.{code_simple}
use Rattle.coder.specs.Calls.{unsatisfied_of, encoding_of}
use Rattle.coder.proofs.Encoded.{encoded_length}
use Rattle.coder.proofs.Theorems.{codeword}
use Rattle.claims.proofs.Whole.{sent_lt}
use Rattle.claims.proofs.Regions.{length_all, sent_at_lem, channel_at}
use Rattle.channel.specs.Channel.{certain, channel_of, start_memory}
use Rattle.word.specs.Word.{word_of}
use Rattle.runs.specs.Runs.{alpha, iterated, unbroken}
use Rattle.decoder.specs.Decoding.{result_of}

-- ---- the code's constants
pub alpha_positive : Factor alpha
unfolding lt fits
alpha_positive = record { above = refl; finite = refl; fit = refl }

certain_sided : Sided false certain
unfolding negative is_nan lt fits
certain_sided = record { number = refl; side = refl; fit = refl }

-- ---- a run whose first iteration converges ends there
module _ {W : Type 0} (iterate : ℕ → W → W) (settled : W → Bool) where
  pub run_first : (p : Progress W) → (next iterate settled p).converged ≡ true → (n : ℕ) → 1 ≤ n
      → run iterate settled n p ≡ next iterate settled p
  unfolding run
  run_first p e n h =
      let k : 1 + (n - 1) ≡ n = omega arith in
      rw (← k) (run_add iterate settled 1 (n - 1) p ∙ run_done iterate settled (n - 1) (next iterate settled p) e)

-- ---- the lifted bit that is sent at place i: those below k, and then those from `end` on
abbrev pub sent_bit : ℕ → ℕ → ℕ → ℕ
sent_bit k end i = cond (ltb i k) i (end + (i - k))

module _ (k end : ℕ) (short : k ≤ end) (i : ℕ) where
  pub sent_is : (word : List ℕ) → lifted k end word (sent_bit k end i) ≡ eqb (get_or word i 0) 1
  unfolding lifted is_sent place_of
  sent_is word =
      elim (dec_lt i k) [
        | yes h ↦ rw (lt-ltb i k h, lt-ltb i k h)
        | no h ↦
            let e : k + (i - k) ≡ i = omega arith in
            rw (le-ltb i k (omega arith), lifted_parity k end word short (i - k), e)
      ]

-- ---- an encoding's bytes are bits, and the first k are those that were given
module _ (g : BaseGraph) (z k : ℕ) (info : List ℕ) (length_info : length info ≡ k) where
  pub own_bits : take k (encoding g z k info) ≡ info
  own_bits =
      let word : List ℕ = encoding g z k info in
      let long : length (take k word) ≡ k = length-take-le k word (omega (arith, length_encoding g z k info)) in
      ext_get_or 0 (take k word) info (long ∙ sym length_info)
      (λ i h. let l : i < k = omega arith in get_or-take k word i 0 l ∙ encoding_info g z k info i l)

  pub encoded_bits : Bits info → Bits (encoding g z k info)
  encoded_bits bits i h =
      elim (dec_lt i k) [
        | yes l ↦ rw (encoding_info g z k info i l) (bits i (omega arith))
        | no l ↦
            let e : k + (i - k) ≡ i = omega arith in
            rw (← e, encoding_parity g z k info (i - k) (omega (arith, length_encoding g z k info)))
            (bit_most (parity_bit g z (lifted k (g.shape.k_b * z) info) ((i - k) / z) ((i - k) % z)))
      ]

-- ---- a code that is made
module _ (c : Code) (is_made : made c ≡ true) where
  abbrev g : BaseGraph
  g = code_graph c

  pub short : c.k ≤ info_end c
  unfolding info_end
  short = (sized c is_made).info_most

  pub block : c.k + checks_of c ≡ c.n_tx
  unfolding checks_of
  block = (sized c is_made).parity

  pub all_bits : info_end c + checks_of c ≡ bits_of g c.z
  unfolding info_end checks_of bits_of
  all_bits =
      sym (add-mul g.shape.k_b g.shape.m_b c.z) ∙ ap (λ (n : ℕ). n * c.z) (sized c is_made).shape.columns

  -- an encoding meets every check
  module _ (info : List ℕ) (length_info : length info ≡ c.k) (bits : Bits info) where
    pub encoded_met : unsatisfied_of c (encoding_of c info) ≡ 0
    unfolding encoding_of
    encoded_met =
        (codeword c is_made (encoding_of c info) (encoded_length c is_made info) (encoded_bits g c.z c.k info length_info bits)).1
        (ap (encoding_of c) (sym (own_bits g c.z c.k info length_info)))

    pub check_met : (s : ℕ) → s < g.shape.m_b * c.z → check_sum g c.z (lifted c.k (info_end c) (encoding_of c info)) s ≡ false
    unfolding unsatisfied_of unmet
    check_met = none_counted _ (g.shape.m_b * c.z) encoded_met

  module _ (word : List ℕ) where
    -- where the readings are on the sides of a word's bits, so is the channel, shortened places included
    pub channel_sided : (rx : List Float) → ((i : ℕ) → i < c.n_tx → Sided (eqb (get_or word i 0) 1) (get_or rx i nan))
        → (v : ℕ) → v < bits_of g c.z → Sided (lifted c.k (info_end c) word v) (channel_of c rx v)
    unfolding channel_of lifted is_sent place_of
    channel_sided rx readings v h =
        elim (dec_lt v c.k) [
          | yes l ↦ rw (lt-ltb v c.k l) (readings v (omega (arith, block)))
          | no l ↦
              elim (dec_lt v (info_end c)) [
                | yes m ↦ rw (le-ltb v c.k (omega arith), lt-ltb v (info_end c) m, lt-leb (info_end c) v m) certain_sided
                | no m ↦
                    rw (le-ltb v c.k (omega arith), le-ltb v (info_end c) (omega arith), le-leb (info_end c) v (omega arith))
                    (readings (c.k + (v - info_end c)) (omega (arith, block, all_bits)))
              ]
        ]

    -- where the decisions are a word's bits, that word is read
    module _ (long : length word ≡ c.n_tx) (bits : Bits word) (w : List Float)
        (decided : (v : ℕ) → v < bits_of g c.z → decision g c.z w v ≡ lifted c.k (info_end c) word v) where
      bit_read : (i : ℕ) → i < c.n_tx → get_or (word_of c w) i 0 ≡ get_or word i 0
      unfolding word_of
      bit_read i h =
          let inside = sent_lt c is_made i h in
          get_d_tabulate 0 _ c.n_tx i h
          ∙ ap bit (decided (sent_bit c.k (info_end c) i) inside ∙ sent_is c.k (info_end c) short i word)
          ∙ bit_of (get_or word i 0) (bits i (omega arith))

      pub word_read : word_of c w ≡ word
      unfolding word_of
      word_read =
          let length_read : length (word_of c w) ≡ c.n_tx = length_tabulate _ c.n_tx in
          ext_get_or 0 (word_of c w) word (length_read ∙ sym long) (λ i h. bit_read i (omega arith))

  -- what stands where after Start
  module _ (rx w : List Float) (room : work_of c ≤ length w) where
    abbrev message : ℕ → Float
    message s = channel_of c rx (bit_at g c.z (s / c.z) (s % c.z))

    pub start_long : needed g c.z ≤ length (start_memory c rx w)
    unfolding start_memory to_checks_at to_bits_at needed bits_of slots_of work_of
    start_long = rw (length_all (bits_of g c.z) (slots_of g c.z) (channel_of c rx) message w room) room

    pub start_channel : (v : ℕ) → v < bits_of g c.z → get_or (start_memory c rx w) v nan ≡ channel_of c rx v
    unfolding start_memory to_checks_at to_bits_at bits_of slots_of work_of
    start_channel = channel_at (bits_of g c.z) (slots_of g c.z) (channel_of c rx) message w room

    pub start_sent : (s : ℕ) → s < slots_of g c.z → reading (start_memory c rx w) (to_checks_at g c.z) s ≡ message s
    unfolding start_memory to_checks_at to_bits_at bits_of slots_of work_of
    start_sent = sent_at_lem (bits_of g c.z) (slots_of g c.z) (channel_of c rx) message w room

    pub start_fresh : (s : ℕ) → s < slots_of g c.z
        → reading (start_memory c rx w) (to_checks_at g c.z) s ≡ get_or (start_memory c rx w) (bit_at g c.z (s / c.z) (s % c.z)) nan
    unfolding slots_of bits_of
    start_fresh s h =
        let lift = (sized c is_made).lift in
        let column = (code_simple c).column_lt (s / c.z) (edge_lt lift h) in
        start_sent s h ∙ sym (start_channel _ (bit_lt g c.z (s / c.z) (s % c.z) lift g.shape.n_b column))

-- ---- the theorem
module _ (factor : Float) (positive : Factor factor) (c : Code) (is_made : made c ≡ true) (rx w : List Float)
    (room : work_of c ≤ length w)
    (info : List ℕ) (length_info : length info ≡ c.k) (bits : Bits info)
    (readings : (i : ℕ) → i < c.n_tx → Sided (eqb (get_or (encoding_of c info) i 0) 1) (get_or rx i nan)) where
  abbrev x : ℕ → Bool
  x = lifted c.k (info_end c) (encoding_of c info)

  channel : (v : ℕ) → v < bits_of (code_graph c) c.z → Sided (x v) (get_or (start_memory c rx w) v nan)
  channel v h =
      rw (start_channel c is_made rx w room v h) (channel_sided c is_made (encoding_of c info) rx readings v h)

  -- the memory after one iteration
  abbrev first : List Float
  first = iteration factor (code_graph c) c.z (start_memory c rx w)

  first_decides : (v : ℕ) → v < bits_of (code_graph c) c.z → decision (code_graph c) c.z first v ≡ x v
  first_decides =
      decides factor positive (code_graph c) (code_simple c) c.z (sized c is_made).lift x (check_met c is_made info length_info bits)
      (start_memory c rx w) (start_long c is_made rx w room) channel (start_fresh c is_made rx w room)

  first_settles : settled (code_graph c) c.z first ≡ true
  first_settles =
      settles factor positive (code_graph c) (code_simple c) c.z (sized c is_made).lift x (check_met c is_made info length_info bits)
      (start_memory c rx w) (start_long c is_made rx w room) channel (start_fresh c is_made rx w room)

  first_word : word_of c first ≡ encoding_of c info
  unfolding encoding_of
  first_word =
      word_read c is_made (encoding_of c info) (encoded_length c is_made info)
      (encoded_bits (code_graph c) c.z c.k info length_info bits) first first_decides

  unbroken_is : (n : ℕ) → 1 ≤ n → unbroken factor c rx w n ≡ record { memory = first; iterations = 1; converged = true }
  unfolding unbroken iterated next
  unbroken_is n h =
      run_first (λ i. iteration factor (code_graph c) c.z) (settled (code_graph c) c.z)
      (record { memory = start_memory c rx w; iterations = 0; converged = false }) first_settles n h
      ∙ (λ i. record { memory = first; iterations = 1; converged = first_settles i })

  pub one_iteration : (n : ℕ) → 1 ≤ n
      → result_of c (unbroken factor c rx w n) ≡ record { iterations = 1; converged = true; clean = true }
  unfolding result_of
  one_iteration n h =
      let clean = eq-eqb _ 0 (ap (unsatisfied_of c) first_word ∙ encoded_met c is_made info length_info bits) in
      ap (result_of c) (unbroken_is n h) ∙ (λ i. record { iterations = 1; converged = true; clean = clean i })

  pub that_word : (n : ℕ) → 1 ≤ n → word_of c (unbroken factor c rx w n).memory ≡ encoding_of c info
  that_word n h = ap (λ p. word_of c p.memory) (unbroken_is n h) ∙ first_word
