-- One iteration on a noiseless word: where the bits x meet every check, each channel number is on its bit's side of zero, and each
-- message to a check is its bit's channel number, the decisions are x and the decoder converges. For any factor above zero.
-- Assumes nothing.
use mathlib.Core.Path.{◌≡◌, sym, ap, ◌∙◌}
use mathlib.Core.Bool.{Bool, true, false, xor}
use mathlib.Core.List.{List}
use Prim.Native.Nat.{ℕ, ◌+◌, ◌*◌, ◌/◌, ◌%◌, ◌<◌, ◌≤◌}
use native.Mathlib.Omega.{arith}
use native.Mathlib.Decide.{ℕ_discrete}
use native.Mathlib.Nat.{mod-lt}
use lib.Dec.{eqb}
use lib.ListN.{length, get_or}
use lib.Ieee.{Float, nan, lt}
use borrow.Author.Tests.{eq-eqb, ne_eqb}
use Rattle.laws.specs.Floats.{negative, magnitude}
use Rattle.laws.proofs.Slots.{slot_lt, slot_div, slot_mod, edge_lt}
use Rattle.laws.proofs.Parity.{false_xor, xor_sum_ext}
use Rattle.laws.proofs.Folded.{folded_keeps, folded_part, xor_sum_folded}
use Rattle.laws.proofs.Collect.{count_none}
use Rattle.laws.proofs.Written.{length_rewritten, low_rewritten, at_rewritten}
use Rattle.laws.proofs.Floats.{Plain, Sided, Leans, Factor, infinite_plain, either_plain, lesser_plain, sum_sided, product_leans}
use Rattle.tables.specs.declared.BaseGraph.{BaseGraph}
use Rattle.matrix.specs.Edges.{edges, edge_row, edge_column, bit_at, row_edges, edges_by_row, slot_of}
use Rattle.matrix.specs.Checks.{row_sum, check_sum, unmet}
use Rattle.matrix.proofs.Edges.{slot_below, slot_edge, slot_bit}
use Rattle.matrix.proofs.Simple.{Simple}
use Rattle.matrix.proofs.ByRow.{row_entry, by_row_entry}
use Rattle.rule.specs.declared.Least.{Least}
use Rattle.rule.specs.Rule.{started, taken, answered}
use Rattle.messages.specs.Memory.{bits_of, slots_of, to_checks_at, to_bits_at, needed, reading}
use Rattle.messages.specs.Iteration.{gathered, answer, to_bit, check_pass, added, total, total_pass, to_check, send_pass, iteration, decision, settled}
use Rattle.messages.proofs.Local.{edge_bit}

-- ---- the check rule: both magnitudes are plain, whatever the messages
abbrev Plains : Least → Type 0
Plains l = Plain l.«min1» × Plain l.«min2»

taken_plain : (l : Least) (m : Float) (place : ℕ) → Plains l → Plains (taken l m place)
unfolding taken
taken_plain l m place (p, q) =
    (lesser_plain m l.«min1» p, either_plain (lt (magnitude m) l.«min1») _ _ p (lesser_plain m l.«min2» q))

gathered_plain : (m : ℕ → Float) (z t : ℕ) (l : List ℕ) → Plains (gathered m z t l)
unfolding gathered started
gathered_plain m z t l =
    folded_keeps Plains (λ y b. taken y (m (b * z + t)) b) started l (infinite_plain, infinite_plain)
    (λ i h y p. taken_plain y (m (get_or l i 0 * z + t)) (get_or l i 0) p)

-- a check whose messages have the sign false answers each one to its own side
answered_leans : (factor : Float) (l : Least) (m : Float) (place : ℕ) (s : Bool) → Factor factor → Plains l → l.sign ≡ false
    → negative m ≡ s → Leans s (answered factor l m place)
unfolding answered
answered_leans factor l m place s positive (p, q) even side =
    rw (even, side, false_xor) (product_leans factor _ s positive (either_plain (eqb place l.argmin) _ _ q p))

-- ---- a number stays on its side when a message that leans there is added
added_sided : (g : BaseGraph) (z : ℕ) (m : ℕ → Float) (v : ℕ) (s : Bool) (y : Float) (b : ℕ)
    → (edge_column g b ≡ v / z → Leans s (m (slot_of g z b v))) → Sided s y → Sided s (added g z m v y b)
unfolding added
added_sided g z m v s y b leans h =
    elim (ℕ_discrete (edge_column g b) (v / z)) [
      | yes e ↦ rw (eq-eqb (edge_column g b) (v / z) e) (sum_sided s y (m (slot_of g z b v)) h (leans e))
      | no e ↦ rw (ne_eqb (edge_column g b) (v / z) e) h
    ]

-- ---- the word, and messages to checks of which each is on its bit's side
module _ (g : BaseGraph) (simple : Simple g) (z : ℕ) (lift : 0 < z) (x : ℕ → Bool)
    (word : (s : ℕ) → s < g.shape.m_b * z → check_sum g z x s ≡ false) where
  row_met_lem : (r t : ℕ) → r < g.shape.m_b → t < z → row_sum g z x (edges g) r t ≡ false
  unfolding check_sum
  row_met_lem r t h k = rw (slot_div r z t k, slot_mod r z t k) at (word (r * z + t) (slot_lt h k))

  module _ (m : ℕ → Float) (sides : (s : ℕ) → s < slots_of g z → negative (m s) ≡ x (bit_at g z (s / z) (s % z))) where
    edge_side : (b t : ℕ) → b < edges g → t < z → negative (m (b * z + t)) ≡ x (bit_at g z b t)
    unfolding slots_of
    edge_side b t h k = rw (slot_div b z t k, slot_mod b z t k) at (sides (b * z + t) (slot_lt h k))

    -- what a check gathers has the sign of the sum of its bits
    gathered_even : (r t : ℕ) → r < g.shape.m_b → t < z → (gathered m z t (row_edges g r)).sign ≡ false
    unfolding gathered row_edges row_sum started taken
    gathered_even r t h k =
        folded_part (λ y. y.sign) (λ y b. taken y (m (b * z + t)) b) (λ y b. xor y (x (bit_at g z b t))) started (row_edges g r)
        (λ i l y. ap (xor y.sign) (edge_side (get_or (row_edges g r) i 0) t (row_entry g r i l).edge_lt k))
        ∙ sym (xor_sum_folded (λ b. eqb (edge_row g b) r) (λ b. x (bit_at g z b t)) (edges g))
        ∙ row_met_lem r t h k

    to_bit_leans : (factor : Float) → Factor factor → (s : ℕ) → s < slots_of g z
        → Leans (x (bit_at g z (s / z) (s % z))) (to_bit factor g z m s)
    unfolding to_bit answer slots_of
    to_bit_leans factor positive s h =
        answered_leans factor (gathered m z (s % z) (row_edges g (edge_row g (s / z)))) (m s) (s / z) (x (bit_at g z (s / z) (s % z)))
        positive
        (gathered_plain m z (s % z) (row_edges g (edge_row g (s / z))))
        (gathered_even (edge_row g (s / z)) (s % z) (simple.row_lt (s / z) (edge_lt lift h)) (mod-lt s lift))
        (sides s h)

-- ---- what stands where after each pass
module _ (g : BaseGraph) (z : ℕ) (w : List Float) (long : needed g z ≤ length w) where
  after_send : (v : ℕ) → v < bits_of g z → reading (send_pass g z w) (bits_of g z) v ≡ reading w (bits_of g z) v
  unfolding send_pass to_checks_at needed
  after_send v h =
      low_rewritten nan (to_checks_at g z) (slots_of g z) (to_check g z w) w (omega arith) (bits_of g z + v) (omega arith)

  length_total : length (total_pass g z w) ≡ length w
  unfolding total_pass needed
  length_total = length_rewritten nan (bits_of g z) (bits_of g z) (total g z w) w (omega arith)

  after_total : (v : ℕ) → v < bits_of g z → reading (total_pass g z w) (bits_of g z) v ≡ total g z w v
  unfolding total_pass needed
  after_total v h = at_rewritten nan (bits_of g z) (bits_of g z) (total g z w) w (omega arith) v h

  module _ (factor : Float) where
    abbrev sent : ℕ → Float
    sent = to_bit factor g z (reading w (to_checks_at g z))

    length_check : length (check_pass factor g z w) ≡ length w
    unfolding check_pass to_bits_at needed
    length_check = length_rewritten nan (to_bits_at g z) (slots_of g z) sent w (omega arith)

    channel_kept : (v : ℕ) → v < bits_of g z → get_or (check_pass factor g z w) v nan ≡ get_or w v nan
    unfolding check_pass to_bits_at needed
    channel_kept v h = low_rewritten nan (to_bits_at g z) (slots_of g z) sent w (omega arith) v (omega arith)

    after_check : (s : ℕ) → s < slots_of g z → reading (check_pass factor g z w) (to_bits_at g z) s ≡ sent s
    unfolding check_pass to_bits_at needed
    after_check s h = at_rewritten nan (to_bits_at g z) (slots_of g z) sent w (omega arith) s h

-- a decision reads its bit's total, which the last pass leaves as it is
decision_total : (factor : Float) (g : BaseGraph) (z : ℕ) (w : List Float) → needed g z ≤ length w → (v : ℕ) → v < bits_of g z
    → decision g z (iteration factor g z w) v ≡ negative (total g z (check_pass factor g z w) v)
unfolding decision iteration
decision_total factor g z w long v h =
    let c : List Float = check_pass factor g z w in
    let long_c : needed g z ≤ length c = rw (length_check g z w long factor) long in
    ap negative (after_send g z (total_pass g z c) (rw (length_total g z c long_c) long_c) v h ∙ after_total g z c long_c v h)

-- ---- the theorem
module _ (factor : Float) (positive : Factor factor) (g : BaseGraph) (simple : Simple g) (z : ℕ) (lift : 0 < z) (x : ℕ → Bool)
    (word : (s : ℕ) → s < g.shape.m_b * z → check_sum g z x s ≡ false)
    (w : List Float) (long : needed g z ≤ length w)
    (channel : (v : ℕ) → v < bits_of g z → Sided (x v) (get_or w v nan))
    (fresh : (s : ℕ) → s < slots_of g z → reading w (to_checks_at g z) s ≡ get_or w (bit_at g z (s / z) (s % z)) nan) where
  sides : (s : ℕ) → s < slots_of g z → negative (reading w (to_checks_at g z) s) ≡ x (bit_at g z (s / z) (s % z))
  unfolding slots_of
  sides s h =
      ap negative (fresh s h)
      ∙ (channel (bit_at g z (s / z) (s % z)) (edge_bit g simple z lift (s / z) (s % z) (edge_lt lift h))).side

  -- what comes in at bit v, by a base edge of its column, leans to its side
  incoming : (b v : ℕ) → b < edges g → edge_column g b ≡ v / z
      → Leans (x v) (reading (check_pass factor g z w) (to_bits_at g z) (slot_of g z b v))
  unfolding slots_of
  incoming b v h e =
      let s : ℕ = slot_of g z b v in
      let k : s < edges g * z = slot_below g z b v lift (edges g) h in
      let leans = to_bit_leans g simple z lift x word (reading w (to_checks_at g z)) sides factor positive s k in
      rw (after_check g z w long factor s k) (rw (slot_edge g z b v lift, slot_bit g z b v lift e) at leans)

  total_sided : (v : ℕ) → v < bits_of g z → Sided (x v) (total g z (check_pass factor g z w) v)
  unfolding total
  total_sided v h =
      let m : ℕ → Float = reading (check_pass factor g z w) (to_bits_at g z) in
      let l : List ℕ = edges_by_row g g.shape.m_b in
      folded_keeps (Sided (x v)) (added g z m v) (get_or (check_pass factor g z w) v nan) l
      (rw (channel_kept g z w long factor v h) (channel v h))
      (λ i k y p. added_sided g z m v (x v) y (get_or l i 0) (incoming (get_or l i 0) v (by_row_entry g g.shape.m_b i k)) p)

  pub decides : (v : ℕ) → v < bits_of g z → decision g z (iteration factor g z w) v ≡ x v
  decides v h = decision_total factor g z w long v h ∙ (total_sided v h).side

  pub settles : settled g z (iteration factor g z w) ≡ true
  unfolding settled unmet check_sum row_sum
  settles =
      eq-eqb _ 0
      (count_none _ (g.shape.m_b * z)
      (λ s h. xor_sum_ext _ _ (edges g) (λ b k. rw (decides (bit_at g z b (s % z)) (edge_bit g simple z lift b (s % z) k))) ∙ word s h))
