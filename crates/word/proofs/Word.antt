-- The word that a read writes, from what its parts write: it is of the block's length, and bits. Assumes nothing.
use Rattle.std.proofs.Common.{◌≡◌, Bool, cond, List, ◌++◌, ap, ap₂, sym, ◌∙◌, ℕ, ◌+◌, ◌-◌, ◌*◌, ◌<◌, ◌≤◌, length, take, drop, get_or, length-append, length-drop, arith}
use native.Mathlib.Decide.{dec_lt}
use borrow.Author.Tests.{lt-ltb, le-ltb}
use lib.Dec.{ltb}
use lib.ListN.{get_or-append}
use lib.Seq.{get_or-take, get_or-drop, length-take-le}
use lib.Ieee.{Float, nan}
use Rattle.std.proofs.lemmas.List.{get_or-map, get_or-append-add, length-map}
use Rattle.laws.specs.Floats.{negative}
use Rattle.laws.specs.Written.{tabulate}
use Rattle.laws.proofs.Written.{tabulated, length_tabulate, get_d_tabulate}
use Rattle.matrix.specs.Encoding.{bit}
use Rattle.messages.specs.Memory.{bits_of, reading}
use Rattle.messages.specs.Iteration.{decision}
use Rattle.bits.specs.Sums.{Bits}
use Rattle.bits.proofs.Bytes.{bit_most}
use Rattle.ldpc.specs.declared.choice.Code.{Code}
use Rattle.ldpc.specs.Code.{code_graph, info_end}
use Rattle.word.specs.Word.{decisions_of, word_of}

-- the word, from the decisions on its two parts of the totals
module _ (c : Code) (bits end : ℕ) (w : List Float) (bits_is : bits ≡ bits_of (code_graph c) c.z) (end_is : end ≡ info_end c)
    (after : c.k ≤ end) (all : end + (c.n_tx - c.k) ≡ bits) (less : c.k ≤ c.n_tx) (room : 2 * bits ≤ length w) where
  abbrev totals : List Float
  totals = take (2 * bits - bits) (drop bits w)

  abbrev info : List Float
  info = take c.k totals

  abbrev parity : List Float
  parity = take (length totals - end) (drop end totals)

  total_at : (i : ℕ) → i < bits → get_or totals i nan ≡ reading w (bits_of (code_graph c) c.z) i
  total_at i h = get_or-take (2 * bits - bits) (drop bits w) i nan (omega arith) ∙ get_or-drop bits w i nan ∙ ap (λ (x : ℕ). get_or w (x + i) nan) bits_is

  totals_long : length totals ≡ bits
  totals_long = length-take-le (2 * bits - bits) (drop bits w) (omega (arith, length-drop bits w)) ∙ omega arith

  info_long : length info ≡ c.k
  info_long = length-take-le c.k totals (omega (arith, totals_long))

  parity_long : length parity ≡ c.n_tx - c.k
  parity_long = length-take-le (length totals - end) (drop end totals) (omega (arith, length-drop end totals)) ∙ omega (arith, totals_long)

  decided_at : (xs : List Float) (i : ℕ) → i < length xs → get_or (decisions_of xs) i 0 ≡ bit (negative (get_or xs i nan))
  decided_at xs i h = get_or-map (λ x. bit (negative x)) xs i nan 0 h

  decided_long : (xs : List Float) → length (decisions_of xs) ≡ length xs
  decided_long xs = length-map xs (λ x. bit (negative x))

  at : (i : ℕ) → i < c.n_tx → Dec (i < c.k)
      → get_or (decisions_of info ++ decisions_of parity) i 0 ≡ bit (decision (code_graph c) c.z w (cond (ltb i c.k) i (info_end c + (i - c.k))))
  unfolding decision
  at i h (yes a) =
      rw (lt-ltb i c.k a)
      (get_or-append (decisions_of info) _ 0 i (omega (arith, decided_long info, info_long)) ∙ decided_at info i (omega (arith, info_long))
      ∙ ap (λ x. bit (negative x)) (get_or-take c.k totals i nan a ∙ total_at i (omega arith)))
  at i h (no a) =
      let j : length (decisions_of info) + (i - c.k) ≡ i = omega (arith, decided_long info, info_long) in
      rw (le-ltb i c.k (omega arith), ← end_is)
      (ap (λ (x : ℕ). get_or (decisions_of info ++ decisions_of parity) x 0) (sym j)
      ∙ get_or-append-add (decisions_of info) _ (i - c.k) 0 ∙ decided_at parity (i - c.k) (omega (arith, parity_long))
      ∙ ap (λ x. bit (negative x))
      (get_or-take (length totals - end) (drop end totals) (i - c.k) nan (omega (arith, totals_long))
      ∙ get_or-drop end totals (i - c.k) nan ∙ total_at (end + (i - c.k)) (omega arith)))

  pub word_written : {front back : List ℕ} → front ≡ decisions_of info → back ≡ decisions_of parity → front ++ back ≡ word_of c w
  unfolding word_of
  word_written p q =
      ap₂ ◌++◌ p q
      ∙ tabulated 0 _ c.n_tx (decisions_of info ++ decisions_of parity)
      (omega (arith, length-append (decisions_of info) (decisions_of parity), decided_long info, decided_long parity, info_long, parity_long))
      (λ i h. at i h (dec_lt i c.k))

each_bit : (p : ℕ → Bool) (n : ℕ) → Bits (tabulate (λ i. bit (p i)) n)
each_bit p n i h = rw (get_d_tabulate 0 (λ i. bit (p i)) n i (rw length_tabulate at h)) (bit_most (p i))

-- a word that is read is of the block's length, and bits
pub word_long : (c : Code) (w : List Float) → length (word_of c w) ≡ c.n_tx
unfolding word_of
word_long c w = length_tabulate _ c.n_tx

pub word_bits : (c : Code) (w : List Float) → Bits (word_of c w)
unfolding word_of
word_bits c w = each_bit (λ i. decision (code_graph c) c.z w (cond (ltb i c.k) i (info_end c + (i - c.k)))) c.n_tx
