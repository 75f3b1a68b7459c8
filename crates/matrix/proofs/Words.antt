-- A transmitted word meets every check exactly where it is the encoding of its information bits. Assumes nothing.
use mathlib.Core.Path.{◌≡◌, refl, sym, ap, ap₂, ◌∙◌}
use mathlib.Core.Logic.{◌↔◌}
use mathlib.Core.Bool.{Bool, true, false}
use mathlib.Core.List.{List}
use Prim.Native.Nat.{ℕ, zero, suc, ◌+◌, ◌*◌, ◌/◌, ◌%◌, ◌-◌, ◌<◌, ◌≤◌}
use native.Mathlib.Omega.{arith}
use native.Mathlib.Decide.{dec_lt}
use native.Mathlib.Nat.{add-sub_cancel_left, mod-lt, div-add-mod'}
use lib.Dec.{eqb}
use lib.ListN.{length, take, get_or}
use lib.Seq.{get_or-take, ext_get_or}
use borrow.Author.Tests.{lt-ltb, le-ltb, le-leb, lt-leb}
use Rattle.laws.proofs.Slots.{slot_lt, slot_div, slot_mod, edge_lt}
use Rattle.laws.proofs.Parity.{xor_sum_ext}
use Rattle.laws.proofs.Collect.{count_none, none_counted}
use Rattle.laws.proofs.Written.{length_tabulate, get_d_tabulate}
use Rattle.tables.specs.declared.BaseGraph.{BaseGraph}
use Rattle.matrix.specs.Edges.{bit_at}
use Rattle.matrix.specs.Checks.{row_sum, unmet, is_sent, place_of, lifted}
use Rattle.matrix.specs.Encoding.{info_sum, total_sum, first_parity, parity_bit, bit, encoding}
use Rattle.matrix.proofs.Edges.{info_column, bit_lt}
use Rattle.matrix.proofs.Codeword.{met→staircase, staircase→met}

-- the parity bits depend on the information bits alone
module _ (g : BaseGraph) (z : ℕ) (lift : 0 < z) (w w' : ℕ → Bool) (e : (v : ℕ) → v < g.shape.k_b * z → w v ≡ w' v) where
  pub info_sum_agrees : (i t : ℕ) → info_sum g z w i t ≡ info_sum g z w' i t
  unfolding info_sum row_sum
  info_sum_agrees i t =
      xor_sum_ext _ _ (3 * g.shape.k_b)
      (λ b h. rw (e (bit_at g z b t) (bit_lt g z b t lift g.shape.k_b (omega (arith, info_column g b h)))))

  pub first_parity_agrees : (t : ℕ) → first_parity g z w t ≡ first_parity g z w' t
  unfolding first_parity total_sum
  first_parity_agrees t = xor_sum_ext _ _ g.shape.m_b (λ i h. info_sum_agrees i ((t + z - 1) % z))

  pub parity_bit_agrees : (j t : ℕ) → parity_bit g z w j t ≡ parity_bit g z w' j t
  unfolding parity_bit
  parity_bit_agrees zero t = first_parity_agrees t
  parity_bit_agrees (suc j) t = rw (info_sum_agrees j t, parity_bit_agrees j t, first_parity_agrees ((t + 1) % z))

module _ (k info : ℕ) (word : List ℕ) (short : k ≤ info) where
  -- the parity columns follow the information bits that are sent
  pub lifted_parity : (s : ℕ) → lifted k info word (info + s) ≡ eqb (get_or word (k + s) 0) 1
  unfolding lifted is_sent place_of
  lifted_parity s =
      rw (le-ltb (info + s) k (omega arith), le-leb info (info + s) (omega arith), add-sub_cancel_left info s)

  -- the information columns are those of the information bits
  pub lifted_taken : (v : ℕ) → v < info → lifted k info word v ≡ lifted k info (take k word) v
  unfolding lifted is_sent place_of
  lifted_taken v h = at (dec_lt v k)
    where
      at : Dec (v < k) → lifted k info word v ≡ lifted k info (take k word) v
      at (yes l) = rw (lt-ltb v k l, get_or-take k word v 0 l)
      at (no l) = rw (le-ltb v k (omega arith), lt-leb info v h)

-- a byte that is 0 or 1 and its bit
pub bit_of : (n : ℕ) → n ≤ 1 → bit (eqb n 1) ≡ n
bit_of zero h = refl
bit_of (suc zero) h = refl
bit_of (suc (suc n)) h = absurd (omega arith)

pub of_bit_lem : (b : Bool) → eqb (bit b) 1 ≡ b
of_bit_lem true = refl
of_bit_lem false = refl

-- what stands where in an encoding
module _ (g : BaseGraph) (z k : ℕ) (info : List ℕ) where
  pub length_encoding : length (encoding g z k info) ≡ k + g.shape.m_b * z
  unfolding encoding
  length_encoding = length_tabulate _ (k + g.shape.m_b * z)

  pub encoding_info : (i : ℕ) → i < k → get_or (encoding g z k info) i 0 ≡ get_or info i 0
  unfolding encoding
  encoding_info i h = get_d_tabulate 0 _ (k + g.shape.m_b * z) i (omega arith) ∙ rw (lt-ltb i k h)

  pub encoding_parity : (s : ℕ) → s < g.shape.m_b * z → get_or (encoding g z k info) (k + s) 0
      ≡ bit (parity_bit g z (lifted k (g.shape.k_b * z) info) (s / z) (s % z))
  unfolding encoding
  encoding_parity s h =
      get_d_tabulate 0 _ (k + g.shape.m_b * z) (k + s) (omega arith)
      ∙ rw (le-ltb (k + s) k (omega arith), add-sub_cancel_left k s)

-- the lifted word of a transmitted one, at the graph's information columns
abbrev lifted_bits : BaseGraph → ℕ → ℕ → List ℕ → ℕ → Bool
lifted_bits g z k word = lifted k (g.shape.k_b * z) word

module _ (g : BaseGraph) (z k : ℕ) (word : List ℕ) (m_least : 3 ≤ g.shape.m_b) (lift : 0 < z)
    (short : k ≤ g.shape.k_b * z) (long : length word ≡ k + g.shape.m_b * z)
    (bits : (i : ℕ) → i < length word → get_or word i 0 ≤ 1) where
  -- the parity bit s of the encoding, from the word's own information columns
  staircase : (s : ℕ) → s < g.shape.m_b * z → get_or (encoding g z k (take k word)) (k + s) 0
      ≡ bit (parity_bit g z (lifted_bits g z k word) (s / z) (s % z))
  staircase s h =
      encoding_parity g z k (take k word) s h
      ∙ ap bit (sym (parity_bit_agrees g z lift _ _ (lifted_taken k (g.shape.k_b * z) word short) (s / z) (s % z)))

  -- the word's bit at offset t of parity column j
  column : (j t : ℕ) → lifted_bits g z k word ((g.shape.k_b + j) * z + t) ≡ eqb (get_or word (k + (j * z + t)) 0) 1
  column j t =
      let e : (g.shape.k_b + j) * z + t ≡ g.shape.k_b * z + (j * z + t) = omega arith in
      rw (e, lifted_parity k (g.shape.k_b * z) word short (j * z + t))

  encoded : unmet g z (lifted_bits g z k word) ≡ 0 → word ≡ encoding g z k (take k word)
  unfolding unmet
  encoded none =
      ext_get_or 0 word (encoding g z k (take k word)) (long ∙ sym (length_encoding g z k (take k word)))
      (λ i h. at i h (dec_lt i k))
    where
      follows : (s : ℕ) → s < g.shape.m_b * z
          → eqb (get_or word (k + s) 0) 1 ≡ parity_bit g z (lifted_bits g z k word) (s / z) (s % z)
      follows s h =
          sym (rw div-add-mod' at (column (s / z) (s % z)))
          ∙ met→staircase g z m_least lift _ (none_counted _ _ none) (s / z) (s % z) (edge_lt lift h) (mod-lt s lift)

      parity : (s : ℕ) → s < g.shape.m_b * z → get_or word (k + s) 0 ≡ get_or (encoding g z k (take k word)) (k + s) 0
      parity s h =
          sym (bit_of (get_or word (k + s) 0) (bits (k + s) (omega arith))) ∙ ap bit (follows s h) ∙ sym (staircase s h)

      at : (i : ℕ) → i < length word → Dec (i < k) → get_or word i 0 ≡ get_or (encoding g z k (take k word)) i 0
      at i h (yes l) = sym (encoding_info g z k (take k word) i l ∙ get_or-take k word i 0 l)
      at i h (no l) =
          let e : k + (i - k) ≡ i = omega arith in
          rw e at (parity (i - k) (omega arith))

  met : word ≡ encoding g z k (take k word) → unmet g z (lifted_bits g z k word) ≡ 0
  unfolding unmet
  met e =
      count_none _ (g.shape.m_b * z) (staircase→met g z m_least lift (lifted_bits g z k word) parity)
    where
      parity : (j t : ℕ) → j < g.shape.m_b → t < z
          → lifted_bits g z k word ((g.shape.k_b + j) * z + t) ≡ parity_bit g z (lifted_bits g z k word) j t
      parity j t h l =
          column j t
          ∙ ap (λ (x : ℕ). eqb x 1) (ap (λ (u : List ℕ). get_or u (k + (j * z + t)) 0) e ∙ staircase (j * z + t) (slot_lt h l))
          ∙ of_bit_lem _ ∙ ap₂ (parity_bit g z (lifted_bits g z k word)) (slot_div j z t l) (slot_mod j z t l)

  pub codeword : (unmet g z (lifted k (g.shape.k_b * z) word) ≡ 0) ↔ (word ≡ encoding g z k (take k word))
  codeword = (encoded, met)
