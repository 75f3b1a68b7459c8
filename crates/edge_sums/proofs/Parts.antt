-- A column of the lifted word as a part of the transmitted one. Assumes nothing.
use mathlib.Core.Path.{◌≡◌, sym, ap, ◌∙◌}
use mathlib.Core.Bool.{false, ◌&&◌}
use mathlib.Core.List.{List}
use Prim.Native.Nat.{ℕ, ◌+◌, ◌*◌, ◌-◌, ◌<◌, ◌≤◌, min}
use native.Mathlib.Omega.{arith}
use native.Mathlib.Nat.{add-mul}
use native.Mathlib.Decide.{dec_lt}
use borrow.Author.Tests.{lt-ltb, le-ltb, lt-leb}
use lib.Dec.{ltb, eqb}
use lib.ListN.{length, get_or, take, drop, get_or-eq_default}
use lib.Seq.{get_or-take, get_or-drop}
use Rattle.std.proofs.lemmas.List.{length-take}
use Rattle.matrix.specs.Checks.{is_sent, place_of, lifted}
use Rattle.matrix.proofs.Words.{lifted_parity}
use Rattle.laws.proofs.Slots.{slot_lt}
use Rattle.ldpc.specs.declared.choice.Code.{Code}
use Rattle.ldpc.specs.Code.{code_graph, info_end}
use Rattle.edge_sums.specs.Sums.{PartOf}

-- an information bit of the lifted word
pub lifted_info : (k info : ℕ) (word : List ℕ) (v : ℕ) → v < info → lifted k info word v ≡ (ltb v k && eqb (get_or word v 0) 1)
unfolding lifted is_sent place_of
lifted_info k info word v h = by (dec_lt v k)
  where
    by : Dec (v < k) → lifted k info word v ≡ (ltb v k && eqb (get_or word v 0) 1)
    by (yes l) = rw (lt-ltb v k l)
    by (no l) = rw (le-ltb v k (omega arith), lt-leb info v h)

-- past a word's end the bytes are 0
pub absent : (word : List ℕ) (v : ℕ) → length word ≤ v → eqb (get_or word v 0) 1 ≡ false
absent word v h = ap (λ (x : ℕ). eqb x 1) (get_or-eq_default word 0 {n = v} h)

-- the first k bytes of a word
in_front : (word : List ℕ) (k n v : ℕ) → n ≡ min k (length word) → (ltb v k && eqb (get_or word v 0) 1) ≡ eqb (get_or (take n word) v 0) 1
in_front word k n v e = by (dec_lt v k) (dec_lt v n)
  where
    by : Dec (v < k) → Dec (v < n) → (ltb v k && eqb (get_or word v 0) 1) ≡ eqb (get_or (take n word) v 0) 1
    by (no h) d = rw (le-ltb v k (omega arith)) (sym (absent (take n word) v (omega (arith, length-take n word))))
    by (yes h) (no l) = rw (lt-ltb v k h, absent word v (omega arith)) (sym (absent (take n word) v (omega (arith, length-take n word))))
    by (yes h) (yes l) = rw (lt-ltb v k h, get_or-take n word v 0 l)

-- byte p of a clipped part
clipped_at : (word : List ℕ) (from n p : ℕ) → p < n → get_or (take n (drop from word)) p 0 ≡ get_or word (from + p) 0
clipped_at word from n p h = get_or-take n (drop from word) p 0 h ∙ get_or-drop from word p 0

module _ (c : Code) (word : List ℕ) (column k_b : ℕ) (is : k_b ≡ (code_graph c).shape.k_b) where
  pub info_part : (n : ℕ) (part : List ℕ) → n ≡ min c.k (length word) → column < k_b → part ≡ take c.z (drop (column * c.z) (take n word))
      → PartOf c word column part
  unfolding info_end
  info_part n part e h q =
      rw q
      (record {
        there_most = omega (arith, length-take c.z (drop (column * c.z) (take n word)));
        reads = λ p l.
            lifted_info c.k (info_end c) word (column * c.z + p) (slot_lt (rw is at h) l)
            ∙ in_front word c.k n (column * c.z + p) e
            ∙ ap (λ (x : ℕ). eqb x 1) (sym (clipped_at (take n word) (column * c.z) c.z p l));
      })

  pub parity_part : (part : List ℕ) → c.k ≤ k_b * c.z → k_b ≤ column → part ≡ take c.z (drop (c.k + (column - k_b) * c.z) word)
      → PartOf c word column part
  unfolding info_end
  parity_part part fits h q =
      let d = column - k_b in
      let e : column * c.z ≡ (code_graph c).shape.k_b * c.z + d * c.z =
      ap (λ (x : ℕ). x * c.z) (omega (arith, is)) ∙ add-mul (code_graph c).shape.k_b d c.z in
      rw q
      (record {
        there_most = omega (arith, length-take c.z (drop (c.k + d * c.z) word));
        reads = λ p l.
            ap (lifted c.k (info_end c) word) (omega (arith, e))
            ∙ lifted_parity c.k (info_end c) word (rw is at fits) (d * c.z + p)
            ∙ ap (λ (x : ℕ). eqb (get_or word x 0) 1) (omega arith)
            ∙ ap (λ (x : ℕ). eqb x 1) (sym (clipped_at word (c.k + d * c.z) c.z p l));
      })
