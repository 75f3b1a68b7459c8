-- The parity of a check, base edge after base edge; and every check of a row, eight after eight. Assumes nothing.
use Rattle.std.proofs.Common.{◌≡◌, Bool, true, false, ◌&&◌, ap, ap₂, sym, ◌∙◌, refl, ℕ, zero, suc, ◌+◌, ◌-◌, ◌*◌, ◌%◌, ◌<◌, ◌≤◌, length, take, get_or, min, arith}
use mathlib.Core.Bool.{xor}
use native.Mathlib.Nat.{add-zero}
use lib.Seq.{take_all}
use denote.Param.Members.{Mut}
use Rattle.std.specs.Fn.{Called}
use Rattle.std.specs.Iterator.{ChecksAll}
use Rattle.std.specs.declared.ops.Range.{Range}
use Rattle.std.proofs.iter.Yields.{nat_range_steps}
use Rattle.std.specs.List.{list_all, range_with_len}
use Rattle.std.proofs.lemmas.Iterator.{YieldsList-from_range}
use Rattle.std.proofs.lemmas.Iterator.Search.{all_from_yields_List}
use Rattle.laws.specs.Floats.{negative}
use Rattle.laws.specs.Range.{every, folded}
use Rattle.laws.proofs.Folded.{folded_more}
use Rattle.laws.proofs.Range.{every_ext, every_sum}
use Rattle.messages.specs.Memory.{reading}
use Rattle.convergence.specs.Decided.{odd_of}
use Rattle.convergence.specs.Rows.{decided_at, odd_at}
use Rattle.convergence.specs.declared.row.Row.{Row}

-- the parity of the first n base edges of the check at offset t
unfoldable pub odd_before : Row → ℕ → ℕ → Bool
odd_before r t n = odd_of r.work.now r.totals r.z t r.column.now r.turn.now (take n r.edges.now)

pub odd_none : (r : Row) (t : ℕ) → odd_before r t 0 ≡ false
unfolding odd_before odd_of folded
odd_none r t = refl

pub odd_more : (r : Row) (t n : ℕ) → n < length r.edges.now → odd_before r t (n + 1) ≡ xor (odd_before r t n) (decided_at r t (get_or r.edges.now n 0))
unfolding odd_before odd_of
odd_more r t n h =
    folded_more (λ x b. xor x (negative (reading r.work.now r.totals (get_or r.column.now b 0 * r.z + (t + get_or r.turn.now b 0) % r.z)))) false r.edges.now n h

pub odd_all : (r : Row) (t n : ℕ) → length r.edges.now ≤ n → odd_before r t n ≡ odd_at r t
unfolding odd_before
odd_all r t n h = ap (λ l. odd_of r.work.now r.totals r.z t r.column.now r.turn.now l) (take_all n r.edges.now h)

-- every number below n: its front, as a list, and as `all` over them answers
pub every_front : (p : ℕ → Bool) (n : ℕ) → every p (suc n) ≡ p 0 && every (λ k. p (suc k)) n
unfolding every
every_front p n =
    let is : suc n ≡ 1 + n = omega arith in
    ap (every p) is ∙ every_sum p 1 n ∙ ap (λ b. p 0 && b) (every_ext (λ k. p (1 + k)) (λ k. p (suc k)) n (λ k h. ap p (omega arith)))

every_from : (p : ℕ → Bool) (a n : ℕ) → every (λ k. p (a + k)) n ≡ list_all p (range_with_len a n)
unfolding every
every_from p a zero = refl
every_from p a (suc n) =
    every_front (λ k. p (a + k)) n
    ∙ ap₂ ◌&&◌ (ap p (add-zero a)) (every_ext (λ k. p (a + suc k)) (λ k. p (a + 1 + k)) n (λ k h. ap p (omega arith)) ∙ every_from p (a + 1) n)

pub every_from_all : {F : Type 0} {g : Mut F (ℕ × Unit {0}) Bool} {s : Range ℕ} {f : F} {u : Range ℕ} {r : Bool} (p : ℕ → Bool) (n : ℕ)
    → ChecksAll nat_range_steps g s f r u → s ≡ record { start = 0; end = n } → ((x : ℕ) (b : Bool) (q : F) → Called g f (x, tt) b q → (q ≡ f) × (b ≡ p x))
    → r ≡ every p n
every_from_all {f = f} {u = u} {r = r} p n ran is each =
    all_from_yields_List p u f r ran (YieldsList-from_range 0 n n is (omega arith)) each
    ∙ sym (every_from p 0 n) ∙ every_ext (λ k. p (0 + k)) p n (λ k h. ap p (omega arith))

-- what holds of the numbers below t and of n from a on, which stands no further than t
absorbed : (a q r : Bool) → (a && q) && (q && r) ≡ a && (q && r)
absorbed true true r = refl
absorbed true false r = refl
absorbed false q r = refl

module _ (p : ℕ → Bool) where
  block_more : (a t n : ℕ) → a ≤ t → t ≤ a + n → every p t && every (λ j. p (a + j)) n ≡ every p (a + n)
  block_more a t n h k =
      let low : t ≡ a + (t - a) = omega arith in
      let all : n ≡ t - a + (n - (t - a)) = omega arith in
      let q : ℕ → Bool = λ j. p (a + j) in
      ap₂ ◌&&◌ (ap (every p) low ∙ every_sum p a (t - a)) (ap (every q) all ∙ every_sum q (t - a) (n - (t - a)))
      ∙ absorbed (every p a) (every q (t - a)) (every (λ j. q (t - a + j)) (n - (t - a)))
      ∙ sym (every_sum p a n ∙ ap (λ x. every p a && x) (ap (every q) all ∙ every_sum q (t - a) (n - (t - a))))

  -- eight after eight, the last eight no further than z
  blocks : (z n : ℕ) → 8 ≤ z → 8 * n < z + 8 → every (λ i. every (λ j. p (min (8 * i) (z - 8) + j)) 8) n ≡ every p (min (8 * n) z)
  unfolding every
  blocks z zero h k = let e : min (8 * 0) z ≡ 0 = omega arith in ap (every p) (sym e)
  blocks z (suc n) h k =
      let e : min (8 * n) (z - 8) + 8 ≡ min (8 * suc n) z = omega arith in
      ap (λ x. x && every (λ j. p (min (8 * n) (z - 8) + j)) 8) (blocks z n h (omega arith))
      ∙ block_more (min (8 * n) (z - 8)) (min (8 * n) z) 8 (omega arith) (omega arith)
      ∙ ap (every p) e

  pub every_block : (z n : ℕ) → 8 ≤ z → z ≤ 8 * n → 8 * n < z + 8 → every (λ i. every (λ j. p (min (8 * i) (z - 8) + j)) 8) n ≡ every p z
  every_block z n h low high = let e : min (8 * n) z ≡ z = omega arith in blocks z n h high ∙ ap (every p) e
