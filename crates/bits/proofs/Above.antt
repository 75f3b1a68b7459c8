-- Words of bytes: where the first byte stands that is no bit. Assumes nothing.
use Rattle.std.proofs.Common.{◌≡◌, ℕ, ◌<◌, ◌≤◌, true, List, length, get_or, None, arith}
use Rattle.std.specs.List.{list_all, position_or_len}
use Rattle.std.proofs.lemmas.List.Sums.{position_or_len_is}
use Rattle.std.proofs.lemmas.List.Folds.{list_all_at}
use borrow.Author.Tests.{le-ltb, lt-leb}
use lib.Dec.{leb, ltb}
use native.Mathlib.Decide.{dec_lt}
use Rattle.bits.specs.Sums.{Bits}
use Rattle.bits.specs.Words.{first_not_bit}

-- where all bytes pass the test, each is a bit
pub all_are_bits : (word : List ℕ) → list_all (λ b. leb b 1) word ≡ true → Bits word
all_are_bits word e i h = by (dec_lt 1 (get_or word i 0))
  where
    by : Dec (1 < get_or word i 0) → get_or word i 0 ≤ 1
    by (yes l) =
        let f = list_all_at (λ b. leb b 1) word i 0 h (lt-leb (get_or word i 0) 1 l) in
        let z : ◌≡◌ {A = ℕ} 0 1 = cc in absurd (omega arith)
    by (no l) = omega arith

-- where all are bits, none is the first that is not
pub none_above : (word : List ℕ) → Bits word → first_not_bit word ≡ None
none_above word h =
    let e : position_or_len (λ b. ltb 1 b) word ≡ length word =
    position_or_len_is (λ b. ltb 1 b) word (length word) 0 (omega arith) (λ k l. le-ltb 1 (get_or word k 0) (h k l)) (λ l. absurd (omega arith)) in
    rw (e, le-ltb (length word) (length word) (omega arith))
