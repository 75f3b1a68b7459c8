-- Two vectors lane by lane, a select, a load and a store. Assumes nothing.
use Rattle.std.proofs.Common.{◌≡◌, ◌-◌, ◌^◌, Bool, cond, List, [], ◌∷◌, ap, ap₂, sym, ◌∙◌, refl, ℕ, zero, suc, ◌+◌, ◌<◌, ◌≤◌, length, map, arith}
use Rattle.std.specs.Simd.Lanes.{zip2, sel_l, top}
use Rattle.std.proofs.lemmas.Simd.{tops_compared, length-chunk, get_or-chunk, length-put_chunk, get_or-put_chunk_below, get_or-put_chunk_at, get_or-put_chunk_above}
use native.Mathlib.Decide.{dec_lt}
use mir.Syntax.{Width}
use mir.Val.{bits, hbits}
use lib.ListN.{get_or}
use lib.Lanes.{chunk, put_chunk}
use lib.Seq.{ext_get_or}
use Rattle.laws.specs.Written.{Written, tabulate}
use Rattle.laws.proofs.Written.{get_d_tabulate, length_tabulate, tabulate_ext}

-- what a select after the comparison t of two vectors is
pub selected : {X Y : Type 0} (w : Width) (t : X → X → Bool) (xs ys : List X) (us vs : List Y)
    → sel_l (map (top (hbits w)) (zip2 (λ a b. cond (t a b) (2 ^ bits w - 1) 0) xs ys)) us vs ≡ sel_l (zip2 t xs ys) us vs
selected w t xs ys us vs = ap (λ ms. sel_l ms us vs) (tops_compared w t xs ys)

-- two lists of one length, lane by lane
pub zip2_tabulated : {X Y Z : Type 0} (c : X) (d : Y) (f : X → Y → Z) (n : ℕ) (xs : List X) (ys : List Y) → length xs ≡ n → length ys ≡ n
    → zip2 f xs ys ≡ tabulate (λ j. f (get_or xs j c) (get_or ys j d)) n
unfolding tabulate
zip2_tabulated c d f zero [] ys p q = refl
zip2_tabulated c d f zero (x ∷ xs) ys p q = absurd (omega (arith, p))
zip2_tabulated c d f (suc n) [] ys p q = absurd (omega (arith, p))
zip2_tabulated c d f (suc n) (x ∷ xs) [] p q = absurd (omega (arith, q))
zip2_tabulated c d f (suc n) (x ∷ xs) (y ∷ ys) p q = ap (λ l. f x y ∷ l) (zip2_tabulated c d f n xs ys (omega (arith, p)) (omega (arith, q)))

-- two vectors of what f and g say, taken together
pub both : {X Y Z : Type 0} (c : X) (d : Y) (h : X → Y → Z) (n : ℕ) (f : ℕ → X) (g : ℕ → Y) (xs : List X) (ys : List Y)
    → xs ≡ tabulate f n → ys ≡ tabulate g n → zip2 h xs ys ≡ tabulate (λ j. h (f j) (g j)) n
both c d h n f g xs ys p q =
    zip2_tabulated c d h n xs ys (ap length p ∙ length_tabulate f n) (ap length q ∙ length_tabulate g n)
    ∙ tabulate_ext _ _ n
    (λ j l. ap₂ h (ap (λ z. get_or z j c) p ∙ get_d_tabulate c f n j l) (ap (λ z. get_or z j d) q ∙ get_d_tabulate d g n j l))

-- a load
pub chunk_tabulated : {X : Type 0} (d : X) (i n : ℕ) (xs : List X) → i + n ≤ length xs → chunk i n xs ≡ tabulate (λ j. get_or xs (i + j) d) n
chunk_tabulated d i n xs h =
    ext_get_or d (chunk i n xs) (tabulate (λ j. get_or xs (i + j) d) n) (length-chunk i n xs h ∙ sym (length_tabulate _ n))
    (λ k l. get_or-chunk i n xs k d (omega (arith, l, length-chunk i n xs h)) ∙ sym (get_d_tabulate d _ n k (omega (arith, l, length-chunk i n xs h))))

-- a store
pub chunk_put : {X : Type 0} (d : X) (i n : ℕ) (xs ys : List X) → length ys ≡ n → i + n ≤ length xs
    → Written d i (λ j. j < n) (λ j. get_or ys j d) xs (put_chunk i xs ys)
chunk_put d i n xs ys e h =
    record {
      long = length-put_chunk i xs ys;
      at = λ j l. get_or-put_chunk_at i xs ys j d (omega (arith, e)) (omega (arith, e));
      off = λ k f. by k f (dec_lt k i) (dec_lt k (i + n));
    }
  where
    by : (k : ℕ) → ((s : ℕ) → s < n → k ≡ i + s → ⊥) → Dec (k < i) → Dec (k < i + n) → get_or (put_chunk i xs ys) k d ≡ get_or xs k d
    by k f (yes p) q = get_or-put_chunk_below i xs ys k d p
    by k f (no p) (no q) = get_or-put_chunk_above i xs ys k d (omega (arith, e))
    by k f (no p) (yes q) = absurd (f (k - i) (omega arith) (omega arith))
