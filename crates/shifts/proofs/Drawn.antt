-- The laws of the draws and of the shifts chosen: each is below 512, and p places have p shifts. Assumes nothing.
use Rattle.std.proofs.Common.{◌≡◌, ℕ, zero, suc, ◌+◌, ◌<◌, List, [], ◌∷◌, ◌++◌, length, get_or, refl, arith, length-append}
use native.Mathlib.Decide.{ℕ_discrete, dec_lt}
use lib.ListN.{get_or-append, get_or-eq_default}
use lib.Seq.{get_or_at}
use Rattle.shifts.specs.Generator.{draw_of}
use Rattle.shifts.specs.Shifts.{draw_at, choose, chosen}

pub draw_lt : (s : ℕ) → draw_of s < 512
unfolding draw_of
draw_lt s = omega arith

pub length_chosen : (rows : List ℕ) (seed p : ℕ) → length (chosen rows seed p).shifts ≡ p
unfolding chosen choose
length_chosen rows seed zero = refl
length_chosen rows seed (suc p) = simp length-append (omega (arith, length_chosen rows seed p))

-- one number more below 512
low_more : (l : List ℕ) (v : ℕ) → v < 512 → ((i : ℕ) → get_or l i 0 < 512) → (i : ℕ) → get_or (l ++ (v ∷ [])) i 0 < 512
low_more l v h low i = by (dec_lt i (length l)) (ℕ_discrete i (length l))
  where
    by : Dec (i < length l) → Dec (i ≡ length l) → get_or (l ++ (v ∷ [])) i 0 < 512
    by (yes k) d = rw (get_or-append l (v ∷ []) 0 i k) (low i)
    by (no k) (yes e) = rw (e, get_or_at l v [] 0 (length l) refl) h
    by (no k) (no n) =
        let long : length (l ++ (v ∷ [])) ≡ length l + 1 = length-append l (v ∷ []) in
        let past : get_or (l ++ (v ∷ [])) i 0 ≡ 0 = get_or-eq_default (l ++ (v ∷ [])) 0 (omega arith) in
        omega arith

pub shift_lt : (rows : List ℕ) (seed p i : ℕ) → get_or (chosen rows seed p).shifts i 0 < 512
unfolding chosen choose draw_at
shift_lt rows seed zero i = omega arith
shift_lt rows seed (suc p) i = low_more (chosen rows seed p).shifts _ (draw_lt _) (shift_lt rows seed p) i
