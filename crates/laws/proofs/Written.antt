-- The laws of `Written`: with no place written; one place or one run more; one run of writes after another; a part that was
-- lent and is put back; and the whole as a list. Assumes nothing.
use mathlib.Core.Path.{◌≡◌, refl, sym, ap, ap₂, ◌∙◌, subst}
use mathlib.Core.Logic.{◌⊎◌, inl, inr, ⊎_elim}
use mathlib.Core.List.{List, ◌∷◌, ◌++◌}
use Prim.Native.Nat.{ℕ, zero, suc, ◌+◌, ◌-◌, ◌*◌, ◌/◌, ◌%◌, ◌<◌, ◌≤◌}
use native.Mathlib.Omega.{arith}
use native.Mathlib.Decide.{ℕ_discrete, dec_lt}
use native.Mathlib.Nat.{add_assoc, zero-add, mod-lt}
use borrow.Rule.Slice.PartMut.{put_mid}
use lib.ListN.{length, take, drop, get_or, set, length-set, length-drop, length-append, get_or-append}
use lib.Seq.{length-take-le, get_or-set_same, get_or-set_other, ext_get_or, get_or-append-add, get_or-take, get_or-drop, drop-drop}
use Rattle.laws.proofs.Slots.{slot_div, slot_is}
use Rattle.laws.specs.Written.{Written, At, tabulate, rewritten}

module _ {A : Type 0} {d : A} {base : ℕ} where
  pub none : {P : ℕ → Type 0} {f : ℕ → A} {w : List A} → ((s : ℕ) → P s → ⊥) → Written d base P f w w
  none h = record { long = refl; at = λ s p. absurd (h s p); off = λ i k. refl }

  -- the same places, by another name
  pub same : {P Q : ℕ → Type 0} {f g : ℕ → A} {w w' : List A} → Written d base P f w w'
      → ((s : ℕ) → P s → Q s) → ((s : ℕ) → Q s → P s) → ((s : ℕ) → Q s → f s ≡ g s) → Written d base Q g w w'
  same W to back e =
      record { long = W.long; at = λ s q. W.at s (back s q) ∙ e s q; off = λ i h. W.off i (λ s p. h s (to s p)) }

  -- one store more, at the slot k
  pub store : {P Q : ℕ → Type 0} {f : ℕ → A} {w w' : List A} (k : ℕ) (v : A) → Written d base P f w w'
      → base + k < length w → v ≡ f k → Q k → ((s : ℕ) → P s → Q s) → ((s : ℕ) → Q s → (s ≡ k → ⊥) → P s)
      → Written d base Q f w (set w' (base + k) v)
  store {P} {Q} {f} {w} {w'} k v W inside e here to back =
      record {
        long = length-set w' (base + k) v ∙ W.long;
        at = λ s q. at_place s q (ℕ_discrete s k);
        off = λ i h.
            get_or-set_other w' (base + k) i v d (λ p. h k here p) ∙ W.off i (λ s p. h s (to s p));
      }
    where
      at_place : (s : ℕ) → Q s → Dec (s ≡ k) → get_or (set w' (base + k) v) (base + s) d ≡ f s
      at_place s q (yes p) = rw p (get_or-set_same w' (base + k) v d (omega arith) ∙ e)
      at_place s q (no n) =
          get_or-set_other w' (base + k) (base + s) v d (λ p. n (omega arith)) ∙ W.at s (back s q n)

  -- one run of writes, and then another, whose function says the same of the slice that the first left
  pub after : {P Q R : ℕ → Type 0} {f g : ℕ → A} {w w' w'' : List A} → Written d base P f w w' → Written d base Q g w' w''
      → ((s : ℕ) → P s → R s) → ((s : ℕ) → Q s → R s) → ((s : ℕ) → R s → (P s × (Q s → ⊥)) ⊎ Q s)
      → ((s : ℕ) → Q s → g s ≡ f s) → Written d base R f w w''
  after {P} {Q} {R} {f} {g} {w} {w'} {w''} W U left right back e =
      record {
        long = U.long ∙ W.long;
        at = λ s r. ⊎_elim (λ h. U.off (base + s) (λ j q p. h.1 (subst Q (omega arith) q)) ∙ W.at s h.0) (λ q. U.at s q ∙ e s q) (back s r);
        off = λ i h. U.off i (λ s q. h s (right s q)) ∙ W.off i (λ s p. h s (left s p));
      }

  -- a place below the region, or past it, is as it was
  pub low : {P : ℕ → Type 0} {f : ℕ → A} {w w' : List A} → Written d base P f w w' → (i : ℕ) → i < base → get_or w' i d ≡ get_or w i d
  low W i h = W.off i (λ s p e. omega arith)

  pub high : {P : ℕ → Type 0} {f : ℕ → A} {w w' : List A} (n : ℕ) → Written d base P f w w' → ((s : ℕ) → P s → s < n)
      → (i : ℕ) → base + n ≤ i → get_or w' i d ≡ get_or w i d
  high n W b i h = W.off i (λ s p e. omega (arith, b s p))

  -- a run of z places, as block b of a region
  pub block : {P : ℕ → Type 0} {f : ℕ → A} {w w' : List A} (z b : ℕ) (h : ℕ → A) → 0 < z → Written d (base + b * z) (λ t. t < z) f w w'
      → ((t : ℕ) → t < z → P (b * z + t)) → ((t : ℕ) → t < z → f t ≡ h (b * z + t)) → Written d base (At P (λ s. s / z) b) h w w'
  block {P} {f} {w} {w'} z b h lift W inside e =
      record {
        long = W.long;
        at = λ s p. at_slot s (s % z) (mod-lt s lift) (slot_is s z b (s % z) p.has refl);
        off = λ i k. W.off i (λ t l q. k (b * z + t) (record { among = inside t l; has = slot_div b z t l }) (omega arith));
      }
    where
      at_slot : (s t : ℕ) → t < z → s ≡ b * z + t → get_or w' (base + s) d ≡ h s
      at_slot s t l q =
          let r : base + b * z + t ≡ base + s = omega arith in
          subst (λ (x : ℕ). get_or w' x d ≡ h s) r (W.at t l ∙ e t l ∙ ap h (sym q))

-- slot s is one of the n from k on
abbrev pub Among : ℕ → ℕ → ℕ → Type 0
Among k n s = (k ≤ s) × (s < k + n)

-- a run of n places more, from slot k on, that says there what f says
module _ {A : Type 0} {d : A} {base : ℕ} {P Q : ℕ → Type 0} {f g : ℕ → A} {w w' w'' : List A} (k n : ℕ) where
  pub run_more : Written d base P f w w' → Written d (base + k) (λ j. j < n) g w' w'' → ((j : ℕ) → j < n → g j ≡ f (k + j))
      → ((s : ℕ) → P s → Q s) → ((j : ℕ) → j < n → Q (k + j)) → ((s : ℕ) → Q s → P s ⊎ Among k n s) → Written d base Q f w w''
  run_more W U e old new back =
      record {
        long = U.long ∙ W.long;
        at = λ s q. at_slot s q (dec_lt s k) (dec_lt s (k + n));
        off = λ i h. U.off i (λ j l r. h (k + j) (new j l) (omega arith)) ∙ W.off i (λ s p. h s (old s p));
      }
    where
      outside : (s : ℕ) → (Among k n s → ⊥) → P s ⊎ Among k n s → get_or w'' (base + s) d ≡ f s
      outside s n (inl p) = U.off (base + s) (λ j l r. n (omega arith, omega arith)) ∙ W.at s p
      outside s n (inr q) = absurd (n q)

      at_slot : (s : ℕ) → Q s → Dec (s < k) → Dec (s < k + n) → get_or w'' (base + s) d ≡ f s
      at_slot s q (yes a) b = outside s (λ r. omega (arith, r.0)) (back s q)
      at_slot s q (no a) (no b) = outside s (λ r. b r.1) (back s q)
      at_slot s q (no a) (yes b) =
          let r : base + k + (s - k) ≡ base + s = omega arith in
          let r' : k + (s - k) ≡ s = omega arith in
          subst (λ (x : ℕ). get_or w'' x d ≡ f s) r (U.at (s - k) (omega arith) ∙ e (s - k) (omega arith) ∙ ap f r')

-- a run of a places, and then one of b places after it
module _ {A : Type 0} {d : A} {base : ℕ} {f g : ℕ → A} {w w' w'' : List A} (a b : ℕ) (h : ℕ → A) where
  pub runs : Written d base (λ i. i < a) f w w' → Written d (base + a) (λ i. i < b) g w' w'' → ((i : ℕ) → i < a → f i ≡ h i)
      → ((i : ℕ) → i < b → g i ≡ h (a + i)) → Written d base (λ i. i < a + b) h w w''
  runs W U e k =
      run_more a b (same W (λ s p. p) (λ s p. p) e) U k (λ s p. omega arith) (λ j l. omega arith) (λ s q. part s q (dec_lt s a))
    where
      part : (s : ℕ) → s < a + b → Dec (s < a) → (s < a) ⊎ Among a b s
      part s q (yes p) = inl p
      part s q (no p) = inr (omega arith, q)

-- A loop that goes by a key of the slots: before the turn k the slots with P whose key is below k are written.
pub record Upto (P : ℕ → Type 0) (key : ℕ → ℕ) (k s : ℕ) : Type 0 where
  pub among : P s
  pub below : key s < k

module _ {A : Type 0} {d : A} {base : ℕ} {P : ℕ → Type 0} {key : ℕ → ℕ} {f : ℕ → A} {w : List A} where
  pub upto_none : Written d base (Upto P key 0) f w w
  upto_none = none (λ s p. omega arith)

  -- the turn k writes its slots, by a function that says there what f says
  pub upto_run : {k : ℕ} {g : ℕ → A} {w' w'' : List A} → Written d base (Upto P key k) f w w' → Written d base (At P key k) g w' w''
      → ((s : ℕ) → P s → g s ≡ f s) → Written d base (Upto P key (k + 1)) f w w''
  upto_run {k} W U e =
      after W U
      (λ s p. record { among = p.among; below = omega arith })
      (λ s q. record { among = q.among; below = omega arith })
      (λ s r. split s r (ℕ_discrete (key s) k))
      (λ s q. e s q.among)
    where
      split : (s : ℕ) → Upto P key (k + 1) s → Dec (key s ≡ k) → (Upto P key k s × (At P key k s → ⊥)) ⊎ At P key k s
      split s r (yes h) = inr (record { among = r.among; has = h })
      split s r (no h) = inl (record { among = r.among; below = omega arith }, λ q. h q.has)

  -- the turn k has the slot j alone, and stores there
  pub upto_store : {k : ℕ} {w' : List A} (j : ℕ) (v : A) → Written d base (Upto P key k) f w w' → At P key k j
      → ((s : ℕ) → At P key k s → s ≡ j) → base + j < length w → v ≡ f j
      → Written d base (Upto P key (k + 1)) f w (set w' (base + j) v)
  upto_store {k} j v W here only inside e =
      store j v W inside e
      (record { among = here.among; below = omega arith })
      (λ s p. record { among = p.among; below = omega arith })
      (λ s q n. earlier s q n (ℕ_discrete (key s) k))
    where
      earlier : (s : ℕ) → Upto P key (k + 1) s → (s ≡ j → ⊥) → Dec (key s ≡ k) → Upto P key k s
      earlier s q n (yes h) = absurd (n (only s (record { among = q.among; has = h })))
      earlier s q n (no h) = record { among = q.among; below = omega arith }

  -- the keys are all passed
  pub upto_all : {k : ℕ} {w' : List A} → Written d base (Upto P key k) f w w' → ((s : ℕ) → P s → key s < k) → Written d base P f w w'
  upto_all W h = same W (λ s p. p.among) (λ s q. record { among = q; below = h s q }) (λ s q. refl)

-- a turn k over all slots stores at the slot k
module _ {A : Type 0} {d : A} {base : ℕ} {P : ℕ → Type 0} {f : ℕ → A} {w w' : List A} {k : ℕ} where
  pub upto_next : (v : A) → Written d base (Upto P (λ s. s) k) f w w' → P k → base + k < length w → v ≡ f k
      → Written d base (Upto P (λ s. s) (k + 1)) f w (set w' (base + k) v)
  upto_next v W p inside e = upto_store k v W (record { among = p; has = refl }) (λ s q. q.has) inside e

-- the same from the front of the list
module _ {A : Type 0} {d : A} {P : ℕ → Type 0} {f : ℕ → A} {w w' : List A} {k : ℕ} where
  pub upto_front : (v : A) → Written d 0 (Upto P (λ s. s) k) f w w' → P k → k < length w → v ≡ f k
      → Written d 0 (Upto P (λ s. s) (k + 1)) f w (set w' k v)
  upto_front v W p inside e = rw zero-add at (upto_next v W p (rw zero-add inside) e)

pub length_tabulate : {A : Type 0} (f : ℕ → A) (n : ℕ) → length (tabulate f n) ≡ n
unfolding tabulate
length_tabulate f zero = refl
length_tabulate f (suc n) = ap suc (length_tabulate (λ s. f (suc s)) n)

pub get_d_tabulate : {A : Type 0} (d : A) (f : ℕ → A) (n s : ℕ) → s < n → get_or (tabulate f n) s d ≡ f s
unfolding tabulate
get_d_tabulate d f zero s h = absurd (omega arith)
get_d_tabulate d f (suc n) zero h = refl
get_d_tabulate d f (suc n) (suc s) h = get_d_tabulate d (λ j. f (suc j)) n s (omega arith)

-- functions that agree below n make the same list
pub tabulate_ext : {A : Type 0} (f g : ℕ → A) (n : ℕ) → ((s : ℕ) → s < n → f s ≡ g s) → tabulate f n ≡ tabulate g n
unfolding tabulate
tabulate_ext f g zero e = refl
tabulate_ext f g (suc n) e = ap₂ ◌∷◌ (e 0 (omega arith)) (tabulate_ext (λ s. f (suc s)) (λ s. g (suc s)) n (λ s h. e (suc s) (omega arith)))

past : {A : Type 0} (d : A) (xs ys : List A) (k j : ℕ) → length xs ≡ k → get_or (xs ++ ys) (k + j) d ≡ get_or ys j d
past d xs ys k j e = rw (← e) (get_or-append-add xs ys j d)

-- what stands where in a list that is rewritten at the slots below n
module _ {A : Type 0} (d : A) (base n : ℕ) (f : ℕ → A) (w : List A) (fits : base + n ≤ length w) where
  head : length (take base w) ≡ base
  head = length-take-le base w (omega arith)

  pub length_rewritten : length (rewritten base n f w) ≡ length w
  unfolding rewritten
  length_rewritten = simp (length-append, length_tabulate, length-drop) (omega (arith, head))

  pub low_rewritten : (i : ℕ) → i < base → get_or (rewritten base n f w) i d ≡ get_or w i d
  unfolding rewritten
  low_rewritten i h =
      get_or-append (take base w) (tabulate f n ++ drop (base + n) w) d i (omega (arith, head)) ∙ get_or-take base w i d h

  pub at_rewritten : (s : ℕ) → s < n → get_or (rewritten base n f w) (base + s) d ≡ f s
  unfolding rewritten
  at_rewritten s h =
      past d (take base w) (tabulate f n ++ drop (base + n) w) base s head
      ∙ get_or-append (tabulate f n) (drop (base + n) w) d s (omega (arith, length_tabulate f n))
      ∙ get_d_tabulate d f n s h

  pub high_rewritten : (j : ℕ) → get_or (rewritten base n f w) (base + (n + j)) d ≡ get_or w (base + (n + j)) d
  unfolding rewritten
  high_rewritten j =
      past d (take base w) (tabulate f n ++ drop (base + n) w) base (n + j) head
      ∙ past d (tabulate f n) (drop (base + n) w) n j (length_tabulate f n) ∙ get_or-drop (base + n) w j d
      ∙ ap (λ (k : ℕ). get_or w k d) (add_assoc base n j)

  -- it is written there
  pub written_rewritten : Written d base (λ s. s < n) f w (rewritten base n f w)
  written_rewritten = record { long = length_rewritten; at = at_rewritten; off = λ i h. off i h (dec_lt i base) }
    where
      off : (i : ℕ) → ((s : ℕ) → s < n → i ≡ base + s → ⊥) → Dec (i < base) → get_or (rewritten base n f w) i d ≡ get_or w i d
      off i h (yes k) = low_rewritten i k
      off i h (no k) = by (dec_lt i (base + n))
        where
          by : Dec (i < base + n) → get_or (rewritten base n f w) i d ≡ get_or w i d
          by (yes l) = absurd (h (i - base) (omega arith) (omega arith))
          by (no l) = let e : base + (n + (i - (base + n))) ≡ i = omega arith in rw e at (high_rewritten (i - (base + n)))

  -- writes at every slot below n give the list rewritten there
  pub whole : {w' : List A} → Written d base (λ s. s < n) f w w' → w' ≡ rewritten base n f w
  whole {w'} W = ext_get_or d w' (rewritten base n f w) (W.long ∙ sym length_rewritten) (λ i h. at i (dec_lt i base) (dec_lt i (base + n)))
    where
      at : (i : ℕ) → Dec (i < base) → Dec (i < base + n) → get_or w' i d ≡ get_or (rewritten base n f w) i d
      at i (yes h) d = low W i h ∙ sym (low_rewritten i h)
      at i (no h) (yes k) =
          let e : base + (i - base) ≡ i = omega arith in
          rw e at (W.at (i - base) (omega arith) ∙ sym (at_rewritten (i - base) (omega arith)))
      at i (no h) (no k) =
          let e : base + (n + (i - (base + n))) ≡ i = omega arith in
          W.off i (λ s p q. omega arith) ∙ sym (rw e at (high_rewritten (i - (base + n))))

-- a list that holds f at each place is f all through
pub tabulated : {A : Type 0} (d : A) (f : ℕ → A) (n : ℕ) (l : List A) → length l ≡ n → ((s : ℕ) → s < n → get_or l s d ≡ f s)
    → l ≡ tabulate f n
tabulated d f n l e at =
    ext_get_or d l (tabulate f n) (e ∙ sym (length_tabulate f n))
    (λ i h. let k : i < n = omega arith in at i k ∙ sym (get_d_tabulate d f n i k))

-- a part that was lent and is put back, holding f: f is written there, and nothing elsewhere
pub put_written : {A : Type 0} (d : A) (at z n : ℕ) (l part : List A) (f : ℕ → A) → n ≡ z → at + z ≤ length l → length part ≡ z
    → ((t : ℕ) → t < z → get_or part t d ≡ f t) → Written d at (λ t. t < z) f l (put_mid at n l part)
unfolding rewritten
put_written d at z n l part f e fits long is =
    let same : put_mid at n l part ≡ rewritten at z f l =
    ap₂ (λ x y. take at l ++ (x ++ y)) (tabulated d f z part long is) (drop-drop n at l ∙ ap (λ (k : ℕ). drop (at + k) l) e) in
    subst (Written d at (λ t. t < z) f l) (sym same) (written_rewritten d at z f l fits)

-- the same of a part that is f all through
pub put_tabulated : {A : Type 0} (d : A) (at z n : ℕ) (l part : List A) (f : ℕ → A) → n ≡ z → at + z ≤ length l → part ≡ tabulate f z
    → Written d at (λ t. t < z) f l (put_mid at n l part)
put_tabulated d at z n l part f e fits is =
    put_written d at z n l part f e fits (ap length is ∙ length_tabulate f z) (λ t h. ap (λ x. get_or x t d) is ∙ get_d_tabulate d f z t h)

-- a number of a part that is lent
pub part_at : {A : Type 0} (d : A) (l : List A) (at z n k : ℕ) → n ≡ z → k < z → get_or (take n (drop at l)) k d ≡ get_or l (at + k) d
part_at d l at z n k e h = get_or-take n (drop at l) k d (omega arith) ∙ get_or-drop at l k d

-- a list of n that is written at all its places, key by key, is f all through
pub upto_tabulated : {A : Type 0} {d : A} {key : ℕ → ℕ} {f : ℕ → A} {w w' : List A} (n k : ℕ) → length w ≡ n → ((s : ℕ) → s < n → key s < k)
    → Written d 0 (Upto (λ s. s < n) key k) f w w' → w' ≡ tabulate f n
upto_tabulated {A} {d} {key} {f} {w} {w'} n k long below W =
    tabulated d f n w' (W.long ∙ long) (λ s h. rw zero-add at (W.at s (record { among = h; below = below s h })))

-- a list that is written from the front, and held f already past what is written, is f all through
pub filled : {A : Type 0} (d : A) (f : ℕ → A) (w : List A) {w' : List A} (k : ℕ) → Written d 0 (Upto (λ s. s < length w) (λ s. s) k) f w w'
    → ((s : ℕ) → k ≤ s → s < length w → get_or w s d ≡ f s) → w' ≡ tabulate f (length w)
filled d f w {w'} k W rest = tabulated d f (length w) w' W.long (λ i h. at i h (dec_lt i k))
  where
    at : (i : ℕ) → i < length w → Dec (i < k) → get_or w' i d ≡ f i
    at i h (yes b) = rw zero-add at (W.at i (record { among = h; below = b }))
    at i h (no b) = W.off i (λ s p e. b (omega arith)) ∙ rest i (omega arith) h
