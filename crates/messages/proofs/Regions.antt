-- The work memory cut into its regions and put together: what is read there, what is written there, and an iteration. Assumes nothing.
use mathlib.Core.Path.{◌≡◌, refl, sym, ap, ap₂, ◌∙◌}
use mathlib.Core.List.{List, [], ◌++◌}
use Prim.Native.Nat.{ℕ, ◌+◌, ◌*◌, ◌/◌, ◌%◌, ◌<◌, ◌≤◌}
use native.Mathlib.Omega.{arith}
use lib.ListN.{length, take, drop, get_or, length-append, length-drop, get_or-append}
use lib.Seq.{length-take-le, get_or-append-add, take-append_seam, drop-append_seam}
use lib.Ieee.{Float, nan, sub, binary32}
use Rattle.laws.specs.Range.{folded}
use Rattle.laws.specs.Written.{tabulate, rewritten}
use Rattle.laws.proofs.Written.{length_tabulate, get_d_tabulate, tabulate_ext}
use Rattle.laws.proofs.Slots.{edge_lt}
use Rattle.tables.specs.declared.BaseGraph.{BaseGraph}
use Rattle.matrix.specs.Edges.{edges_by_row}
use Rattle.matrix.proofs.Simple.{Simple}
use Rattle.std.proofs.lemmas.List.{take-append-drop, append_assoc}
use Rattle.messages.specs.Memory.{bits_of, slots_of, to_checks_at, to_bits_at, needed, reading, number}
use Rattle.messages.specs.Iteration.{added, check_pass, total, total_pass, to_check, send_pass, iteration}
use Rattle.messages.specs.Regions.{Memory, memory_of, numbers_of, to_bits_of, total_of, totals_of, to_check_of, to_checks_of, passed_regions, iterated_regions}
use Rattle.messages.proofs.Local.{edge_bit, to_bit_agrees, added_agrees}

-- a list in three parts, of which the middle is rewritten, and read
module _ {A : Type 0} (base n : ℕ) (xs ys zs : List A) (e : length xs ≡ base) (k : length ys ≡ n) where
  rewritten_part : (f : ℕ → A) → rewritten base n f (xs ++ (ys ++ zs)) ≡ xs ++ (tabulate f n ++ zs)
  unfolding rewritten
  rewritten_part f = ap₂ (λ a b. a ++ (tabulate f n ++ b)) front behind
    where
      front : take base (xs ++ (ys ++ zs)) ≡ xs
      front = rw (← e) (take-append_seam xs (ys ++ zs))

      long : length (xs ++ ys) ≡ base + n
      long = length-append xs ys ∙ ap₂ (λ (a b : ℕ). a + b) e k

      behind : drop (base + n) (xs ++ (ys ++ zs)) ≡ zs
      behind = rw (← long, ← append_assoc xs ys zs) (drop-append_seam (xs ++ ys) zs)

  read_part : (d : A) (s : ℕ) → s < n → get_or (xs ++ (ys ++ zs)) (base + s) d ≡ get_or ys s d
  read_part d s h = rw (← e) (get_or-append-add xs (ys ++ zs) s d ∙ get_or-append ys zs d s (omega (arith, k)))

-- the regions have their lengths
pub record Cut (n e : ℕ) (m : Memory) : Type 0 where
  pub channel : length m.channel ≡ n
  pub totals : length m.totals ≡ n
  pub to_checks : length m.to_checks ≡ e
  pub to_bits : length m.to_bits ≡ e

pub cut : (n e : ℕ) (w : List Float) → 2 * n + 2 * e ≤ length w → Cut n e (memory_of n e w)
unfolding memory_of
cut n e w h =
    record {
      channel = length-take-le n w (omega arith);
      totals = length-take-le n (drop n w) (omega (arith, length-drop n w));
      to_checks = length-take-le e (drop n (drop n w)) (omega (arith, length-drop n w, length-drop n (drop n w)));
      to_bits = length-take-le e (drop e (drop n (drop n w))) (omega (arith, length-drop n w, length-drop n (drop n w), length-drop e (drop n (drop n w))));
    }

pub together : (n e : ℕ) (w : List Float) → numbers_of (memory_of n e w) ≡ w
unfolding memory_of numbers_of
together n e w =
    rw (take-append-drop e (drop e (drop n (drop n w))), take-append-drop e (drop n (drop n w)), take-append-drop n (drop n w), take-append-drop n w) refl

-- a region is rewritten, and read
module _ (n e : ℕ) (m : Memory) (C : Cut n e m) where
  three : numbers_of m ≡ (m.channel ++ m.totals) ++ (m.to_checks ++ (m.to_bits ++ m.beyond))
  unfolding numbers_of
  three = sym (append_assoc m.channel m.totals (m.to_checks ++ (m.to_bits ++ m.beyond)))

  four : numbers_of m ≡ ((m.channel ++ m.totals) ++ m.to_checks) ++ (m.to_bits ++ m.beyond)
  four = three ∙ sym (append_assoc (m.channel ++ m.totals) m.to_checks (m.to_bits ++ m.beyond))

  two_long : length (m.channel ++ m.totals) ≡ 2 * n
  two_long = length-append m.channel m.totals ∙ omega (arith, C.channel, C.totals)

  three_long : length ((m.channel ++ m.totals) ++ m.to_checks) ≡ 2 * n + e
  three_long = length-append (m.channel ++ m.totals) m.to_checks ∙ omega (arith, two_long, C.to_checks)

  pub channel_rewritten : (f : ℕ → Float) → rewritten 0 n f (numbers_of m)
      ≡ numbers_of (record { channel = tabulate f n; totals = m.totals; to_checks = m.to_checks; to_bits = m.to_bits; beyond = m.beyond })
  unfolding numbers_of
  channel_rewritten f = rewritten_part 0 n [] m.channel _ refl C.channel f

  pub totals_rewritten : (f : ℕ → Float) → rewritten n n f (numbers_of m)
      ≡ numbers_of (record { channel = m.channel; totals = tabulate f n; to_checks = m.to_checks; to_bits = m.to_bits; beyond = m.beyond })
  unfolding numbers_of
  totals_rewritten f = rewritten_part n n m.channel m.totals _ C.channel C.totals f

  pub to_checks_rewritten : (f : ℕ → Float) → rewritten (2 * n) e f (numbers_of m)
      ≡ numbers_of (record { channel = m.channel; totals = m.totals; to_checks = tabulate f e; to_bits = m.to_bits; beyond = m.beyond })
  unfolding numbers_of
  to_checks_rewritten f =
      ap (rewritten (2 * n) e f) three ∙ rewritten_part (2 * n) e (m.channel ++ m.totals) m.to_checks _ two_long C.to_checks f
      ∙ append_assoc m.channel m.totals _

  pub to_bits_rewritten : (f : ℕ → Float) → rewritten (2 * n + e) e f (numbers_of m)
      ≡ numbers_of (record { channel = m.channel; totals = m.totals; to_checks = m.to_checks; to_bits = tabulate f e; beyond = m.beyond })
  unfolding numbers_of
  to_bits_rewritten f =
      ap (rewritten (2 * n + e) e f) four
      ∙ rewritten_part (2 * n + e) e ((m.channel ++ m.totals) ++ m.to_checks) m.to_bits _ three_long C.to_bits f
      ∙ append_assoc (m.channel ++ m.totals) m.to_checks _ ∙ append_assoc m.channel m.totals _

  pub channel_read : (s : ℕ) → s < n → get_or (numbers_of m) s nan ≡ number m.channel s
  unfolding numbers_of
  channel_read s h = get_or-append m.channel _ nan s (omega (arith, C.channel))

  pub totals_read : (s : ℕ) → s < n → reading (numbers_of m) n s ≡ number m.totals s
  unfolding numbers_of
  totals_read = read_part n n m.channel m.totals _ C.channel C.totals nan

  pub to_checks_read : (s : ℕ) → s < e → reading (numbers_of m) (2 * n) s ≡ number m.to_checks s
  to_checks_read s h =
      ap (λ w. reading w (2 * n) s) three ∙ read_part (2 * n) e (m.channel ++ m.totals) m.to_checks _ two_long C.to_checks nan s h

  pub to_bits_read : (s : ℕ) → s < e → reading (numbers_of m) (2 * n + e) s ≡ number m.to_bits s
  to_bits_read s h =
      ap (λ w. reading w (2 * n + e) s) four
      ∙ read_part (2 * n + e) e ((m.channel ++ m.totals) ++ m.to_checks) m.to_bits _ three_long C.to_bits nan s h

-- the bit pass, region by region, of any messages to bits
module _ (g : BaseGraph) (simple : Simple g) (z : ℕ) (lift : 0 < z) (m : Memory) (C : Cut (bits_of g z) (slots_of g z) m) where
  abbrev N : ℕ
  N = bits_of g z

  abbrev E : ℕ
  E = slots_of g z

  abbrev sums : List Float
  sums = totals_of g z m.channel m.to_bits

  -- the memory once the totals stand in it
  abbrev second : Memory
  second = record { channel = m.channel; totals = sums; to_checks = m.to_checks; to_bits = m.to_bits; beyond = m.beyond }

  cut_second : Cut N E second
  unfolding totals_of
  cut_second = record { channel = C.channel; totals = length_tabulate _ N; to_checks = C.to_checks; to_bits = C.to_bits }

  totalled : total_pass g z (numbers_of m) ≡ numbers_of second
  unfolding total_pass totals_of total_of total to_bits_at
  totalled =
      totals_rewritten N E m C _
      ∙ ap (λ t. numbers_of (record { channel = m.channel; totals = t; to_checks = m.to_checks; to_bits = m.to_bits; beyond = m.beyond }))
      (tabulate_ext _ _ N (λ v h.
      added_agrees g z lift (number m.to_bits) (reading (numbers_of m) (to_bits_at g z)) (to_bits_read N E m C) v _
      ∙ ap (λ x. folded (added g z (number m.to_bits) v) x (edges_by_row g g.shape.m_b)) (channel_read N E m C v h)))

  sent : send_pass g z (numbers_of second) ≡ numbers_of (passed_regions g z m)
  unfolding send_pass to_check to_checks_of to_check_of totals_of to_checks_at to_bits_at slots_of passed_regions
  sent =
      to_checks_rewritten N E second cut_second _
      ∙ ap (λ k. numbers_of (record { channel = m.channel; totals = sums; to_checks = k; to_bits = m.to_bits; beyond = m.beyond }))
      (tabulate_ext _ _ E (λ s h.
      let inside = edge_bit g simple z lift (s / z) (s % z) (edge_lt lift h) in
      ap₂ (sub binary32)
      (totals_read N E second cut_second _ inside ∙ get_d_tabulate nan (total_of g z m.channel m.to_bits) N _ inside)
      (to_bits_read N E second cut_second s h)))

  passed : send_pass g z (total_pass g z (numbers_of m)) ≡ numbers_of (passed_regions g z m)
  passed = ap (send_pass g z) totalled ∙ sent

-- an iteration, region by region
module _ (g : BaseGraph) (simple : Simple g) (z : ℕ) (lift : 0 < z) (factor : Float) (m : Memory) (C : Cut (bits_of g z) (slots_of g z) m) where
  abbrev bits : List Float
  bits = to_bits_of factor g z m.to_checks

  -- the memory after the check pass
  abbrev first : Memory
  first = record { channel = m.channel; totals = m.totals; to_checks = m.to_checks; to_bits = bits; beyond = m.beyond }

  cut_first : Cut (bits_of g z) (slots_of g z) first
  unfolding to_bits_of
  cut_first = record { channel = C.channel; totals = C.totals; to_checks = C.to_checks; to_bits = length_tabulate _ (slots_of g z) }

  checked : check_pass factor g z (numbers_of m) ≡ numbers_of first
  unfolding check_pass to_bits_of to_checks_at to_bits_at
  checked =
      to_bits_rewritten (bits_of g z) (slots_of g z) m C _
      ∙ ap (λ b. numbers_of (record { channel = m.channel; totals = m.totals; to_checks = m.to_checks; to_bits = b; beyond = m.beyond }))
      (tabulate_ext _ _ (slots_of g z)
      (to_bit_agrees g z lift (number m.to_checks) (reading (numbers_of m) (to_checks_at g z)) (to_checks_read (bits_of g z) (slots_of g z) m C) factor))

  iterated : iteration factor g z (numbers_of m) ≡ numbers_of (iterated_regions factor g z m)
  unfolding iteration iterated_regions passed_regions
  iterated = ap (λ w. send_pass g z (total_pass g z w)) checked ∙ passed g simple z lift first cut_first

-- of a memory that holds the needed numbers
pub iteration_by_regions : (g : BaseGraph) → Simple g → (z : ℕ) → 0 < z → (factor : Float) (w : List Float) → needed g z ≤ length w
    → iteration factor g z w ≡ numbers_of (iterated_regions factor g z (memory_of (bits_of g z) (slots_of g z) w))
unfolding needed
iteration_by_regions g simple z lift factor w room =
    ap (iteration factor g z) (sym (together (bits_of g z) (slots_of g z) w))
    ∙ iterated g simple z lift factor (memory_of (bits_of g z) (slots_of g z) w) (cut (bits_of g z) (slots_of g z) w room)

-- the bit pass of such a memory, whatever its messages to bits
pub bit_pass_by_regions : (g : BaseGraph) → Simple g → (z : ℕ) → 0 < z → (w : List Float) → needed g z ≤ length w
    → send_pass g z (total_pass g z w) ≡ numbers_of (passed_regions g z (memory_of (bits_of g z) (slots_of g z) w))
unfolding needed
bit_pass_by_regions g simple z lift w room =
    ap (λ w. send_pass g z (total_pass g z w)) (sym (together (bits_of g z) (slots_of g z) w))
    ∙ passed g simple z lift (memory_of (bits_of g z) (slots_of g z) w) (cut (bits_of g z) (slots_of g z) w room)
