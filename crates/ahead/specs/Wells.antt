-- Wells on one allowance. Left open: between scans a list has replacements by a start in the well's own part; a
-- grant to one well, or a record that was started elsewhere, is no event (a read and a preview change nothing);
-- the allowance and iterations are numbers of 32 and 16 bits by their types; how a pad stands as numbers at the
-- C boundary. Assumes nothing.
use Rattle.std.specs.Prelude.{◌≡◌, Bool, true, false, not, cond, ◌&&◌, List, [], ◌∷◌, ◌++◌, ℕ, zero, suc, ◌+◌, ◌-◌, ◌*◌, ◌/◌, ◌%◌, ◌<◌, ◌≤◌, ltb, length, get_or, set, take, drop, replicate, Option, None, Ok, Float}
use Rattle.laws.specs.Range.{sum, first}
use Rattle.refusals.specs.Outcome.{Outcome, and_then, after}
use Rattle.ldpc.specs.declared.choice.Code.{Code}
use Rattle.ldpc.specs.Choice.{if_made}
use Rattle.decoder.specs.Calls.{if_work}
use Rattle.decoder.specs.Decoding.{result_of}
use Rattle.channel.specs.Channel.{start_memory}
use Rattle.word.specs.Word.{word_of}
use Rattle.ahead.specs.Refused.{range_test, if_eighths}
use Rattle.ahead.specs.Schedules.{flooding}
use Rattle.ahead.specs.Decoder.{Choices, Decode, unbroken, run_of_grant, lowest_of, first_lowest, record_of, start_outcome, memory_after_start, grant_outcome, memory_after_grant, read_outcome, word_after_read}

-- a pad: the number of wells; the last served, the well from 0 to which the last iteration was dealt (wells − 1
-- before any); sixteen decode records, of which the first `wells` are the wells'
pub record Pad : Type 0 where
  pub wells : ℕ
  pub last : ℕ
  pub decodes : List Decode

-- what stands for a record past the sixteen, and for a well that was not started: a scan with such a well is
-- refused, with 11 where no other fault comes first
unfoldable pub no_decode : Decode
no_decode =
    record {
      code = record { rate = 0; n_tx = 0; family = 0; z = 0; k = 0; shortened = 0 };
      iterations = 0;
      converged = true;
      eighths = 0;
      schedule = flooding;
      lowest = 0;
      lowest_at = 0;
    }

abbrev pub decode_of : List Decode → ℕ → Decode
decode_of l i = get_or l i no_decode

-- the well i + 1 places after the last served, in well order, the first following the last
abbrev pub well_after : Pad → ℕ → ℕ
well_after pad i = (pad.last + 1 + i) % pad.wells

-- ---- set-up: 15
unfoldable pub pad_outcome : ℕ → Outcome Pad
pad_outcome wells =
    and_then (range_test 15 wells 1 16) (λ _.
    Ok (record { wells = wells; last = wells - 1; decodes = replicate 16 no_decode }))

-- the well after the last served is the first, and so on in well order
abbrev pub SetUp : Type 0
SetUp =
    (wells : ℕ) (pad : Pad) → pad_outcome wells ≡ Ok pad
    → (pad.wells ≡ wells) × (1 ≤ wells) × (wells ≤ 16) × (length pad.decodes ≡ 16) × (pad.last < wells)
    × ((i : ℕ) → i < wells → well_after pad i ≡ i)

-- ---- the wells' memory, in equal parts
abbrev pub part_length : ℕ → List Float → ℕ
part_length wells w = length w / wells

-- the part of well i
unfoldable pub part_of : ℕ → ℕ → List Float → List Float
part_of wells i w = take (part_length wells w) (drop (i * part_length wells w) w)

-- the memory with x as the part of well i
unfoldable pub memory_with_part : ℕ → ℕ → List Float → List Float → List Float
memory_with_part wells i w x =
    let part = part_length wells w in take (i * part) w ++ (x ++ drop part (drop (i * part) w))

-- what lies past the parts
abbrev pub past_parts : ℕ → List Float → List Float
past_parts wells w = drop (wells * part_length wells w) w

-- ---- a scan: the pad, the wells' memory, how many iterations each of sixteen was dealt, and what is left
pub record Scan : Type 0 where
  pub pad : Pad
  pub memory : List Float
  pub dealt : List ℕ
  pub left : ℕ

-- how many iterations the scan dealt to well i
abbrev pub dealt_to : Scan → ℕ → ℕ
dealt_to s i = get_or s.dealt i 0

-- a well that can take one iteration more
abbrev pub able : Decode → Bool
able d = not d.converged && ltb d.iterations 65535

-- the record after a grant of g iterations that brings nothing
abbrev pub record_after_grant : Decode → ℕ → List Float → Decode
record_after_grant d g w = record_of d.code d.schedule d.eighths (lowest_of d []) (run_of_grant d g None w)

-- an iteration dealt to well i is a grant of 1 that brings nothing
unfoldable pub scan_after_deal_to : Scan → ℕ → Scan
scan_after_deal_to s i =
    let d = decode_of s.pad.decodes i in
    let own = part_of s.pad.wells i s.memory in
    record {
      pad =
          record { wells = s.pad.wells; last = i; decodes = set s.pad.decodes i (record_after_grant d 1 own) };
      memory = memory_with_part s.pad.wells i s.memory (run_of_grant d 1 None own).memory;
      dealt = set s.dealt i (dealt_to s i + 1);
      left = s.left - 1;
    }

-- a deal goes to the next able well after the last served, in well order, where there is one
unfoldable pub scan_after_deal : Scan → Scan
scan_after_deal s =
    let next = first (λ i. able (decode_of s.pad.decodes (well_after s.pad i))) s.pad.wells in
    cond (ltb next s.pad.wells) (scan_after_deal_to s (well_after s.pad next)) s

-- n deals. A scan makes as many as its allowance, all of it left at first, so something is left before each
unfoldable pub scan_after_deals : ℕ → Scan → Scan
scan_after_deals zero s = s
scan_after_deals (suc n) s = scan_after_deal (scan_after_deals n s)

-- ---- the call: 15 for the wells, 15 for the last served; then 11, 13 and 8 well by well, the lowest first
-- the tests f 0 .. f (n - 1) in turn, up to the first that refuses
unfoldable pub first_fault : (ℕ → Outcome (Unit {0})) → ℕ → Outcome (Unit {0})
first_fault f zero = Ok tt
first_fault f (suc n) = and_then (first_fault f n) (λ _. f n)

-- 11, 13 and 8 of well i, whose part of the memory has that length; a converged well is tested too
unfoldable pub well_outcome : Pad → ℕ → ℕ → Outcome (Unit {0})
well_outcome pad part i =
    let d = decode_of pad.decodes i in if_made d.code (if_eighths d.eighths (if_work d.code part (Ok tt)))

unfoldable pub scan_outcome : Pad → ℕ → List Float → Outcome Scan
scan_outcome pad allowance w =
    and_then (range_test 15 pad.wells 1 16) (λ _.
    and_then (range_test 15 pad.last 0 (pad.wells - 1)) (λ _.
    and_then (first_fault (well_outcome pad (part_length pad.wells w)) pad.wells) (λ _.
    Ok (scan_after_deals allowance
    (record { pad = pad; memory = w; dealt = replicate 16 0; left = allowance })))))

-- what a scan tells, and what it leaves in the wells' memory
pub record ScanResult : Type 0 where
  pub pad : Pad
  pub dealt : List ℕ
  pub left : ℕ

unfoldable pub scan_told : Pad → ℕ → List Float → Outcome ScanResult
scan_told pad allowance w =
    and_then (scan_outcome pad allowance w) (λ s. Ok (record { pad = s.pad; dealt = s.dealt; left = s.left }))

unfoldable pub memory_after_scan : Pad → ℕ → List Float → List Float
memory_after_scan pad allowance w = after (scan_outcome pad allowance w) (λ s. s.memory) w

-- ---- the statements, of an accepted scan
-- dealt and left over are the allowance, and any is left over only where nobody can take more
abbrev pub DealtAndLeft : Type 0
DealtAndLeft =
    (pad : Pad) (allowance : ℕ) (w : List Float) (t : ScanResult) → length pad.decodes ≡ 16
    → scan_told pad allowance w ≡ Ok t
    → (length t.dealt ≡ 16) × (sum (λ i. get_or t.dealt i 0) 16 + t.left ≡ allowance)
    × (0 < t.left → (i : ℕ) → i < pad.wells → able (decode_of t.pad.decodes i) ≡ false)

-- each iteration dealt is done: none is dealt to a converged well
abbrev pub EachDone : Type 0
EachDone =
    (pad : Pad) (allowance : ℕ) (w : List Float) (s : Scan) → length pad.decodes ≡ 16
    → scan_outcome pad allowance w ≡ Ok s
    → (i : ℕ) → i < pad.wells
    → (decode_of s.pad.decodes i).iterations ≡ (decode_of pad.decodes i).iterations + dealt_to s i

-- fair: none is dealt two while another, able throughout, is dealt none (a well that is dealt none is able
-- throughout, or never)
abbrev pub Fair : Type 0
Fair =
    (pad : Pad) (allowance : ℕ) (w : List Float) (s : Scan) → length pad.decodes ≡ 16
    → scan_outcome pad allowance w ≡ Ok s
    → (i j : ℕ) → i < pad.wells → j < pad.wells → 2 ≤ dealt_to s i → able (decode_of pad.decodes j) ≡ true
    → 1 ≤ dealt_to s j

-- in rounds, in well order from the well after the last served: one that is able at the end was dealt at least
-- as many as each after it, and at most one less than each before it
abbrev pub InRounds : Type 0
InRounds =
    (pad : Pad) (allowance : ℕ) (w : List Float) (s : Scan) → length pad.decodes ≡ 16
    → scan_outcome pad allowance w ≡ Ok s
    → (a b : ℕ) → a < pad.wells → b < pad.wells → able (decode_of s.pad.decodes (well_after pad a)) ≡ true
    → (a < b → dealt_to s (well_after pad b) ≤ dealt_to s (well_after pad a))
    × (dealt_to s (well_after pad b) ≤ dealt_to s (well_after pad a) + 1)

-- the last served is the last, in that order, of those dealt the most
abbrev pub LastServed : Type 0
LastServed =
    (pad : Pad) (allowance : ℕ) (w : List Float) (s : Scan) → length pad.decodes ≡ 16
    → scan_outcome pad allowance w ≡ Ok s
    → (a b : ℕ) → a < pad.wells → b < pad.wells → well_after pad b ≡ s.pad.last
    → (dealt_to s (well_after pad a) ≤ dealt_to s (well_after pad b))
    × (b < a → dealt_to s (well_after pad a) < dealt_to s (well_after pad b))

-- past the wells none is dealt, and the record is unchanged
abbrev pub NonePast : Type 0
NonePast =
    (pad : Pad) (allowance : ℕ) (w : List Float) (s : Scan) → length pad.decodes ≡ 16
    → scan_outcome pad allowance w ≡ Ok s
    → (i : ℕ) → pad.wells ≤ i → (dealt_to s i ≡ 0) × (decode_of s.pad.decodes i ≡ decode_of pad.decodes i)

-- a grant to the well alone of what was dealt to it would be accepted, and come to the same; iterations are a
-- number of 16 bits
abbrev pub AsGranted : Type 0
AsGranted =
    (pad : Pad) (allowance : ℕ) (w : List Float) (s : Scan) → length pad.decodes ≡ 16
    → scan_outcome pad allowance w ≡ Ok s
    → (i : ℕ) → i < pad.wells → (decode_of pad.decodes i).iterations ≤ 65535
    → let own = part_of pad.wells i w in
    let d = decode_of pad.decodes i in
    (grant_outcome d (dealt_to s i) None None own ≡ Ok (decode_of s.pad.decodes i))
    × (part_of pad.wells i s.memory ≡ memory_after_grant d (dealt_to s i) None None own)

-- ---- lists of scans, with wells replaced between them by freshly started ones, with the lowest word's slice
-- or without; the length of the memory is fixed
pub data Event : Type 0 where
  scan : (allowance : ℕ) → Event
  replace : (well : ℕ) → (c : Code) → (ch : Choices) → (rx : List Float) → (slice : Option (List ℕ)) → Event

-- what stands between the events: the pad and the wells' memory
pub record PadState : Type 0 where
  pub pad : Pad
  pub memory : List Float

-- well i started in its part; a refused start changes nothing
unfoldable pub after_replacement : PadState → ℕ → Code → Choices → List Float → Option (List ℕ) → PadState
after_replacement f i c ch rx slice =
    let own = part_of f.pad.wells i f.memory in
    after (start_outcome c ch rx slice own) (λ d.
    record {
      pad = record { wells = f.pad.wells; last = f.pad.last; decodes = set f.pad.decodes i d };
      memory = memory_with_part f.pad.wells i f.memory (memory_after_start c ch rx slice own);
    }) f

-- what an event leaves: a refused scan changes nothing, nor does a replacement past the wells
unfoldable pub event_after : PadState → Event → PadState
event_after f (scan allowance) =
    record {
      pad = after (scan_told f.pad allowance f.memory) (λ t. t.pad) f.pad;
      memory = memory_after_scan f.pad allowance f.memory;
    }
event_after f (replace i c ch rx slice) = cond (ltb i f.pad.wells) (after_replacement f i c ch rx slice) f

-- what a list of events leaves, from its front
unfoldable pub events_after : PadState → List Event → PadState
events_after f [] = f
events_after f (e ∷ l) = events_after (event_after f e) l

-- what an event deals to a well: a refused scan none
unfoldable pub dealt_by : PadState → Event → ℕ → ℕ
dealt_by f (scan allowance) well = after (scan_told f.pad allowance f.memory) (λ t. get_or t.dealt well 0) 0
dealt_by f (replace i c ch rx slice) well = 0

-- what a list deals to a well, in all
unfoldable pub dealt_in : PadState → ℕ → List Event → ℕ
dealt_in f well [] = 0
dealt_in f well (e ∷ l) = dealt_by f e well + dealt_in (event_after f e) well l

-- the event is a replacement of the well
abbrev pub Replaces : Event → ℕ → Type 0
Replaces (scan allowance) well = ⊥
Replaces (replace i c ch rx slice) well = i ≡ well

-- the well is not replaced in the list: a replacement of it changes nothing, as where the start is refused
abbrev pub Stays : PadState → ℕ → List Event → Type 0
Stays f well [] = Unit {0}
Stays f well (e ∷ l) = (Replaces e well → event_after f e ≡ f) × Stays (event_after f e) well l

-- what a set-up gives and no event changes
pub record IsPad (pad : Pad) : Type 0 where
  pub sixteen : length pad.decodes ≡ 16
  pub at_least_one : 1 ≤ pad.wells
  pub at_most_sixteen : pad.wells ≤ 16

-- the number of wells and of records, the length of the memory, what lies past the parts and the records past
-- the wells stay
abbrev pub FixedThroughout : Type 0
FixedThroughout =
    (f : PadState) → IsPad f.pad → (events : List Event)
    → let g = events_after f events in
    (g.pad.wells ≡ f.pad.wells) × (length g.pad.decodes ≡ 16) × (length g.memory ≡ length f.memory)
    × (past_parts g.pad.wells g.memory ≡ past_parts f.pad.wells f.memory)
    × ((i : ℕ) → f.pad.wells ≤ i → decode_of g.pad.decodes i ≡ decode_of f.pad.decodes i)

-- the last served stays a well, so that no scan after a set-up is refused with 15; and it stays the same while
-- none is dealt, so that the first scan after a set-up and replacements begins at the first well
abbrev pub LastStays : Type 0
LastStays =
    (f : PadState) → IsPad f.pad → f.pad.last < f.pad.wells → (events : List Event)
    → let g = events_after f events in
    (g.pad.last < f.pad.wells)
    × (((i : ℕ) → i < f.pad.wells → dealt_in f i events ≡ 0) → g.pad.last ≡ f.pad.last)

-- a well that is not replaced is where one grant of all that was dealt to it would have brought it alone,
-- whatever the others hear
abbrev pub OneGrant : Type 0
OneGrant =
    (f : PadState) → IsPad f.pad → (events : List Event) (i : ℕ) → i < f.pad.wells → Stays f i events
    → let own = part_of f.pad.wells i f.memory in
    let d = decode_of f.pad.decodes i in
    let n = dealt_in f i events in
    let g = events_after f events in
    (decode_of g.pad.decodes i ≡ record_after_grant d n own)
    × (part_of g.pad.wells i g.memory ≡ (run_of_grant d n None own).memory)

-- so a freshly started one stands and reads as the unbroken decode of its readings with its choices, limited to
-- what was dealt to it; scans leave its lowest count
abbrev pub FreshWell : Type 0
FreshWell =
    (f : PadState) → IsPad f.pad → (i : ℕ) → i < f.pad.wells
    → (c : Code) (ch : Choices) (rx : List Float) (slice : Option (List ℕ)) (d : Decode)
    → let own = part_of f.pad.wells i f.memory in
    start_outcome c ch rx slice own ≡ Ok d
    → let fresh = event_after f (replace i c ch rx slice) in
    (events : List Event) → Stays fresh i events
    → let p = unbroken ch.schedule (λ j. ch.eighths) c rx own (dealt_in fresh i events) in
    let g = events_after fresh events in
    let e = decode_of g.pad.decodes i in
    let v = part_of g.pad.wells i g.memory in
    (e ≡ record_of c ch.schedule ch.eighths (first_lowest c (start_memory c rx own) slice) p) × (v ≡ p.memory)
    × (read_outcome e v c.n_tx ≡ Ok (result_of c p))
    × ((out : List ℕ) → length out ≡ c.n_tx → word_after_read e v out ≡ word_of c p.memory)
