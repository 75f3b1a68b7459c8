-- The work memory cut in its regions, and an iteration region by region. Assumes nothing.
use Rattle.std.specs.Prelude.{List, ℕ, ◌/◌, ◌%◌, ◌++◌, take, drop, Float}
use Rattle.std.specs.Float.{binary32}
use Rattle.std.specs.Float.Ieee.{sub}
use Rattle.laws.specs.Range.{folded}
use Rattle.laws.specs.Written.{tabulate}
use Rattle.tables.specs.declared.BaseGraph.{BaseGraph}
use Rattle.matrix.specs.Edges.{bit_at, edges_by_row}
use Rattle.messages.specs.Memory.{bits_of, slots_of, number}
use Rattle.messages.specs.Iteration.{to_bit, added}

-- N numbers of the channel, N totals, E messages to checks, E messages to bits, and what lies beyond
pub record Memory : Type 0 where
  pub channel : List Float
  pub totals : List Float
  pub to_checks : List Float
  pub to_bits : List Float
  pub beyond : List Float

-- a memory cut into regions of n, n, e and e numbers
unfoldable pub memory_of : ℕ → ℕ → List Float → Memory
memory_of n e w =
    record {
      channel = take n w;
      totals = take n (drop n w);
      to_checks = take e (drop n (drop n w));
      to_bits = take e (drop e (drop n (drop n w)));
      beyond = drop e (drop e (drop n (drop n w)));
    }

-- and put together
unfoldable pub numbers_of : Memory → List Float
numbers_of m = m.channel ++ (m.totals ++ (m.to_checks ++ (m.to_bits ++ m.beyond)))

-- what the checks send, of the messages to them
unfoldable pub to_bits_of : Float → BaseGraph → ℕ → List Float → List Float
to_bits_of factor g z to_checks = tabulate (to_bit factor g z (number to_checks)) (slots_of g z)

-- the total of bit v: its channel value and its incoming messages, added in rising check number
unfoldable pub total_of : BaseGraph → ℕ → List Float → List Float → ℕ → Float
total_of g z channel to_bits v = folded (added g z (number to_bits) v) (number channel v) (edges_by_row g g.shape.m_b)

unfoldable pub totals_of : BaseGraph → ℕ → List Float → List Float → List Float
totals_of g z channel to_bits = tabulate (total_of g z channel to_bits) (bits_of g z)

-- the message to the check of slot s: the total of its bit, minus what came in there
unfoldable pub to_check_of : BaseGraph → ℕ → List Float → List Float → ℕ → Float
to_check_of g z channel to_bits s = sub binary32 (total_of g z channel to_bits (bit_at g z (s / z) (s % z))) (number to_bits s)

unfoldable pub to_checks_of : BaseGraph → ℕ → List Float → List Float → List Float
to_checks_of g z channel to_bits = tabulate (to_check_of g z channel to_bits) (slots_of g z)

-- the bit pass: the totals, and what the bits send
unfoldable pub passed_regions : BaseGraph → ℕ → Memory → Memory
passed_regions g z m =
    record {
      channel = m.channel;
      totals = totals_of g z m.channel m.to_bits;
      to_checks = to_checks_of g z m.channel m.to_bits;
      to_bits = m.to_bits;
      beyond = m.beyond;
    }

-- an iteration
unfoldable pub iterated_regions : Float → BaseGraph → ℕ → Memory → Memory
iterated_regions factor g z m =
    let to_bits = to_bits_of factor g z m.to_checks in
    record {
      channel = m.channel;
      totals = totals_of g z m.channel to_bits;
      to_checks = to_checks_of g z m.channel to_bits;
      to_bits = to_bits;
      beyond = m.beyond;
    }
