-- Records of the code (5,10), for values by computing. Assumes nothing.
use mathlib.Core.Bool.{Bool}
use Prim.Native.Nat.{ℕ}
use Rattle.ldpc.specs.declared.choice.Code.{Code}
use Rattle.ahead.specs.Schedules.{Schedule}
use Rattle.ahead.specs.Decoder.{Decode}

-- a record that Choice gives at rate 5, and at no rate above
unfoldable pub five_ten : ℕ → Code
five_ten r = record { rate = r; n_tx = 10; family = 2; z = 1; k = 3; shortened = 0 }

-- of a decode whose lowest count is that of no word
unfoldable pub record_at : Schedule → ℕ → ℕ → ℕ → Bool → Decode
record_at schedule r e n b =
    record {
      code = five_ten r;
      iterations = n;
      converged = b;
      eighths = e;
      schedule = schedule;
      lowest = 65535;
      lowest_at = 0;
    }
