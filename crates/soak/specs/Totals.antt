-- How the totals are added up. Assumes nothing.
use Rattle.std.specs.Prelude.{Bool, cond, ℕ, ◌+◌, min}
use Rattle.soak.specs.declared.tally.Totals.{Totals}

-- a sum that stays at a million million
abbrev pub joined : ℕ → ℕ → ℕ
joined a b = min (a + b) 1000000000000

abbrev pub none : Totals
none =
    record {
      lists = 0;
      iterations = 0;
      grants = 0;
      refusals = 0;
      reads = 0;
      converged = 0;
      clean = 0;
      differences = 0;
    }

-- a read more, which tells whether the decode has converged and whether the word is clean
abbrev pub counted_read : Bool → Bool → Totals → Totals
counted_read converged clean t =
    record t {
      reads = joined t.reads 1;
      converged = joined t.converged (cond converged 1 0);
      clean = joined t.clean (cond clean 1 0);
    }
