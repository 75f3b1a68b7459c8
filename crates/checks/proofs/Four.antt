-- What four checks gather, with none and with one base edge more. Assumes nothing.
use mathlib.Core.Path.{◌≡◌, sym, ap, ◌∙◌}
use mathlib.Core.List.{List, []}
use Prim.Native.Nat.{ℕ, ◌+◌, ◌*◌, ◌<◌, ◌≤◌}
use native.Mathlib.Omega.{arith}
use lib.ListN.{length, take, get_or}
use lib.Ieee.{Float, nan}
use Rattle.laws.proofs.Written.{length_tabulate, get_d_tabulate}
use Rattle.laws.specs.Written.{tabulate}
use Rattle.laws.specs.Range.{folded}
use Rattle.laws.proofs.Folded.{folded_more}
use Rattle.rule.specs.declared.Least.{Least}
use Rattle.rule.specs.Rule.{started, taken}
use Rattle.messages.specs.Iteration.{gathered}
use Rattle.slots.specs.Row.{past}
use Rattle.checks.specs.declared.vectors.Four.{Four}
use Rattle.checks.specs.Lanes.{Shows, Gathers}

-- the lanes of a vector
pub lanes_are : (f : ℕ → Float) (x : List Float) → x ≡ tabulate f 4 → (j : ℕ) → j < 4 → get_or x j nan ≡ f j
lanes_are f x e j h = ap (λ l. get_or l j nan) e ∙ get_d_tabulate nan f 4 j h

-- checks that have gathered nothing
pub none_gathered : (l : Four) (n : ℕ) (m : ℕ → Float) (z t : ℕ) → n ≤ 4 → Shows l (tabulate (λ j. started) 4) → Gathers l n m z t []
unfolding gathered folded
none_gathered l n m z t most shows =
    record {
      records = tabulate (λ j. started) 4;
      long = length_tabulate (λ j. started) 4;
      shows = shows;
      are = λ j h. get_d_tabulate past (λ j. started) 4 j (omega arith);
    }

-- one base edge more
pub more_gathered : (l l' : Four) (n : ℕ) (m : ℕ → Float) (z t : ℕ) (edges : List ℕ) (i s b : ℕ) (x : List Float) → n ≤ 4 → i < length edges
    → s ≡ get_or edges i 0 * z + t → b ≡ get_or edges i 0 → ((j : ℕ) → j < n → get_or x j nan ≡ m (s + j))
    → Gathers l n m z t (take i edges)
    → ((rs : List Least) → length rs ≡ 4 → Shows l rs → Shows l' (tabulate (λ j. taken (get_or rs j past) (get_or x j nan) b) 4))
    → Gathers l' n m z t (take (i + 1) edges)
unfolding gathered
more_gathered l l' n m z t edges i s b x most h at place read G step =
    record {
      records = tabulate (λ j. taken (get_or G.records j past) (get_or x j nan) b) 4;
      long = length_tabulate _ 4;
      shows = step G.records G.long G.shows;
      are = λ j k. get_d_tabulate past (λ j. taken (get_or G.records j past) (get_or x j nan) b) 4 j (omega arith) ∙ more j k;
    }
  where
    lane : (j : ℕ) → j < n → get_or x j nan ≡ m (get_or edges i 0 * z + (t + j))
    lane j k = read j k ∙ ap (λ (y : ℕ). m y) (omega (arith, at))

    more : (j : ℕ) → j < n → taken (get_or G.records j past) (get_or x j nan) b ≡ gathered m z (t + j) (take (i + 1) edges)
    more j k =
        rw (G.are j k, lane j k, place)
        (sym (folded_more (λ y b. taken y (m (b * z + (t + j))) b) started edges i h))
