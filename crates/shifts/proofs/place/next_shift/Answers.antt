-- `next_shift` meets its contract. Assumes nothing.
use Rattle.shifts.proofs.place.next_shift.Goals as goal

pub returns : goal.returns
returns c = c.search.ensures _ _ c.collect_biases.ensures.costs
