-- `choose_shifts` meets its contract. The invariant: the shifts before place p are chosen. Assumes nothing.
use Rattle.std.proofs.Common.{refl}
use Rattle.shifts.proofs.Placing.{placing_first, placing_next, placing_partly, placing_all}
use Rattle.shifts.proofs.place.choose_shifts.Goals as goal

pub loop-p-init : goal.loop-p-init
loop-p-init c = placing_first c.requires.2

pub invariant_of-placed : goal.invariant_of-placed
invariant_of-placed c = record { partly = placing_partly c.loop-p.invariant c.loop-p-test.true c.requires.0 refl c.requires.1 }

pub loop-p-preserved : goal.loop-p-preserved
loop-p-preserved c = placing_next _ _ c.loop-p.invariant c.loop-p-test.true c.next_shift-shift.ensures

pub returns : goal.returns
returns c = placing_all c.loop-p.invariant c.loop-p-test.false
