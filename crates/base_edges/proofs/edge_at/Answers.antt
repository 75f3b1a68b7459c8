-- `edge_at` meets its contract: a parity edge is known by its place. Assumes nothing.
use mathlib.Core.Path.{refl}
use Prim.Native.Nat.{◌*◌, ◌%◌, ◌-◌}
use native.Mathlib.Omega.{arith}
use borrow.Author.Tests.{ne_eqb}
use Rattle.laws.specs.Columns.{parity_row}
use Rattle.base_edges.proofs.Edges.{parity_is}
use Rattle.base_edges.proofs.edge_at.Goals as goal

pub returns-in-0 : goal.returns-in-0
unfolding parity_row
returns-in-0 c = parity_is c.args.g.now c.args.b _ _ _ c.if-b-info.false (rw c.in-0.is) (omega (arith, c.in-0.is)) (rw c.in-0.is)

pub returns-in-1 : goal.returns-in-1
unfolding parity_row
returns-in-1 c = parity_is c.args.g.now c.args.b _ _ _ c.if-b-info.false (rw c.in-1.is) (omega (arith, c.in-1.is)) (rw c.in-1.is)

pub returns-in-2 : goal.returns-in-2
unfolding parity_row
returns-in-2 c = parity_is c.args.g.now c.args.b _ _ _ c.if-b-info.false (rw c.in-2.is) (omega (arith, c.in-2.is)) (rw c.in-2.is)

pub returns-in_default : goal.returns-in_default
unfolding parity_row
returns-in_default c =
    let p = c.args.b - 3 * c.args.g.now.shape.k_b in
    let not = c.in_default in
    parity_is c.args.g.now c.args.b _ _ _ c.if-b-info.false (rw (ne_eqb p 0 (omega (arith, not)), ne_eqb p 1 (omega (arith, not)), ne_eqb p 2 (omega (arith, not)), c.if-p-eq1.true)) refl (rw (ne_eqb p 2 (omega (arith, not))))

pub returns-in_default-2 : goal.returns-in_default-2
unfolding parity_row
returns-in_default-2 c =
    let p = c.args.b - 3 * c.args.g.now.shape.k_b in
    let not = c.in_default in
    parity_is c.args.g.now c.args.b _ _ _ c.if-b-info.false (rw (ne_eqb p 0 (omega (arith, not)), ne_eqb p 1 (omega (arith, not)), ne_eqb p 2 (omega (arith, not)), ne_eqb (p % 2) 1 c.if-p-eq1.false)) refl (rw (ne_eqb p 2 (omega (arith, not))))
