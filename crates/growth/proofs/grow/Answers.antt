-- `grow` meets its contract. The invariant: the rows before place p are grown, and the links are kept up. Assumes nothing.
use Rattle.std.proofs.Common.{◌∙◌, refl, sym, arith}
use Rattle.growth.proofs.Begun.{good_low}
use Rattle.growth.proofs.Parity.{edges_first, shares_first}
use Rattle.growth.proofs.Grown.{growing_first, growing_good, growing_low, growing_some, growing_next_row, growing_few, growing_next, growing_end}
use Rattle.growth.proofs.grow.Goals as goal

pub loop-p-init : goal.loop-p-init
loop-p-init c =
    let m = c.args.m_b in
    let k = c.args.k_b in
    let links = c.new-links.ensures in (
      growing_first c.requires.2 c.new-links.result.shared.wide c.new-links.result.deep
          (λ q r h l. links.shared q r h (omega (arith, c.requires)) ∙ sym (shares_first m k c.requires.0 q r h l))
          (λ r h. links.edges r h ∙ sym (edges_first m k c.requires.0 r h)),
      links.rows,
    )

pub next_row-requires : goal.next_row-requires
next_row-requires c = let G = c.loop-p.invariant.0 in rw c.loop-p.invariant.1 (omega (arith, G.long), growing_good c.requires.0 G)

pub unwrap-r-requires : goal.unwrap-r-requires
unwrap-r-requires c =
    let some = growing_some c.requires.0 c.loop-p.invariant.0 refl in
    rw (rw c.loop-p.invariant.1 at c.next_row.ensures, some) refl

pub join-requires-clause-before : goal.join-requires-clause-before
join-requires-clause-before c =
    let G = c.loop-p.invariant.0 in
    (omega (arith, G.long), λ j h. omega (arith, good_low _ _ _ (growing_good c.requires.0 G) j h, c.requires.1))

pub join-requires-clause-row : goal.join-requires-clause-row
join-requires-clause-row c =
    let G = c.loop-p.invariant.0 in
    let next = growing_next_row c.requires.0 G c.unwrap-r.ensures (rw c.loop-p.invariant.1 at c.next_row.ensures) in
    (omega (arith, growing_low c.requires.0 G next, c.requires.1), omega (arith, growing_few c.requires.0 G next, c.requires.1))

pub loop-p-preserved : goal.loop-p-preserved
loop-p-preserved c =
    let G = c.loop-p.invariant.0 in
    let next = growing_next_row c.requires.0 G c.unwrap-r.ensures (rw c.loop-p.invariant.1 at c.next_row.ensures) in (
      rw c.join.ensures.edges
          (growing_next c.requires.0 G next c.loop-p-test.true (omega (arith, c.requires.1)) c.join.new.self.shared.wide c.join.ensures.shared),
      c.join.ensures.rows ∙ c.loop-p.invariant.1,
    )

pub returns : goal.returns
returns c = growing_end c.requires.0 c.loop-p.invariant.0 c.loop-p-test.false
