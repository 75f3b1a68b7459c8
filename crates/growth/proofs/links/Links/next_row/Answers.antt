-- `next_row` meets its contract: the search finds the farthest rows, and the choice is among them. Assumes nothing.
use Rattle.std.proofs.Common.{◌∙◌, sym, arith}
use Rattle.growth.proofs.Begun.{good_low, begun_low}
use Rattle.growth.proofs.Chosen.{picked_is}
use Rattle.growth.proofs.links.Links.next_row.Goals as goal

pub rows_before-taken-requires : goal.rows_before-taken-requires
rows_before-taken-requires c =
    (c.requires.0, λ j h. omega (arith, good_low _ _ _ c.requires.1 j h, c.args.self.now.base.sizes))

pub farthest-requires : goal.farthest-requires
farthest-requires c r t =
    begun_low c.args.self.now.base.m_b c.args.rows.now c.args.p r c.requires.1 (sym (c.rows_before-taken.ensures r) ∙ t)

pub returns : goal.returns
returns c =
    let of = c.args.self.now in
    c.pick.ensures
    ∙ picked_is of.base.m_b of.base.sizes.1 of.shared.near of.degree c.args.rows.now c.args.p c.rows_before-taken.result c.farthest.result
    c.rows_before-taken.ensures c.farthest.ensures
