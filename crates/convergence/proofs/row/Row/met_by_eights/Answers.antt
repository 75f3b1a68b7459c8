-- `met_by_eights` meets its contract. Assumes nothing.
use Rattle.std.proofs.Common.{rules, arith, ◌+◌, ◌-◌, ◌*◌, ℕ, Bool, not, min, ◌∙◌, refl}
use Rattle.laws.specs.Range.{every}
use Rattle.convergence.specs.Rows.{odd_at}
use Rattle.convergence.proofs.Rows.{every_from_all, every_block}
use Rattle.convergence.proofs.row.Row.met_by_eights.Goals as goal

pub returns : goal.returns
returns c =
    let z = c.args.self.now.z in
    let n = c.div_ceil.result in
    let p : ℕ → Bool = λ t. not (odd_at c.args.self.now t) in
    every_from_all (λ i. every (λ j. p (min (8 * i) (z - 8) + j)) 8) n c.all.ensures.ran refl (λ x b q k. search rules)
    ∙ every_block p z n c.requires (omega (arith, c.div_ceil.ensures)) (omega (arith, c.div_ceil.ensures))
