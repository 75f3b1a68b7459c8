-- `add_bits` meets its contract. Assumes nothing.
use Rattle.std.proofs.Common.{ℕ, ap, ◌∙◌, ◌*◌, ◌≤◌, arith}
use Rattle.edge_sums.proofs.Single.{past_bits}
use Rattle.edge_sums.proofs.add_bits.Goals as goal

pub returns : goal.returns
returns c =
    let g = c.args.g.now in
    let n = c.loop-column.column in
    let fits : g.code.code.k ≤ g.graph.shape.k_b = omega (arith, g.info, ap (λ (x : ℕ). g.graph.shape.k_b * x) c.requires.0) in
    c.loop-column.invariant
    ∙ past_bits g.code.code c.args.word.bytes.now n c.requires.0 (omega (arith, c.min-column-end.ensures, c.loop-column-test.false, c.loop-column.auto.column-end))
    g.graph.shape.k_b (ap (λ x. x.shape.k_b) g.of_code) fits
