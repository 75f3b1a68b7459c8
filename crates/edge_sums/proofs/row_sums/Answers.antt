-- `row_sums` meets its contract: zeros are the sums over no edge. Assumes nothing.
use Rattle.std.proofs.Common.{rules, ◌≡◌, ℕ, ap, ◌∙◌, length, replicate}
use Rattle.edge_sums.proofs.Summed.{no_sums, zeros}
use Rattle.edge_sums.proofs.row_sums.Goals as goal

pub add_columns-requires : goal.add_columns-requires
add_columns-requires c =
    let cleared : c.fill.new.self ≡ replicate {A = ℕ} (length c.args.sums.now) 0 = search rules in
    cleared ∙ ap (λ n. replicate {A = ℕ} n 0) c.requires.2 ∙ zeros _ ∙ no_sums c.args.g.now.code.code c.args.word.bytes.now
