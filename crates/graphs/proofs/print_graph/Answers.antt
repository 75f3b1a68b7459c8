-- `graphs::print_graph` meets its contract: a graph has at most 51 information columns. Assumes nothing.
use mathlib.Core.Path.{ap}
use native.Mathlib.Omega.{arith}
use Rattle.tables.specs.Graph.{graph_number, shape_of, graph_of}
use Rattle.tables.proofs.Sizes.{number_lt, sizes}
use Rattle.graphs.proofs.print_graph.Goals as goal

pub print_columns-requires : goal.print_columns-requires
unfolding graph_of shape_of
print_columns-requires g c =
    let g = graph_number c.args.rate c.args.family in
    omega (arith, ap (λ r. r.shape.k_b) c.graph_of-g.ensures, (sizes g (number_lt c.args.rate c.args.family)).info_most)
