-- The sizes of a code. Assumes nothing.
use Rattle.matrix.specs.Edges.{edges}
use Rattle.messages.specs.Memory.{bits_of, slots_of}
use Rattle.ldpc.specs.declared.choice.Code.{Code}
use Rattle.ldpc.specs.Code.{code_graph}
use Rattle.sizes.specs.declared.sizes.Sizes.{Sizes}

-- the base rows, the information columns, the base edges, N and E of a code
unfoldable pub sizes_of : Code → Sizes
sizes_of c =
    record {
      rows = (code_graph c).shape.m_b;
      info = (code_graph c).shape.k_b;
      edges = edges (code_graph c);
      bits = bits_of (code_graph c) c.z;
      slots = slots_of (code_graph c) c.z;
    }
