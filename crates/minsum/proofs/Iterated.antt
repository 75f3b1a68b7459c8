-- An iteration over a work memory in its regions. Assumes nothing.
use mathlib.Core.Path.{◌≡◌, sym}
use mathlib.Core.List.{List}
use Prim.Native.Nat.{◌≤◌}
use lib.ListN.{length}
use lib.Ieee.{Float}
use Rattle.messages.specs.Iteration.{iteration}
use Rattle.messages.specs.Regions.{memory_of, numbers_of, iterated_regions}
use Rattle.messages.proofs.Regions.{iteration_by_regions}
use Rattle.ldpc.specs.Code.{code_graph, work_of}
use Rattle.ldpc.proofs.CodeEdges.{code_simple}
use Rattle.sizes.specs.declared.lifted.Lifted.{Lifted}
use Rattle.sizes.proofs.Lent.{known}

-- of a code, cut by its sizes
pub by_regions : (l : Lifted) (factor : Float) (w : List Float) → work_of l.code.code ≤ length w
    → numbers_of (iterated_regions factor (code_graph l.code.code) l.code.code.z (memory_of l.sizes.bits l.sizes.slots w))
    ≡ iteration factor (code_graph l.code.code) l.code.code.z w
by_regions l factor w room =
    let K = known l (length w) room in
    rw (K.bits_is, K.slots_is) (sym (iteration_by_regions (code_graph l.code.code) (code_simple l.code.code) l.code.code.z K.lift factor w K.all))
