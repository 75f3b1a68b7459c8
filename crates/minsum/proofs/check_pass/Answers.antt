-- `check_pass` meets its contract. Assumes nothing.
use mathlib.Core.Path.{refl}
use native.Mathlib.Omega.{arith}
use Rattle.laws.proofs.Written.{upto_run}
use Rattle.ldpc.specs.Code.{work_of}
use Rattle.ldpc.proofs.CodeEdges.{code_simple}
use Rattle.sizes.proofs.Lent.{known}
use Rattle.minsum.proofs.Rows.{check_done}
use Rattle.minsum.proofs.check_pass.Goals as goal

pub loop-r-preserved : goal.loop-r-preserved
loop-r-preserved c = upto_run c.loop-r.invariant c.row_pass.ensures (λ s p. refl)

pub returns : goal.returns
returns c =
    let l = c.args.l.now in
    let K = known l (work_of l.code.code) (omega arith) in
    check_done _ _ K.lift (code_simple l.code.code) c.args.factor c.args.to_checks.now c.loop-r.r _ _ (omega (arith, K.rows_is, c.loop-r-test.false)) (omega (arith, c.requires.1, K.slots_is))
    c.loop-r.invariant
