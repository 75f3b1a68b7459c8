-- `first_fault` meets its contract. Assumes nothing.
use Rattle.std.proofs.Common.{rules, ◌≡◌, true, false}
use Rattle.std.proofs.lemmas.Iterator.{first_from_Range}
use borrow.Author.Tests.{tests}
use Rattle.laws.specs.Columns.{faulty, first_fault}
use Rattle.columns.proofs.Found.{first_found}
use Rattle.columns.proofs.first_fault.Goals as goal

pub returns : goal.returns
unfolding first_fault
returns c =
    let p = faulty c.args.m_b c.args.rows.now in
    first_found p _ _
    (first_from_Range _ _ _ _ (λ x. p x ≡ true) (λ x. p x ≡ false) c.find.ensures.ran
    (λ x q k. search (rules, tests)) (λ x q k. search (rules, tests)))
