use Rattle.std.proofs.Common.{◌≡◌, true, false, rules}
use Rattle.std.proofs.lemmas.Iterator.{YieldsList-from_slice, IsFirst-from_position}
use borrow.Author.Tests.{tests}
use Rattle.routine.specs.Limits.{fields_fit}
use Rattle.routine.proofs.Limits.{searched}
use Rattle.routine.proofs.taking.first_misfit.Goals as goal

pub returns : goal.returns
returns c =
    let test = fields_fit c.args.words in
    searched test c.args.rows.now c.position.result
    (IsFirst-from_position _ _ _ (λ row. test row ≡ false) (λ row. test row ≡ true) c.position.ensures.ran (YieldsList-from_slice c.args.rows.now cc)
    (λ x q k. search (rules, tests)) (λ x q k. search (rules, tests)))
