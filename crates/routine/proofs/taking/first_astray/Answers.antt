use Rattle.std.proofs.Common.{◌≡◌, true, false, length, rules}
use Rattle.std.proofs.lemmas.Iterator.{YieldsList-from_slice, IsFirst-from_position}
use Rattle.std.proofs.lemmas.Iterator.Consumers.{YieldsList-from_enumerate}
use borrow.Author.Tests.{tests}
use Rattle.routine.specs.Limits.{target_fits}
use Rattle.routine.proofs.Limits.{searched_numbered}
use Rattle.routine.proofs.taking.first_astray.Goals as goal

pub returns : goal.returns
returns c =
    let test = target_fits (length c.args.rows.now) in
    searched_numbered test c.args.rows.now c.position.result
    (IsFirst-from_position _ _ _ (λ p. test p.0 p.1 ≡ false) (λ p. test p.0 p.1 ≡ true) c.position.ensures.ran
    (YieldsList-from_enumerate (YieldsList-from_slice c.args.rows.now (cc)) cc)
    (λ x q k. search (rules, tests)) (λ x q k. search (rules, tests)))
