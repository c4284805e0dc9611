use Rattle.std.proofs.Common.{not, ◌&&◌, ◌∙◌, rules}
use Rattle.std.proofs.lemmas.Iterator.{YieldsList-from_slice}
use Rattle.std.proofs.lemmas.Iterator.Consumers.{YieldsList-from_enumerate}
use Rattle.std.proofs.lemmas.Iterator.Search.{any_from_yields_List}
use borrow.Author.Tests.{tests}
use Rattle.routine.specs.Address.{in_window}
use Rattle.facts.proofs.Windows.{spilt_words}
use Rattle.facts.proofs.leaks.does_spill.Goals as goal

pub returns : goal.returns
returns g c =
    let K = g.L.Label.kind in
    let labels = c.args.labels.now in
    any_from_yields_List (λ p. in_window c.args.window.words c.args.window.base c.args.window.width p.0 && not (K.below c.args.label p.1)) _ _ c.any.result c.any.ensures.ran
    (YieldsList-from_enumerate (YieldsList-from_slice labels (cc)) cc)
    (λ x b q k. search (rules, tests))
    ∙ spilt_words K c.args.window.words c.args.window.base c.args.window.width 0 labels c.args.label
