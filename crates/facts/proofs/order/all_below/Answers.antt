use Rattle.std.proofs.Common.{◌≡◌, length, ap, ◌∙◌, arith, rules}
use Rattle.std.specs.Slice.Iter.{iter_rest}
use Rattle.std.proofs.lemmas.Iterator.{YieldsList-from_slice, YieldsList-from_zip}
use Rattle.std.proofs.lemmas.Iterator.Search.{all_from_yields_List}
use borrow.Author.Tests.{tests}
use Rattle.facts.specs.Order.{below_known}
use Rattle.facts.proofs.Lists.{below_zipped}
use Rattle.facts.proofs.order.all_below.Goals as goal

pub returns : goal.returns
returns g c =
    let K = g.L.Label.kind in
    let one = c.args.one.now in
    let other = c.args.other.now in
    let one_long : length one ≡ 16 = search rules in
    let other_long : length other ≡ 16 = search rules in
    all_from_yields_List (λ p. below_known K p.0 p.1) c.all.new.self _ c.all.result c.all.ensures.ran
    (YieldsList-from_zip (YieldsList-from_slice one (ap iter_rest c.zip.ensures.first ∙ c.iter.ensures.rest)) (YieldsList-from_slice other (search rules)))
    (λ x b q k. search (rules, tests))
    ∙ below_zipped K one other (omega (arith, one_long, other_long))
