use Rattle.std.proofs.Common.{◌≡◌, ◌+◌, ◌-◌, ◌<◌, true, false, length, get_or, sym, refl, ap, ◌∙◌, subst, zero-le, drop, arith, rules}
use Rattle.std.specs.List.{AllWithin, HoldsAt}
use Rattle.std.specs.Option.{MatchOption}
use Rattle.std.proofs.lemmas.List.{get_or-drop, get_or-take}
use Rattle.std.proofs.lemmas.Iterator.{YieldsList-from_slice, IsFirst-from_position}
use borrow.Author.Tests.{tests}
use Rattle.judging.proofs.least.Work.stale_between.Goals as goal

pub returns-in-None : goal.returns-in-None
returns-in-None g c =
    let stale = c.args.self.now.stale in
    let from = c.args.from in
    let part = c.iter.result.rest.now in
    let long : length part ≡ c.args.to - from = search rules in
    let found = IsFirst-from_position c.position.new.self _ c.position.result (λ b. b ≡ true) (λ b. b ≡ false) c.position.ensures.ran (YieldsList-from_slice part refl)
    (λ x q k. search (rules, tests)) (λ x q k. search (rules, tests)) in
    let calm = subst (λ r. MatchOption r (AllWithin (λ b. b ≡ false) part 0 (length part)) (λ i. (i < length part) × HoldsAt (λ b. b ≡ true) part i × AllWithin (λ b. b ≡ false) part 0 i)) c.in-None.is found in
    λ k low high.
    let at : k ≡ from + (k - from) = omega arith in
    ap (λ n. get_or stale n false) at ∙ sym (get_or-drop from stale (k - from) false)
    ∙ sym (get_or-take (c.args.to - from) (drop from stale) (k - from) false (omega arith))
    ∙ ap (λ xs. get_or xs (k - from) false) (sym c.iter.ensures.rest) ∙ calm (k - from) false zero-le (omega (arith, long))
