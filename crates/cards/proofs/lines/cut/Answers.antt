use Rattle.std.proofs.Common.{◌≡◌, ℕ, ◌<◌, List, length, take, ◌≢◌, sym, subst, arith, rules, tests}
use Rattle.std.specs.List.{AllWithin}
use Rattle.std.proofs.ByRecursion.{All-from_get_or}
use Rattle.std.proofs.lemmas.Iterator.{YieldsList-from_slice, IsFirst-from_position}
use Rattle.std.proofs.lemmas.List.{get_or-take, length-take-le}
use Rattle.std.proofs.lemmas.Option.{MatchOption-at_some}
use Rattle.cards.specs.Text.{Lacks}
use Rattle.cards.proofs.Splits.{around}
use Rattle.cards.proofs.lines.cut.Goals as goal

lacks_before : (text : List ℕ) (i byte : ℕ) → i < length text → AllWithin (λ x. x ≢ byte) text 0 i → Lacks byte (take i text)
lacks_before text i byte inside before =
    All-from_get_or (λ x. x ≢ byte) (take i text) 0 (λ k less.
    let less : k < i = omega (arith, length-take-le i text) in
    subst (λ x. x ≢ byte) (sym (get_or-take i text k 0 less)) (before k 0 (omega arith) less))

pub returns : goal.returns
returns c =
    let text = c.args.text.now in
    let byte = c.args.byte in
    let at = c.in_ok-at.at in
    let (inside, here, before) =
    MatchOption-at_some _ _ at c.in_ok-at.was
    (IsFirst-from_position _ _ c.position.result (λ x. x ≡ byte) (λ x. x ≢ byte) c.position.ensures.ran (YieldsList-from_slice text cc)
    (λ x q k. search (rules, tests)) (λ x q k. search (rules, tests))) in
    (around text at byte inside (here 0), lacks_before text at byte inside before)
