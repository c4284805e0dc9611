use Rattle.std.proofs.Common.{◌≡◌, true, [], ◌∷◌, get_or, set, sym, ap, ◌∙◌, subst, Some, None}
use Rattle.facts.specs.Order.{below_fact}
use Rattle.facts.specs.Raising.{RisenTo}
use Rattle.facts.specs.Rules.{hand}
use Rattle.judging.specs.Steps.{Received}
use Rattle.judging.proofs.Receiving.{received_kept, received_raised}
use Rattle.judging.proofs.least.Work.receive.Goals as goal

pub returns-in-Some-clause-received : goal.returns-in-Some-clause-received
returns-in-Some-clause-received g c =
    let K = g.L.Label.kind in
    let table = c.args.self.now.table.now in
    let stale = c.args.self.now.stale in
    let h = hand c.args.row c.args.mode c.args.handed.now in
    let read = c.fact.ensures ∙ ap (λ n. get_or table n None) c.slot_of-at.ensures in
    subst (λ n. Received K (h ∷ []) table (set table n (Some c.in-Some.risen)) stale (set stale n true)) (sym c.slot_of-at.ensures)
    (received_raised K g.L.Label.lawful h table stale c.in-Some.risen c.requires c.args.self.now.flagged
    (subst (λ f. RisenTo K f h.known c.in-Some.risen) read c.in-Some.ensures))

pub returns-in_default-clause-received : goal.returns-in_default-clause-received
returns-in_default-clause-received g c =
    let K = g.L.Label.kind in
    let table = c.args.self.now.table.now in
    let h = hand c.args.row c.args.mode c.args.handed.now in
    let read = c.fact.ensures ∙ ap (λ n. get_or table n None) c.slot_of-at.ensures in
    received_kept K g.L.Label.lawful h table c.args.self.now.stale
    (subst (λ f. below_fact K (Some h.known) f ≡ true) read c.in_default.ensures)
