use Rattle.std.proofs.Common.{◌+◌, [], ◌∷◌, sym, subst, ap, ap₂}
use Rattle.facts.specs.declared.types.Mode.TheVariants.{Settled, Guessed}
use Rattle.facts.specs.Rules.{hand, hands, at_target, at_next}
use Rattle.judging.specs.Steps.{Received}
use Rattle.judging.proofs.Receiving.{received_nothing, received_both}
use Rattle.judging.proofs.least.Work.hand_on.Goals as goal

pub returns-in-Settled-clause-received : goal.returns-in-Settled-clause-received
returns-in-Settled-clause-received g c =
    let K = g.L.Label.kind in
    let laws = g.L.Label.lawful in
    let labels = c.args.labels.now in
    let known = c.args.known.now in
    let next = c.args.here + 1 in
    let b = c.in-Branch in
    let t₁ = c.args.self.now.table.now in
    let t₂ = c.hand_guessed.new.self.table.now in
    let t₃ = c.receive.new.self.table.now in
    let t₄ = c.receive-in-Settled.new.self.table.now in
    let s₁ = c.args.self.now.stale in
    let s₂ = c.hand_guessed.new.self.stale in
    let s₃ = c.receive.new.self.stale in
    let s₄ = c.receive-in-Settled.new.self.stale in
    let target = subst (λ ks. Received K (hand b.target Settled ks ∷ []) t₂ t₃ s₂ s₃) c.known_at_target-told.ensures c.receive.ensures.received in
    let after = subst (λ ks. Received K (hand next Settled ks ∷ []) t₃ t₄ s₃ s₄) c.known_at_next-denied.ensures c.receive-in-Settled.ensures.received in
    let all = received_both K laws (hand b.target Guessed known ∷ hand next Guessed known ∷ [])
    (hand b.target Settled (at_target K b.test b.left b.right known) ∷ hand next Settled (at_next K b.test b.left b.right known) ∷ [])
    t₁ t₂ t₄ s₁ s₂ s₄ c.hand_guessed.ensures.received
    (received_both K laws (hand b.target Settled (at_target K b.test b.left b.right known) ∷ []) (hand next Settled (at_next K b.test b.left b.right known) ∷ [])
    t₂ t₃ t₄ s₂ s₃ s₄ target after) in
    subst (λ hs. Received K hs t₁ t₄ s₁ s₄) (ap₂ (λ x m. hands K labels x c.args.here m known) (sym b.is) (sym c.in-Settled.is)) all

pub returns-in-Guessed-clause-received : goal.returns-in-Guessed-clause-received
returns-in-Guessed-clause-received g c =
    let none = ap₂ (λ x m. hands g.L.Label.kind c.args.labels.now x c.args.here m c.args.known.now) c.in-Fence.is c.in-Guessed.is in
    received_nothing g.L.Label.kind g.L.Label.lawful _ c.args.self.now.table.now c.args.self.now.stale none

pub returns-in-Halt-clause-received : goal.returns-in-Halt-clause-received
returns-in-Halt-clause-received g c =
    let none = ap (λ x. hands g.L.Label.kind c.args.labels.now x c.args.here c.args.mode c.args.known.now) c.in-Halt.is in
    received_nothing g.L.Label.kind g.L.Label.lawful _ c.args.self.now.table.now c.args.self.now.stale none
