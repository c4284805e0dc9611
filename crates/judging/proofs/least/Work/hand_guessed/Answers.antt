use Rattle.std.proofs.Common.{[], ◌∷◌}
use Rattle.facts.specs.declared.types.Mode.TheVariants.{Guessed}
use Rattle.facts.specs.Rules.{hand}
use Rattle.judging.proofs.Receiving.{received_both}
use Rattle.judging.proofs.least.Work.hand_guessed.Goals as goal

pub returns-clause-received : goal.returns-clause-received
returns-clause-received g c =
    let known = c.args.handed.now in
    received_both g.L.Label.kind g.L.Label.lawful (hand c.args.target Guessed known ∷ []) (hand c.args.next Guessed known ∷ [])
    c.args.self.now.table.now c.receive.new.self.table.now c.receive-2.new.self.table.now
    c.args.self.now.stale c.receive.new.self.stale c.receive-2.new.self.stale c.receive.ensures.received c.receive-2.ensures.received
