use Rattle.std.proofs.Common.{length, sym, ap, ◌∙◌, arith}
use Rattle.facts.proofs.Rooms.{reached_first, reached_higher}
use Rattle.facts.proofs.order.raised.Goals as goal

pub returns-in-None : goal.returns-in-None
returns-in-None g c =
    reached_first g.L.Label.kind g.L.Label.lawful c.args.fact.now c.args.handed.now c.copied.result c.in-None.is
    c.copied.ensures.value (sym (ap length c.copied.ensures.value) ∙ c.copied.ensures.long)

pub returns-else-all_below : goal.returns-else-all_below
returns-else-all_below g c =
    reached_higher g.L.Label.kind g.L.Label.lawful c.args.fact.now c.in-Some.old c.args.handed.now c.all_joined.result c.in-Some.is
    c.all_joined.ensures.value (sym c.all_below.ensures ∙ c.if-all_below.false) c.all_joined.ensures.bounded
    (omega (arith, c.all_joined.ensures.long.0, c.all_joined.ensures.long.1))
