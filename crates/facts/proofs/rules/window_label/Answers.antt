use Rattle.std.proofs.Common.{◌≡◌, ℕ, ◌+◌, ◌<◌, cond, List, length, get_or, drop, sym, ap, ◌∙◌}
use Rattle.std.proofs.lemmas.List.{at_drop_more, get_or_read}
use Rattle.std.proofs.lemmas.Bool.{cond-true, cond-false}
use Rattle.labels.specs.Kind.{Kind}
use Rattle.routine.specs.Address.{in_window}
use Rattle.facts.specs.Rules.{join_from}
use Rattle.facts.proofs.rules.window_label.Goals as goal
use Rattle.facts.proofs.rules.window_label.Goals.{then-reaches, else-reaches}

-- one label more
step : {L : Type 0} (K : Kind L) (n base width i : ℕ) (labels : List L) (old new : L) → i < length labels
    → new ≡ cond (in_window n base width i) (K.join old (get_or labels i old)) old
    → join_from K n base width (i + 1) (drop (i + 1) labels) new ≡ join_from K n base width i (drop i labels) old
step K n base width i labels old new within is =
    ap (join_from K n base width (i + 1) (drop (i + 1) labels)) is
    ∙ sym (at_drop_more (λ xs. join_from K n base width i xs old) labels i old within)

pub loop-i-preserved : goal.loop-i-preserved
loop-i-preserved g c =
    let K = g.L.Label.kind in
    let labels = c.args.labels.now in
    let i = c.loop-i.i in
    let x = get_or labels i c.loop-i.joined in
    let reached = in_window c.args.window.words c.args.window.base c.args.window.width i in
    let joined : c.if-reaches.joined ≡ cond reached (K.join c.loop-i.joined x) c.loop-i.joined =
    elim c.if-reaches.branch [
      | then-reaches w ↦ w.joined-is ∙ w.join-joined.ensures.value
          ∙ ap (K.join c.loop-i.joined) (get_or_read labels i _ c.loop-i-test.true c.index-labels-i.is c.loop-i.joined)
          ∙ sym (cond-true reached _ _ (sym c.reaches.ensures ∙ w.if-reaches.true))
      | else-reaches w ↦ w.joined-is ∙ sym (cond-false reached _ _ (sym c.reaches.ensures ∙ w.if-reaches.false))
    ] in
    step K c.args.window.words c.args.window.base c.args.window.width i labels _ _ c.loop-i-test.true joined ∙ c.loop-i.invariant
