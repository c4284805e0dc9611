use Rattle.std.proofs.Common.{◌≡◌, drop}
use Rattle.facts.specs.Rules.{join_from}
use Rattle.facts.proofs.rules.window_label.Given as goal

-- what is left of the labels gives the join of them all
abbrev pub invariant-loop-i : goal.invariant-loop-i
invariant-loop-i g l =
    join_from g.L.Label.kind l.window.words l.window.base l.window.width l.i (drop l.i l.labels) l.joined
    ≡ join_from g.L.Label.kind l.window.words l.window.base l.window.width 0 l.labels l.initial.joined
