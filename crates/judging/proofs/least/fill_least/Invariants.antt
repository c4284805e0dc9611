use Rattle.std.proofs.Common.{◌≡◌}
use Rattle.routine.specs.Parts.{rows_of, labels_of}
use Rattle.judging.specs.Steps.{Running, weight}
use Rattle.judging.proofs.least.fill_least.Given as goal

abbrev pub invariant-loop-next : goal.invariant-loop-next
invariant-loop-next g l =
    (l.work.table.ghost_name ≡ l.initial.work.table.ghost_name)
    × Running g.L.Label.kind (labels_of l.routine) (rows_of l.routine) l.work.table.now l.work.stale

abbrev pub decreases-loop-next : goal.decreases-loop-next
decreases-loop-next g l = weight g.L.Label.kind l.work.table.now l.work.stale
