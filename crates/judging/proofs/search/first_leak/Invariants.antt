use Rattle.std.proofs.Common.{◌≡◌, ◌-◌, length}
use Rattle.judging.specs.Steps.{first_from}
use Rattle.judging.proofs.search.first_leak.Given as goal

-- what the slots that are left give is what all of them give
abbrev pub invariant-loop-place : goal.invariant-loop-place
invariant-loop-place g l =
    first_from g.L.Label.kind l.labels l.reader l.rows l.table l.sought l.place (length l.table - l.place)
    ≡ first_from g.L.Label.kind l.labels l.reader l.rows l.table l.sought 0 (length l.table)
