use Rattle.std.proofs.Common.{sym, refl, ap, ◌∙◌, subst, arith, rules}
use Rattle.routine.specs.Parts.{rows_of, labels_of}
use Rattle.judging.specs.Steps.{Running, beginning}
use Rattle.judging.proofs.Taken.{some, few}
use Rattle.judging.proofs.Turns.{running_begins, running_ends}
use Rattle.judging.proofs.least.fill_least.Goals as goal

pub begin-work-requires : goal.begin-work-requires
begin-work-requires g c =
    let routine = c.args.routine.now in
    let least = some routine in
    (search rules, (omega (arith, c.requires, least), omega (arith, c.requires, few routine)))

pub loop-next-init : goal.loop-next-init
loop-next-init g c =
    let K = g.L.Label.kind in
    let routine = c.args.routine.now in
    let labels = labels_of routine in
    let rows = rows_of routine in
    let stale = c.begin-work.result.stale in (
      refl,
      subst (λ table. Running K labels rows table stale) (sym (c.begin-work.ensures.table ∙ ap (beginning K) c.requires))
          (running_begins K g.L.Label.lawful labels rows stale (some routine) c.begin-work.ensures.first),
    )

pub returns : goal.returns
returns g c =
    let routine = c.args.routine.now in
    let work = c.loop-next.work in
    let least = running_ends g.L.Label.kind g.L.Label.lawful (labels_of routine) (rows_of routine) work.table.now work.stale c.loop-next.invariant.1 c.in_default.ensures in
    search rules
