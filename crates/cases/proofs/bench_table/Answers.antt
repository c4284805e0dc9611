use Rattle.std.proofs.Common.{◌≡◌, ◌<◌, true, length, refl, arith}
use lib.Count.{count_leading_zeros}
use Rattle.labels.specs.Makers.{sets, of_members}
use Rattle.labels.specs.MakersLawful.{sets_lawful}
use Rattle.routine.specs.Address.{address, in_window}
use Rattle.judging.specs.Verdicts.{Gives}
use Rattle.judging.proofs.Computing.{computed, is_closed, verdict_after, gives}
use Rattle.cases.specs.Bench.{rows_in, verdict_in, bench_labels}
use Rattle.cases.specs.declared.Case.{Case}
use Rattle.cases.specs.declared.Case.TheVariants.{OpenCard, Fenced, Masked, MaskedWide, FencedPast, StoredInside, StoredOutside}
use Rattle.cases.proofs.bench_table.Goals as goal

-- two passes close the table of each case
closing : (case : Case) → 0 < length (rows_in case) → is_closed sets bench_labels (rows_in case) (computed sets bench_labels (rows_in case) 2) ≡ true
    → verdict_after sets bench_labels (rows_in case) (of_members 0) 2 ≡ verdict_in case → Gives sets bench_labels (rows_in case) (of_members 0) (verdict_in case)
closing case = gives sets sets_lawful bench_labels (rows_in case) (of_members 0) 2 (verdict_in case)

verdicts : (case : Case) → Gives sets bench_labels (rows_in case) (of_members 0) (verdict_in case)
unfolding count_leading_zeros in_window
verdicts OpenCard = closing OpenCard (omega arith) refl refl
verdicts Fenced = closing Fenced (omega arith) refl refl
verdicts Masked = closing Masked (omega arith) refl refl
verdicts MaskedWide = closing MaskedWide (omega arith) refl refl
verdicts FencedPast = closing FencedPast (omega arith) refl refl
verdicts StoredInside = closing StoredInside (omega arith) refl refl
verdicts StoredOutside = closing StoredOutside (omega arith) refl refl

pub returns : goal.returns
unfolding address
returns c = (verdicts, refl)
