-- What a judged routine is made of, for contracts that speak of one: its fields are private to this crate.
use Rattle.std.specs.Prelude.{ℕ, List}
use Rattle.routine.specs.Parts as taken
use Rattle.routine.specs.declared.rows.Row.{Row}
use Rattle.judging.specs.declared.judged.Judged.{Judged}
use Rattle.judging.specs.declared.verdict.Verdict.{Verdict}

abbrev pub rows_of : {L : Type 0} → Judged L → List Row
rows_of judged = taken.rows_of judged.taken

abbrev pub labels_of : {L : Type 0} → Judged L → List L
labels_of judged = taken.labels_of judged.taken

abbrev pub words_of : {L : Type 0} → Judged L → ℕ
words_of judged = taken.words_of judged.taken

abbrev pub reader_of : {L : Type 0} → Judged L → L
reader_of judged = judged.reader

abbrev pub verdict_of : {L : Type 0} → Judged L → Verdict
verdict_of judged = judged.verdict
