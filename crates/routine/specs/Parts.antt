-- What a taken routine is made of, for contracts that speak of one: its fields are private to this crate.
use Rattle.std.specs.Prelude.{ℕ, List}
use Rattle.routine.specs.declared.rows.Row.{Row}
use Rattle.routine.specs.declared.taken.Taken.{Taken}

abbrev pub rows_of : {L : Type 0} → Taken L → List Row
rows_of taken = taken.source.now.rows.now

abbrev pub labels_of : {L : Type 0} → Taken L → List L
labels_of taken = taken.source.now.labels.now

abbrev pub words_of : {L : Type 0} → Taken L → ℕ
words_of taken = taken.words
