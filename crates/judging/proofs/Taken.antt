-- What a taken routine's type says of it.
use Rattle.std.proofs.Common.{◌≡◌, ◌≤◌, true, length, subst}
use Rattle.routine.specs.Limits.{within}
use Rattle.routine.specs.Parts.{rows_of, labels_of}
use Rattle.routine.specs.declared.taken.Taken.{Taken}
use Rattle.routine.proofs.Limits.{few_rows, some_rows, words_labelled}
use Rattle.judging.specs.Steps.{Valid}

module _ {L : Type 0} (routine : Taken L) where
  pub valid : Valid (rows_of routine) (labels_of routine)
  valid =
      let labels = labels_of routine in
      subst (λ w. within (rows_of routine) w (length labels) ≡ true) (words_labelled (rows_of routine) routine.words (length labels) routine.fits) routine.fits

  pub some : 1 ≤ length (rows_of routine)
  some = some_rows (rows_of routine) routine.words (length (labels_of routine)) routine.fits

  pub few : length (rows_of routine) ≤ 256
  few = few_rows (rows_of routine) routine.words (length (labels_of routine)) routine.fits
