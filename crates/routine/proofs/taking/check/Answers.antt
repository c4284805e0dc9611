use Rattle.std.proofs.Common.{sym}
use Rattle.routine.specs.Limits.{ends}
use Rattle.routine.proofs.Limits.{read_row, last_row, within_from}
use Rattle.routine.proofs.taking.check.Goals as goal

pub returns : goal.returns
returns g c =
    let rows = c.args.source.now.rows.now in
    let count = sym c.if-not-fits_row_count.ensures in
    within_from rows _ _ count
    (sym c.if-not-fits_word_count.ensures)
    c.in_default.ensures
    c.in_default-first_astray.ensures
    (read_row ends rows _ _ (last_row rows count) c.if-not-is_end.ensures)
