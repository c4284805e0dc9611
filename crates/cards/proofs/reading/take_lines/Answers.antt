use Rattle.std.proofs.Common.{◌+◌, Ok, Err, sym, refl, ap, ◌∙◌}
use Rattle.std.proofs.lemmas.Result.{err_from_is_err_and}
use Rattle.cards.specs.Text.{split, lines_of, left_in}
use Rattle.cards.specs.Reading.{line_in, lines_in}
use Rattle.cards.proofs.Stepping.{steps_by, took, failed, lines_next, lines_stop}
use Rattle.cards.proofs.reading.take_lines.Goals as goal

pub loop-line-preserved : goal.loop-line-preserved
loop-line-preserved c = λ card drafts.
    let (so_far, drafted, left) = c.loop-line.invariant card drafts in
    let reader = c.next_line.new.self in
    let line = c.in-Some.line.now in
    let read = c.in-Some.ensures in
    let (next, is, drafts-next) = took (line_in so_far reader.line line) c.take_line.new.self c.take_line.result
    (c.take_line.ensures so_far drafted) c.in_ok-take_line.was in (
      next,
      drafts-next,
      sym (lines_next so_far c.loop-line.reader.line reader.line line (lines_of (left_in c.loop-line.reader)) (lines_of (left_in reader)) read.line read.number next is) ∙ left,
    )

pub returns-in_err-take_line : goal.returns-in_err-take_line
returns-in_err-take_line c = λ card drafts.
    let (so_far, drafted, left) = c.loop-line.invariant card drafts in
    let reader = c.next_line.new.self in
    let line = c.in-Some.line.now in
    let read = c.in-Some.ensures in
    let told = err_from_is_err_and c.from_residual.result c.from_residual.ensures.1 in
    let refused = failed (line_in so_far reader.line line) c.take_line.new.self c.take_line.result _
    (c.take_line.ensures so_far drafted) c.in_err-take_line.was in
    steps_by c.take_line.new.self c.from_residual.result
    (sym left ∙ lines_stop so_far c.loop-line.reader.line reader.line line (lines_of (left_in c.loop-line.reader)) (lines_of (left_in reader)) read.line read.number _ refused)
    (told.1 ∙ ap Err told.2)

pub returns : goal.returns
unfolding lines_in split
returns c = λ card drafts.
    let (so_far, drafted, left) = c.loop-line.invariant card drafts in
    steps_by c.loop-line.draft (Ok tt)
    (sym left ∙ ap (λ text. lines_in so_far (c.loop-line.reader.line + 1) (lines_of text)) c.in_default.ensures.none.0) (refl, drafted)
