use Rattle.std.proofs.Common.{◌≡◌, ◌+◌, ◌∷◌, Ok, Err, Result, sym, refl, ap, ◌∙◌, arith}
use Rattle.std.proofs.lemmas.Result.{err_from_is_err_and}
use Rattle.refusals.specs.declared.cards.CardRefusal.{CardRefusal}
use Rattle.cards.specs.Text.{lines_of, left_in}
use Rattle.cards.specs.Cards.{Card}
use Rattle.cards.specs.Reading.{head_only, lines_in}
use Rattle.cards.specs.Drafts.{Steps}
use Rattle.cards.proofs.Stepping.{steps_by, took, failed}
use Rattle.cards.proofs.Gathering.{gathers_by, refused_by, read_extent, head_refused, lines_refused, whole_refused, whole_accepted}
use Rattle.cards.proofs.reading.gather.Goals as goal
use Rattle.cards.proofs.reading.gather.Goals.{In-Some, After-take_lines}

-- the text's first line, and the lines that are left
lines_are : (c : In-Some) → lines_of c.args.text.now ≡ c.in-Some.first.now ∷ lines_of (left_in c.next_line.new.self)
lines_are c = ap lines_of (sym c.new-reader.ensures.left) ∙ c.in-Some.ensures.line

-- what was made of the lines that are left, which are counted from 2
abbrev rest_read : After-take_lines → Result Card CardRefusal
rest_read c = lines_in (head_only c.in_ok-head_line.field-0) 2 (lines_of (left_in c.next_line.new.self))

rest_steps : (c : After-take_lines) → Steps (rest_read c) c.take_lines.new.draft c.take_lines.result
rest_steps c =
    let reader = c.next_line.new.self in
    let head = c.in_ok-head_line.field-0 in
    let second : reader.line + 1 ≡ 2 = omega (arith, c.in-Some.ensures.number, c.new-reader.ensures.line) in
    steps_by c.take_lines.new.draft c.take_lines.result (ap (λ k. lines_in (head_only head) k (lines_of (left_in reader))) (sym second))
    (c.take_lines.ensures (head_only head) c.begin-draft.ensures)

pub returns-then-not-fits_extent : goal.returns-then-not-fits_extent
returns-then-not-fits_extent c = gathers_by (Err _) (read_extent c.args.text.now (sym c.if-not-fits_extent.ensures)) refl

pub returns-in_err-head_line : goal.returns-in_err-head_line
returns-in_err-head_line c =
    refused_by c.from_residual.result
    (head_refused c.args.text.now c.in-Some.first.now _ (sym c.if-not-fits_extent.ensures) (lines_are (goal.at.returns-in_err-head_line c).In-Some)
    _ (sym c.in_err-head_line.ensures.value))
    (err_from_is_err_and c.from_residual.result c.from_residual.ensures.1)

pub returns-in_err-take_lines : goal.returns-in_err-take_lines
returns-in_err-take_lines c =
    let at = goal.at.returns-in_err-take_lines c in
    refused_by c.from_residual-in_err-take_lines.result
    (lines_refused c.args.text.now c.in-Some.first.now _ (sym c.if-not-fits_extent.ensures) (lines_are at.In-Some)
    c.in_ok-head_line.field-0 (sym c.in_ok-head_line.ensures.value) _
    (failed (rest_read at.After-take_lines) c.take_lines.new.draft c.take_lines.result _ (rest_steps at.After-take_lines) c.in_err-take_lines.was))
    (err_from_is_err_and c.from_residual-in_err-take_lines.result c.from_residual-in_err-take_lines.ensures.1)

pub returns-in_err-check_whole : goal.returns-in_err-check_whole
returns-in_err-check_whole c =
    let at = goal.at.returns-in_err-check_whole c in
    let (card, read, drafts) = took (rest_read at.After-take_lines) c.take_lines.new.draft c.take_lines.result (rest_steps at.After-take_lines) c.in_ok-take_lines.was in
    refused_by c.from_residual-in_err-check_whole.result
    (whole_refused c.args.text.now c.in-Some.first.now _ (sym c.if-not-fits_extent.ensures) (lines_are at.In-Some)
    c.in_ok-head_line.field-0 (sym c.in_ok-head_line.ensures.value) card read _ (sym (c.in_err-check_whole.ensures card drafts)))
    (err_from_is_err_and c.from_residual-in_err-check_whole.result c.from_residual-in_err-check_whole.ensures.1)

pub returns : goal.returns
returns c =
    let at = goal.at.returns c in
    let draft = c.take_lines.new.draft in
    let (card, read, drafts) = took (rest_read at.After-take_lines) draft c.take_lines.result (rest_steps at.After-take_lines) c.in_ok-take_lines.was in
    gathers_by (Ok draft)
    (whole_accepted c.args.text.now c.in-Some.first.now _ (sym c.if-not-fits_extent.ensures) (lines_are at.In-Some)
    c.in_ok-head_line.field-0 (sym c.in_ok-head_line.ensures.value) card read
    (sym (c.in_ok-check_whole.ensures card drafts)))
    drafts
