use Rattle.std.proofs.Common.{Err, sym, ap, ◌∙◌, rules}
use Rattle.std.proofs.lemmas.Result.{err_from_is_err_and}
use Rattle.cards.specs.Text.{four_texts}
use Rattle.cards.specs.Reading.{lab_line, row_line}
use Rattle.cards.proofs.Outcomes.{there, not_there}
use Rattle.cards.proofs.Stepping.{steps_by, line_short, line_lab, line_unknown, line_row}
use Rattle.cards.proofs.draft.Draft.take_line.Goals as goal

pub returns-in_err-fields : goal.returns-in_err-fields
returns-in_err-fields c = λ card drafts.
    let told = err_from_is_err_and c.from_residual.result c.from_residual.ensures.1 in
    steps_by c.args.self.now c.from_residual.result (line_short card c.args.line c.args.text.now _ (sym c.in_err-fields.ensures.texts)) (told.1 ∙ ap Err told.2)

pub returns-then-eq : goal.returns-then-eq
returns-then-eq c = λ card drafts.
    let four = four_texts c.in_ok-fields.fields in
    steps_by c.take_lab.new.self c.take_lab.result
    (line_lab card c.args.line c.args.text.now four (sym c.in_ok-fields.ensures.texts) (search rules)
    ∙ ap (λ n. lab_line card n four) (sym c.in_ok-fields.ensures.line))
    (c.take_lab.ensures card drafts)

pub returns-in_err-word : goal.returns-in_err-word
returns-in_err-word c = λ card drafts.
    let told = err_from_is_err_and c.from_residual-in_err-word.result c.from_residual-in_err-word.ensures.1 in
    let (none, is) = not_there _ _ c.word_in.result (sym c.ok_or.ensures.value ∙ c.in_err-word.was) in
    steps_by c.args.self.now c.from_residual-in_err-word.result
    (line_unknown card c.args.line c.args.text.now (four_texts c.in_ok-fields.fields) (sym c.in_ok-fields.ensures.texts) (search rules)
    (sym c.word_in.ensures ∙ none)) (told.1 ∙ ap Err (told.2 ∙ sym is))

pub returns : goal.returns
returns c = λ card drafts.
    let four = four_texts c.in_ok-fields.fields in
    let word = c.in_ok-word.word in
    let known = there _ c.word_in.result word (sym c.ok_or.ensures.value ∙ c.in_ok-word.was) in
    steps_by c.take_row.new.self c.take_row.result
    (line_row card c.args.line c.args.text.now four (sym c.in_ok-fields.ensures.texts) word (search rules) (sym c.word_in.ensures ∙ known)
    ∙ ap (λ n. row_line card n word four) (sym c.in_ok-fields.ensures.line))
    (c.take_row.ensures card drafts)
