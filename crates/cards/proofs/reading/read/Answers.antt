use Rattle.std.proofs.Common.{◌≤◌, length, ◌∙◌, arith, rules}
use Rattle.std.proofs.lemmas.List.{length-take-le}
use Rattle.cards.proofs.Gathering.{accepted_from}
use Rattle.cards.proofs.WholeCards.{reading_laws, reads_by}
use Rattle.cards.proofs.reading.read.Goals as goal

pub returns-in_err-draft : goal.returns-in_err-draft
returns-in_err-draft c = search (rules, reads_by, reading_laws)

pub returns-then-rows-count : goal.returns-then-rows-count
returns-then-rows-count c = search (rules, reads_by, reading_laws)

pub returns : goal.returns
returns c =
    let draft = c.in_ok-draft.draft in
    let text = c.args.card.now in
    let rows = c.args.rows.now in
    let labels = c.args.labels.now in
    let labels-room : draft.head.words ≤ length labels = omega arith in
    record {
      reads = reads_by text rows _ labels _ _
          (accepted_from text draft c.len-count.result rows labels c.len-count.ensures.value (omega arith) labels-room c.copy_from_slice.new.self c.copy_from_slice-2.new.self
          (c.copy_from_slice.ensures.after ∙ c.as_slice.ensures.value) c.copy_from_slice-2.ensures.after
          (c.copy_from_slice-2.ensures.len ∙ length-take-le draft.head.words labels labels-room) _ c.in_ok-draft.ensures);
      laws = reading_laws;
    }
