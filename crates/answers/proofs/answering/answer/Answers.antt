use Rattle.std.proofs.Common.{ℕ, ◌≤◌, length, replicate, arith}
use lib.ListN.{length-replicate}
use Rattle.routine.specs.declared.rows.Row.TheVariants.{Halt}
use Rattle.report.specs.Parts.{line_bytes}
use Rattle.answers.proofs.Accepted.{card_rows, card_labels, card_fits, answers_judged, answers_declined}
use Rattle.answers.proofs.answering.answer.Goals as goal

-- the tables are as long as a card may need
row_room : 256 ≤ length (replicate 256 Halt)
row_room = omega (arith, length-replicate 256 Halt)

label_room : 4096 ≤ length {A = ℕ} (replicate 4096 0)
label_room = omega (arith, length-replicate {A = ℕ} 4096 0)

pub answer_accepted-requires : goal.answer_accepted-requires
answer_accepted-requires c =
    let (card, well, same, accepts) = c.read.ensures.reads.only c.in-Ok.accepted c.in-Ok.is in
    record { rows = (card_rows c.in-Ok.is card accepts).1; words = (card_labels c.in-Ok.is card accepts).1; fits = card_fits c.in-Ok.is card accepts well }

pub returns-in-Ok : goal.returns-in-Ok
returns-in-Ok c =
    answers_judged c.read.ensures.reads row_room label_room
    c.in-Ok.accepted c.in-Ok.is (line_bytes c.answer_accepted.result) c.answer_accepted.ensures

pub returns-in-Err : goal.returns-in-Err
returns-in-Err c =
    answers_declined c.read.ensures.reads row_room label_room
    c.in-Err.refusal c.in-Err.is (line_bytes c.declined_line.result) c.declined_line.ensures
