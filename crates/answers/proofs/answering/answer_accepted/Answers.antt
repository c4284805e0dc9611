use Rattle.std.proofs.Common.{◌≡◌, ℕ, ◌*◌, ◌≤◌, true, List, length, take, sym, subst, arith, lit<}
use Rattle.std.proofs.lemmas.List.{length-take-le}
use Rattle.routine.specs.declared.rows.Row.{Row}
use Rattle.routine.specs.Limits.{within}
use Rattle.routine.proofs.Limits.{few_rows, few_words}
use Rattle.cards.specs.declared.accepted.Accepted.{Accepted}
use Rattle.report.specs.Parts.{line_bytes}
use Rattle.answers.specs.Answers.{GivesLine}
use Rattle.answers.proofs.answering.answer_accepted.Goals as goal

-- what was read fits the tables that it is judged in
record Rooms (rows : List Row) (numbers : List ℕ) : Type 0 where
  fits : within rows (length numbers) (length numbers) ≡ true
  labels : length numbers ≤ 4096
  table : 2 * length rows ≤ 512

rooms : (a : Accepted) (rows : List Row) (numbers : List ℕ) → a.words ≤ length numbers → within (take a.rows rows) a.words a.words ≡ true
    → Rooms (take a.rows rows) (take a.words numbers)
rooms a rows numbers read fits =
    let long = length-take-le a.words numbers read in
    record {
      fits = subst (λ n. within (take a.rows rows) n n ≡ true) (sym long) fits;
      labels = omega (arith, long, few_words (take a.rows rows) a.words a.words fits);
      table = omega (arith, few_rows (take a.rows rows) a.words a.words fits);
    }

pub answer_as-requires : goal.answer_as-requires
answer_as-requires c =
    let room = rooms c.args.accepted c.args.rows.now c.args.numbers.now c.requires.words c.requires.fits in
    (lit< tt, (room.fits, (room.labels, room.table)))

pub answer_as-requires-in-Grades : goal.answer_as-requires-in-Grades
answer_as-requires-in-Grades c =
    let room = rooms c.args.accepted c.args.rows.now c.args.numbers.now c.requires.words c.requires.fits in
    (lit< tt, (room.fits, (room.labels, room.table)))

pub returns-in-Makers : goal.returns-in-Makers
returns-in-Makers c =
    subst (λ kind. GivesLine kind (take c.args.accepted.words c.args.numbers.now) (take c.args.accepted.rows c.args.rows.now) c.args.accepted.reader
    (line_bytes c.answer_as.result)) (sym c.in-Makers.is) c.answer_as.ensures

pub returns-in-Grades : goal.returns-in-Grades
returns-in-Grades c =
    subst (λ kind. GivesLine kind (take c.args.accepted.words c.args.numbers.now) (take c.args.accepted.rows c.args.rows.now) c.args.accepted.reader
    (line_bytes c.answer_as-in-Grades.result)) (sym c.in-Grades.is) c.answer_as-in-Grades.ensures
