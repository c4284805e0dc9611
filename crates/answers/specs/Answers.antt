-- What is answered to a text that is offered as a card.
use Rattle.std.specs.Prelude.{◌≡◌, ℕ, List, map, Err, ◌≢◌}
use Rattle.refusals.specs.declared.cards.CardRefusal.{CardRefusal}
use Rattle.labels.specs.Kind.{Kind}
use Rattle.labels.specs.Makers.{sets}
use Rattle.labels.specs.Grades.{grades}
use Rattle.routine.specs.declared.rows.Row.{Row}
use Rattle.judging.specs.declared.verdict.Verdict.{Verdict}
use Rattle.judging.specs.Verdicts.{Gives}
use Rattle.cards.specs.declared.heads.LabelKind.{LabelKind}
use Rattle.cards.specs.declared.heads.LabelKind.TheVariants.{Makers, Grades}
use Rattle.cards.specs.Cards.{Card, WellFormed, written, labels_of}
use Rattle.cards.specs.Reading.{read_card}
use Rattle.report.specs.Lines.{verdict_line, declined_line}
use Rattle.answers.specs.Numbered.{makers_numbered, grade_numbered}

-- the line tells the verdict that the rules give the rows, with labels and a reader of a kind
abbrev pub GivesLineAs : {L : Type 0} → Kind L → List L → List Row → L → List ℕ → Type 0
GivesLineAs kind labels rows reader line = (verdict : Verdict) × Gives kind labels rows reader verdict × (line ≡ verdict_line verdict)

-- the same by numbers for the labels and the reader, as a card writes them
abbrev pub GivesLine : LabelKind → List ℕ → List Row → ℕ → List ℕ → Type 0
GivesLine Makers labels rows reader line = GivesLineAs sets (map makers_numbered labels) rows (makers_numbered reader) line
GivesLine Grades labels rows reader line = GivesLineAs grades (map grade_numbered labels) rows (grade_numbered reader) line

pub record Answers (text line : List ℕ) : Type 0 where
  -- the written form of a well-formed card is answered by the verdict that the rules give it
  pub judged : (card : Card) → WellFormed card → text ≡ written card
      → GivesLine card.head.kind (labels_of card) card.rows card.head.reader line
  -- every other text by its first fault
  pub declined : ((card : Card) → WellFormed card → text ≢ written card) → (e : CardRefusal) × (read_card text ≡ Err e) × (line ≡ declined_line e)
