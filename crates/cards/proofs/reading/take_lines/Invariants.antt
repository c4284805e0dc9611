use Rattle.std.proofs.Common.{◌≡◌, ◌+◌, length}
use Rattle.cards.specs.Text.{lines_of, left_in}
use Rattle.cards.specs.Cards.{Card}
use Rattle.cards.specs.Reading.{lines_in}
use Rattle.cards.specs.Drafts.{Drafts}
use Rattle.cards.proofs.reading.take_lines.Given as goal

-- the card so far, and what is left to read, make what all lines make
abbrev pub invariant-loop-line : goal.invariant-loop-line
invariant-loop-line l =
    (card : Card) → Drafts l.initial.draft card
    → (so_far : Card) × Drafts l.draft so_far
    × (lines_in so_far (l.reader.line + 1) (lines_of (left_in l.reader)) ≡ lines_in card (l.initial.reader.line + 1) (lines_of (left_in l.initial.reader)))

abbrev pub decreases-loop-line : goal.decreases-loop-line
decreases-loop-line l = length (left_in l.reader)
