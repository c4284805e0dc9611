-- What reading makes of a text: the card that it writes, or the first refusal.
use Rattle.std.specs.Prelude.{ℕ, suc, ◌+◌, ◌-◌, Bool, cond, ◌&&◌, List, [], ◌∷◌, ◌++◌, length, Some, None, Ok, Err, codes, Option, Result, ◌==◌, nat_le, slice_index}
use Rattle.std.specs.List.{fold}
use Rattle.std.specs.Option.{ok_or}
use Rattle.std.specs.Str.{bytes_eq}
use Rattle.refusals.specs.declared.cards.CardRefusal.{CardRefusal}
use Rattle.refusals.specs.declared.cards.CardRefusal.TheVariants as refusal
use Rattle.routine.specs.declared.rows.Row.{Row}
use Rattle.routine.specs.Limits.{target_fits, last_ends}
use Rattle.cards.specs.declared.heads.Head.{Head}
use Rattle.cards.specs.declared.heads.Lab.{Lab}
use Rattle.cards.specs.declared.words.Word.{Word}
use Rattle.cards.specs.Text.{Four, lines_of, fields_of, four_of}
use Rattle.cards.specs.Fields.{part_of}
use Rattle.cards.specs.Words.{word_of}
use Rattle.cards.specs.Rows.{map_ok, row_in}
use Rattle.cards.specs.Heads.{and_then, head_in, lab_in}
use Rattle.cards.specs.Cards.{Card}

-- the word after the last that `lab` lines cover
abbrev pub covered_from : ℕ → List Lab → ℕ
covered_from covered labs = fold (λ _ lab. lab.from + lab.count) covered labs

abbrev pub covered_by : List Lab → ℕ
covered_by labs = covered_from 0 labs

-- a card of which only the head was read
abbrev pub head_only : Head → Card
head_only head = record { head = head; labs = []; rows = [] }

-- the card with one more `lab` line or row
abbrev pub with_lab : Card → Lab → Card
with_lab card lab = record { head = card.head; labs = card.labs ++ lab ∷ []; rows = card.rows }

abbrev pub with_row : Card → Row → Card
with_row card row = record { head = card.head; labs = card.labs; rows = card.rows ++ row ∷ [] }

-- line n, its fields counted
abbrev pub counted_fields : ℕ → List ℕ → Result Four CardRefusal
counted_fields n line = ok_or (four_of (fields_of line)) (refusal.FieldCount n)

-- the first line
abbrev pub head_line : List ℕ → Result Head CardRefusal
head_line line = and_then (counted_fields 1 line) head_in

-- line n as a `lab` line: it stands before any row
abbrev pub lab_line : Card → ℕ → Four → Result Card CardRefusal
lab_line card n four =
    cond (length card.rows == 0)
    (map_ok (lab_in card.head (covered_by card.labs) n four) (with_lab card))
    (Err (refusal.Lab n 1))

-- line n as a row, which may be no row 257
abbrev pub row_line : Card → ℕ → Word → Four → Result Card CardRefusal
row_line card n word four =
    cond (nat_le 256 (length card.rows)) (Err (refusal.ExtraRow n))
    (elim (row_in card.head.words word four) [ Ok row ↦ Ok (with_row card row) | Err fault ↦ Err (refusal.RowField n fault.field fault.cause) ])

-- line n after the first, by its first field
abbrev pub line_by_word : Card → ℕ → Four → Result Card CardRefusal
line_by_word card n four =
    cond (bytes_eq four.first (codes "lab")) (lab_line card n four)
    (and_then (ok_or (word_of (part_of four.first)) (refusal.UnknownWord n)) (λ word. row_line card n word four))

-- what line n adds to the card
unfoldable pub line_in : Card → ℕ → List ℕ → Result Card CardRefusal
line_in card n line = and_then (counted_fields n line) (line_by_word card n)

-- what lines from line n on add to the card, up to the first that is refused
unfoldable pub lines_in : Card → ℕ → List (List ℕ) → Result Card CardRefusal
lines_in card n [] = Ok card
lines_in card n (line ∷ lines) = and_then (line_in card n line) (λ next. lines_in next (suc n) lines)

-- the first row, counted from i, at which the test fails
unfoldable pub first_failing : (ℕ → Row → Bool) → ℕ → List Row → Option ℕ
first_failing test i [] = None
first_failing test i (row ∷ rows) = cond (test i row) (first_failing test (suc i) rows) (Some i)

-- the line of row i: the head and the `lab` lines come before all rows
abbrev pub line_of_row : Card → ℕ → ℕ
line_of_row card i = 2 + length card.labs + i

-- the routine as a whole: there is a row, every target is a row and no branch's own next one, and the last row is a jump or a halt
abbrev pub whole_in : Card → Result Card CardRefusal
whole_in card =
    cond (length card.rows == 0) (Err refusal.NoRow)
    (elim (first_failing (target_fits (length card.rows)) 0 card.rows) [
      | Some i ↦ Err (refusal.Target (line_of_row card i))
      | None ↦ cond (last_ends card.rows) (Ok card) (Err (refusal.Ending (line_of_row card (length card.rows - 1))))
    ])

-- a text that can be a card: 1 to 32,768 bytes, the last of them 10
abbrev pub extent_fits : List ℕ → Bool
extent_fits text = nat_le 1 (length text) && nat_le (length text) 32768 && slice_index text (length text - 1) == 10

-- the lines of a card: the head first, then the others, then the whole
abbrev pub card_in : List (List ℕ) → Result Card CardRefusal
card_in [] = Err refusal.Extent
card_in (first ∷ rest) = and_then (head_line first) (λ head. and_then (lines_in (head_only head) 2 rest) whole_in)

-- the card that a text writes, or why there is none
unfoldable pub read_card : List ℕ → Result Card CardRefusal
read_card text = cond (extent_fits text) (card_in (lines_of text)) (Err refusal.Extent)
