-- What a line adds to a card, way by way.
use Rattle.std.proofs.Common.{◌≡◌, ℕ, suc, ◌+◌, ◌<◌, true, false, leb, List, ◌∷◌, length, Some, None, Ok, Err, codes, Result, sym, refl, ap, ◌∙◌, subst, add-one}
use Rattle.std.specs.Option.{ok_or}
use Rattle.std.specs.Str.{bytes_eq}
use Rattle.std.proofs.lemmas.Bool.{cond-true, cond-false, eq-eqb, lt-leb}
use Rattle.refusals.specs.declared.cards.CardRefusal.{CardRefusal}
use Rattle.refusals.specs.declared.cards.CardRefusal.TheVariants as refusal
use Rattle.cards.specs.declared.words.Word.{Word}
use Rattle.cards.specs.Text.{Four}
use Rattle.cards.specs.Fields.{part_of}
use Rattle.cards.specs.Words.{word_of}
use Rattle.cards.specs.declared.draft.Draft.{Draft}
use Rattle.cards.specs.Drafts.{Drafts, Steps}
use Rattle.cards.specs.declared.heads.Lab.{Lab}
use Rattle.cards.specs.Heads.{and_then, lab_in}
use Rattle.cards.specs.Cards.{Card}
use Rattle.cards.specs.Reading.{covered_by, with_lab, with_row, counted_fields, lab_line, row_line, line_by_word, line_in, lines_in}
use Rattle.cards.specs.Rows.{map_ok, row_in}
use Rattle.routine.specs.declared.rows.Row.{Row}
use Rattle.cards.proofs.Outcomes.{never_ok, there_then}

module _ (card : Card) (n : ℕ) (line : List ℕ) where
  pub line_short : (e : CardRefusal) → counted_fields n line ≡ Err e → line_in card n line ≡ Err e
  unfolding line_in
  line_short e short = ap (λ counted. and_then counted (line_by_word card n)) short

  module _ (four : Four) (some : counted_fields n line ≡ Ok four) where
    pub line_lab : bytes_eq four.first (codes "lab") ≡ true → line_in card n line ≡ lab_line card n four
    unfolding line_in
    line_lab lab = ap (λ counted. and_then counted (line_by_word card n)) some ∙ cond-true (bytes_eq four.first (codes "lab")) _ _ lab

    line_other : bytes_eq four.first (codes "lab") ≡ false
        → line_in card n line ≡ and_then (ok_or (word_of (part_of four.first)) (refusal.UnknownWord n)) (λ word. row_line card n word four)
    unfolding line_in
    line_other other = ap (λ counted. and_then counted (line_by_word card n)) some ∙ cond-false (bytes_eq four.first (codes "lab")) _ _ other

    pub line_unknown : bytes_eq four.first (codes "lab") ≡ false → word_of (part_of four.first) ≡ None → line_in card n line ≡ Err (refusal.UnknownWord n)
    line_unknown other none = line_other other ∙ ap (λ found. and_then (ok_or found (refusal.UnknownWord n)) (λ word. row_line card n word four)) none

    pub line_row : (word : Word) → bytes_eq four.first (codes "lab") ≡ false → word_of (part_of four.first) ≡ Some word
        → line_in card n line ≡ row_line card n word four
    line_row word other is = line_other other ∙ there_then (refusal.UnknownWord n) _ word (λ word. row_line card n word four) is

-- a step is taken as the rules say it
pub steps_by : (draft : Draft) (r : Result (Unit {0}) CardRefusal) {step rule : Result Card CardRefusal} → step ≡ rule → Steps rule draft r
    → Steps step draft r
steps_by draft r same steps = subst (λ s. Steps s draft r) (sym same) steps

-- a `lab` line before all rows is added
pub lab_taken : (card : Card) (n : ℕ) (four : Four) (lab : Lab) → length card.rows ≡ 0 → lab_in card.head (covered_by card.labs) n four ≡ Ok lab
    → lab_line card n four ≡ Ok (with_lab card lab)
lab_taken card n four lab none is = cond-true _ _ _ (eq-eqb (length card.rows) 0 none) ∙ ap (λ read. map_ok read (with_lab card)) is

-- a row that is not the 257th is added
pub row_taken : (card : Card) (n : ℕ) (word : Word) (four : Four) (row : Row) → length card.rows < 256
    → row_in card.head.words word four ≡ Ok row → row_line card n word four ≡ Ok (with_row card row)
row_taken card n word four row few is =
    cond-false (leb 256 (length card.rows)) _ _ (lt-leb 256 (length card.rows) few)
    ∙ ap (λ read. elim read [ Ok row ↦ Ok (with_row card row) | Err fault ↦ Err (refusal.RowField n fault.field fault.cause) ]) is

-- a step that was taken, and one that was refused
pub took : (step : Result Card CardRefusal) (draft : Draft) (r : Result (Unit {0}) CardRefusal) → Steps step draft r → r ≡ Ok tt
    → (next : Card) × (step ≡ Ok next) × Drafts draft next
took (Ok next) draft r steps is = (next, refl, steps.1)
took (Err refusal) draft r steps is = never_ok _ _ _ (sym steps ∙ is)

pub failed : (step : Result Card CardRefusal) (draft : Draft) (r : Result (Unit {0}) CardRefusal) (e : CardRefusal) → Steps step draft r → r ≡ Err e
    → step ≡ Err e
failed (Ok next) draft r e steps is = never_ok _ _ _ (sym is ∙ steps.0)
failed (Err refusal) draft r e steps is = let same : refusal ≡ e = cc in ap Err same

-- all lines from one on, once it was taken or refused: line m follows n lines
module _ (card : Card) (n m : ℕ) (line : List ℕ) (lines rest : List (List ℕ)) (split : lines ≡ line ∷ rest) (number : m ≡ n + 1) where
  lines_first : lines_in card (n + 1) lines ≡ lines_in card m (line ∷ rest)
  lines_first = ap (lines_in card (n + 1)) split ∙ ap (λ k. lines_in card k (line ∷ rest)) (sym number)

  pub lines_next : (next : Card) → line_in card m line ≡ Ok next → lines_in card (n + 1) lines ≡ lines_in next (m + 1) rest
  unfolding lines_in
  lines_next next is =
      lines_first ∙ ap (λ step. and_then step (λ next. lines_in next (suc m) rest)) is ∙ ap (λ k. lines_in next k rest) (sym (add-one m))

  pub lines_stop : (e : CardRefusal) → line_in card m line ≡ Err e → lines_in card (n + 1) lines ≡ Err e
  unfolding lines_in
  lines_stop e is = lines_first ∙ ap (λ step. and_then step (λ next. lines_in next (suc m) rest)) is
