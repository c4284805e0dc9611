-- What is known of the tables once a card was read into them.
use Rattle.std.proofs.Common.{◌≡◌, ℕ, ◌≤◌, true, List, length, take, drop, Ok, Err, Result, sym, ap, ◌∙◌, subst, arith}
use Rattle.std.proofs.lemmas.List.FromFn.{length-map-range_with_len}
use Rattle.std.proofs.lemmas.List.{length-append, take_at}
use Rattle.std.proofs.lemmas.Bool.{and_from, le-leb}
use Rattle.refusals.specs.declared.cards.CardRefusal.{CardRefusal}
use Rattle.routine.specs.declared.rows.Row.{Row}
use Rattle.routine.specs.Limits.{within}
use Rattle.routine.proofs.Limits.{few_rows, few_words}
use Rattle.cards.specs.declared.accepted.Accepted.{Accepted}
use Rattle.cards.specs.Cards.{Card, WellFormed, written, label_at, labels_of}
use Rattle.cards.specs.Reads.{overlaid, accepted_of, Accepts, Reads}
use Rattle.report.specs.Lines.{declined_line}
use Rattle.answers.specs.Answers.{GivesLine, Answers}

-- the beginning of a table that a list was written over
front : {X : Type 0} (xs table : List X) (n : ℕ) (table' : List X) → n ≡ length xs → table' ≡ overlaid xs table → (take n table' ≡ xs) × (n ≤ length table')
front xs table n table' long is = (
  ap (take n) is ∙ take_at xs (drop (length xs) table) n (sym long),
  omega (arith, simp length-append at (ap length is)),
)

-- where a card was accepted, the tables hold it
module _ {text : List ℕ} {rows rows' : List Row} {labels labels' : List ℕ} {r : Result Accepted CardRefusal} {a : Accepted} (is : r ≡ Ok a) where
  module _ (card : Card) (accepts : Accepts text rows labels card r rows' labels') where
    told : a ≡ accepted_of card
    told = let known = accepts.told in cc

    pub card_rows : (take a.rows rows' ≡ card.rows) × (a.rows ≤ length rows')
    card_rows = front card.rows rows a.rows rows' (ap (λ a. a.rows) told) accepts.rows_written

    pub card_labels : (take a.words labels' ≡ labels_of card) × (a.words ≤ length labels')
    card_labels =
        front (labels_of card) labels a.words labels'
        (ap (λ a. a.words) told ∙ sym (length-map-range_with_len (label_at card.labs) 0 card.head.words)) accepts.labels_written

    pub card_fits : WellFormed card → within (take a.rows rows') a.words a.words ≡ true
    card_fits well =
        subst (λ n. within (take a.rows rows') n n ≡ true) (sym (ap (λ a. a.words) told))
        (subst (λ rows. within rows card.head.words card.head.words ≡ true) (sym card_rows.0) well.routine)

    -- and the line of what they hold is the card's
    card_line : (line : List ℕ) → GivesLine a.kind (take a.words labels') (take a.rows rows') a.reader line
        → GivesLine card.head.kind (labels_of card) card.rows card.head.reader line
    card_line line gives =
        subst (λ a. GivesLine a.kind (labels_of card) card.rows a.reader line) told
        (subst (λ labels. GivesLine a.kind labels card.rows a.reader line) card_labels.0
        (subst (λ rows. GivesLine a.kind (take a.words labels') rows a.reader line) card_rows.0 gives))

-- tables as long as a card may need have room for every card
module _ {text : List ℕ} {rows rows' : List Row} {labels labels' : List ℕ} {r : Result Accepted CardRefusal} (reads : Reads text rows labels r rows' labels')
    (row_room : 256 ≤ length rows) (label-room : 4096 ≤ length labels) where
  accepted : (card : Card) → WellFormed card → text ≡ written card → Accepts text rows labels card r rows' labels'
  accepted card well is =
      reads.accepts card well is
      (and_from _ _ (le-leb (length card.rows) (length rows) (omega (arith, few_rows card.rows card.head.words card.head.words well.routine)))
      (le-leb card.head.words (length labels) (omega (arith, few_words card.rows card.head.words card.head.words well.routine))))

  pub answers_judged : (a : Accepted) → r ≡ Ok a → (line : List ℕ)
      → GivesLine a.kind (take a.words labels') (take a.rows rows') a.reader line → Answers text line
  answers_judged a is line gives =
      let (card, well, same, _) = reads.only a is in
      record {
        judged = λ card well same. card_line is card (accepted card well same) line gives;
        declined = λ none. absurd (none card well same);
      }

  pub answers_declined : (e : CardRefusal) → r ≡ Err e → (line : List ℕ) → line ≡ declined_line e → Answers text line
  answers_declined e is line told =
      record {
        judged = λ card well same. absurd (let known = (accepted card well same).told in let no : ◌≡◌ {A = ℕ} 0 1 = cc in omega arith);
        declined = λ none.
            let (first, read, declines) = reads.declines none in
            let known = declines.told in
            let same : e ≡ first = cc in
            (first, read, told ∙ ap declined_line same);
      }
