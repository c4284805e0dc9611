-- What reading makes of a text, way by way.
use Rattle.std.proofs.Common.{◌≡◌, ℕ, ◌≤◌, true, false, List, ◌∷◌, ◌++◌, map, length, take, drop, Ok, Err, Result, sym, ap, ◌∙◌, subst, ap₂, arith}
use Rattle.std.specs.List.{range_with_len}
use Rattle.std.proofs.lemmas.List.FromFn.{fill_by_all, length-map-range_with_len}
use Rattle.std.proofs.lemmas.List.{get_or-take}
use Rattle.std.proofs.lemmas.Bool.{both_ways, and_from, le-leb, cond-true, cond-false}
use Rattle.refusals.specs.declared.cards.CardRefusal.{CardRefusal}
use Rattle.refusals.specs.declared.cards.CardRefusal.TheVariants as refusal
use Rattle.routine.specs.declared.rows.Row.{Row}
use Rattle.cards.specs.declared.draft.Draft.{Draft}
use Rattle.cards.specs.declared.heads.Head.{Head}
use Rattle.cards.specs.Text.{lines_of}
use Rattle.cards.specs.Rows.{map_ok}
use Rattle.cards.specs.Heads.{and_then}
use Rattle.cards.specs.Cards.{Card, label_at, labels_of}
use Rattle.cards.specs.Reading.{head_only, head_line, lines_in, whole_in, extent_fits, card_in, read_card}
use Rattle.cards.specs.Drafts.{Gathers}
use Rattle.cards.specs.Reads.{overlaid, has_room, Ends}
use Rattle.cards.proofs.Outcomes.{map_step, map_err}
use Rattle.cards.proofs.Wholes.{whole_sound}

-- what is gathered is what the rules say
pub gathers_by : (r : Result Draft CardRefusal) {read rule : Result Card CardRefusal} → read ≡ rule → Gathers rule r → Gathers read r
gathers_by r same gathered = subst (λ s. Gathers s r) (sym same) gathered

-- the refusal is the one that was told
pub refused_by : (r : Result Draft CardRefusal) {read : Result Card CardRefusal} {e : CardRefusal} → read ≡ Err e
    → (told : CardRefusal) × (r ≡ Err told) × (told ≡ e) → Gathers read r
refused_by r {e = e} is (told, as_told, same) = gathers_by r is (subst (Gathers (Err e)) (sym as_told) same)

pub read_extent : (text : List ℕ) → extent_fits text ≡ false → read_card text ≡ Err refusal.Extent
unfolding read_card
read_extent text short = cond-false (extent_fits text) _ _ short

module _ (text first : List ℕ) (rest : List (List ℕ)) (long : extent_fits text ≡ true) (lines : lines_of text ≡ first ∷ rest) where
  read_first : read_card text ≡ and_then (head_line first) (λ head. and_then (lines_in (head_only head) 2 rest) whole_in)
  unfolding read_card
  read_first = cond-true (extent_fits text) _ _ long ∙ ap card_in lines

  pub head_refused : (e : CardRefusal) → head_line first ≡ Err e → read_card text ≡ Err e
  head_refused e is = read_first ∙ ap (λ r. and_then r (λ head. and_then (lines_in (head_only head) 2 rest) whole_in)) is

  module _ (head : Head) (headed : head_line first ≡ Ok head) where
    read_lines : read_card text ≡ and_then (lines_in (head_only head) 2 rest) whole_in
    read_lines = read_first ∙ ap (λ r. and_then r (λ head. and_then (lines_in (head_only head) 2 rest) whole_in)) headed

    pub lines_refused : (e : CardRefusal) → lines_in (head_only head) 2 rest ≡ Err e → read_card text ≡ Err e
    lines_refused e is = read_lines ∙ ap (λ r. and_then r whole_in) is

    module _ (card : Card) (read : lines_in (head_only head) 2 rest ≡ Ok card) where
      pub whole_refused : (e : CardRefusal) → map_ok (whole_in card) (λ _. tt {0}) ≡ Err e → read_card text ≡ Err e
      whole_refused e is = read_lines ∙ ap (λ r. and_then r whole_in) read ∙ map_err (whole_in card) (λ _. tt {0}) e is

      pub whole_accepted : map_ok (whole_in card) (λ _. tt {0}) ≡ Ok tt → read_card text ≡ Ok card
      whole_accepted is =
          let (other, ok, _) = map_step (whole_in card) (λ _. tt {0}) tt is in
          read_lines ∙ ap (λ r. and_then r whole_in) read ∙ ok ∙ ap Ok (sym (whole_sound card other ok).0)

-- a table of which a part from the start was written
laid : {X : Type 0} (n : ℕ) (table written list : List X) → written ≡ list → n ≡ length list → written ++ drop n table ≡ overlaid list table
laid n table written list is long = ap (λ front. front ++ drop n table) is ∙ ap (λ m. list ++ drop m table) long

-- a draft that was accepted is written out as its card
module _ (text : List ℕ) (draft : Draft) (count : ℕ) (rows : List Row) (labels : List ℕ) (counted : count ≡ length draft.rows.items) (row_room : count ≤ length rows)
    (label-room : draft.head.words ≤ length labels) (rows' : List Row) (labels' : List ℕ)
    (rows-part : rows' ≡ draft.rows.items) (labels-part : labels' ≡ take draft.head.words draft.labels) (long : length labels' ≡ draft.head.words) where
  pub accepted_from : (read : Result Card CardRefusal) → Gathers read (Ok draft)
      → Ends text rows labels read (Ok (record { kind = draft.head.kind; reader = draft.head.reader; words = draft.head.words; rows = count }))
      (rows' ++ drop count rows) (labels' ++ drop draft.head.words labels)
  accepted_from (Err e) gathered = absurd gathered
  accepted_from (Ok card) drafts =
      let words = draft.head.words in
      let same_words : words ≡ card.head.words = ap (λ head. head.words) drafts.head in
      let labelled : take words draft.labels ≡ labels_of card =
      fill_by_all (label_at card.labs) (take words draft.labels) words 0 (ap length (sym labels-part) ∙ long)
      (λ k inside. get_or-take words draft.labels k 0 inside ∙ drafts.labels k (omega (arith, draft.small)))
      ∙ ap (λ n. map (label_at card.labs) (range_with_len 0 n)) same_words in
      let as_many : count ≡ length card.rows = counted ∙ ap length drafts.rows in
      let as_long : words ≡ length (labels_of card) = same_words ∙ sym (length-map-range_with_len (label_at card.labs) 0 card.head.words) in (
        λ room.
            record {
              told = ap₂ (λ head count. Ok (record { kind = head.kind; reader = head.reader; words = head.words; rows = count })) drafts.head as_many;
              rows_written = laid count rows rows' card.rows (rows-part ∙ drafts.rows) as_many;
              labels_written = laid words labels labels' (labels_of card) (labels-part ∙ labelled) as_long;
            },
        λ no_room.
            absurd (both_ways (has_room card rows labels) no_room
            (and_from _ _ (le-leb (length card.rows) (length rows) (omega arith)) (le-leb card.head.words (length labels) (omega (arith, same_words))))),
      )
