-- Lemmas on whole cards: reading and writing are inverse.
use Rattle.std.proofs.Common.{◌≡◌, ℕ, ◌+◌, ◌-◌, ◌≤◌, true, ◌&&◌, eqb, leb, List, [], ◌∷◌, ◌++◌, length, get_or, take, Ok, Result, sym, refl, ap, ◌∙◌, subst, arith}
use Rattle.std.specs.List.{flat_map}
use Rattle.std.proofs.ByRecursion.{All-get_or, All-from_get_or, All-weaker}
use Rattle.std.proofs.lemmas.List.{append_assoc, append-nil, length_push, get_or_push, take_more, take_all}
use Rattle.std.proofs.lemmas.Bool.{and_parts, and_from, eqb-true, eq-eqb, leb-true, le-leb, cond-true}
use Rattle.routine.specs.declared.rows.Row.TheVariants.{Halt}
use Rattle.routine.specs.Limits.{fields_fit}
use Rattle.routine.proofs.Limits.{every_from, within_parts, within_from, few_rows, some_words, few_words, fields_fit_lem}
use Rattle.cards.specs.Text.{Four, lines_of}
use Rattle.cards.specs.Heads.{and_then}
use Rattle.cards.specs.Cards.{Card, line_text, head_text, lab_text, row_text, written, labs_fit, is32, WellFormed}
use Rattle.cards.specs.Reading.{head_only, head_line, lines_in, whole_in, extent_fits, card_in, read_card}
use Rattle.refusals.specs.declared.cards.CardRefusal.{CardRefusal}
use Rattle.routine.specs.declared.rows.Row.{Row}
use Rattle.cards.specs.declared.accepted.Accepted.{Accepted}
use Rattle.cards.specs.Laws.{ReadingLaws}
use Rattle.cards.specs.Reads.{Reads, Ends}
use Rattle.cards.proofs.Accepting.{reads}
use Rattle.cards.proofs.Outcomes.{never_ok, passed, then_steps}
use Rattle.cards.proofs.RowLines.{Fitting}
use Rattle.cards.proofs.LineTexts.{ended_by, Ended, bare, line_bare, line_found, lines_rejoined}
use Rattle.cards.proofs.Faults.{first_fault}
use Rattle.cards.proofs.Wholes.{Whole, whole_sound, whole_ok}
use Rattle.cards.proofs.CardLines.{Fits, written_head, lab_line_text, row_line_text, lines_sound, head_line_sound, head_line_read, lines_read}

-- a text that can be a card ends with byte 10
long_ended : (text : List ℕ) → extent_fits text ≡ true → Ended text × (length text ≤ 32768)
long_ended text long =
    let (sizes, last-eqb) = and_parts (leb 1 (length text) && leb (length text) 32768) (eqb (get_or text (length text - 1) 0) 10) long in
    let (some-leb, short-leb) = and_parts (leb 1 (length text)) (leb (length text) 32768) sizes in
    let some = leb-true 1 (length text) some-leb in
    let last = eqb-true (get_or text (length text - 1) 0) 10 last-eqb in
    let front = take (length text - 1) text in
    let whole : text ≡ front ++ 10 ∷ [] =
    sym (take_all (length text - 1 + 1) text (omega arith)) ∙ take_more text (length text - 1) 0 (omega arith) ∙ ap (λ byte. front ++ byte ∷ []) last in
    ((front, whole), leb-true (length text) 32768 short-leb)

ended_long : (text : List ℕ) → Ended text → length text ≤ 32768 → extent_fits text ≡ true
ended_long text (front, is) short =
    let long : length text ≡ length front + 1 = ap length is ∙ length_push front 10 in
    let last : get_or text (length text - 1) 0 ≡ 10 = ap (λ t. get_or t (length text - 1) 0) is ∙ get_or_push front 10 0 (length text - 1) (omega arith) in
    and_from _ _ (and_from _ _ (le-leb 1 (length text) (omega arith)) (le-leb (length text) 32768 short)) (eq-eqb (get_or text (length text - 1) 0) 10 last)

-- lines after a text that ends with byte 10
ended_joined : {X : Type 0} (f : X → List ℕ) → ((x : X) → Ended (f x)) → (text : List ℕ) → Ended text → (xs : List X) → Ended (text ++ flat_map f xs)
ended_joined f each text ended [] = subst Ended (sym (append-nil text)) ended
ended_joined f each text ended (x ∷ xs) =
    let (front, is) = each x in
    let more : Ended (text ++ f x) = (text ++ front, ap (λ t. text ++ t) is ∙ sym (append_assoc text front (10 ∷ []))) in
    subst Ended (append_assoc text (f x) (flat_map f xs)) (ended_joined f each (text ++ f x) more xs)

ended_written : (card : Card) → Ended (written card)
unfolding written
ended_written card =
    let head = line_text (head_text card.head) in
    let each : (four : Four) → Ended (line_text four) = λ four. (bare four, line_bare four) in
    let labs = ended_joined lab_line_text (λ lab. each (lab_text lab)) head (each (head_text card.head)) card.labs in
    subst Ended (append_assoc head (flat_map lab_line_text card.labs) (flat_map row_line_text card.rows))
    (ended_joined row_line_text (λ row. each (row_text row)) _ labs card.rows)

card_sound : (lines : List (List ℕ)) (card : Card) → card_in lines ≡ Ok card
    → Fits card × Whole card.rows × (written card ≡ flat_map (ended_by 10) lines)
unfolding labs_fit
card_sound [] card is = never_ok _ _ _ is
card_sound (first ∷ rest) card is =
    let (head, head-is, then-a) = then_steps (head_line first) (λ head. and_then (lines_in (head_only head) 2 rest) whole_in) card is in
    let (last, last-is, then-b) = then_steps (lines_in (head_only head) 2 rest) whole_in card then-a in
    let (head-text, head-fits) = head_line_sound first head head-is in
    let (fits, text) = lines_sound (head_only head) (record { head = head-fits; labs = refl; rows = tt; count = omega arith }) 2 rest last last-is in
    let (same, whole) = whole_sound last card then-b in
    subst (λ card. Fits card × Whole card.rows × (written card ≡ flat_map (ended_by 10) (first ∷ rest))) same
    (fits, whole fits.count, text ∙ ap (λ t. t ++ flat_map (ended_by 10) rest) (written_head head ∙ head-text))

well_formed : (card : Card) → Fits card → Whole card.rows → length (written card) ≤ 32768 → WellFormed card
well_formed card fits whole short =
    let rows = card.rows in
    let words = card.head.words in
    record {
      reader = fits.head.reader;
      labs = fits.labs;
      constants = All-weaker (Fitting words) (λ row. is32 row ≡ true) (λ row fitting. fitting.wide) rows fits.rows;
      routine =
          within_from rows words words whole.count
          (and_from _ _ (and_from _ _ (le-leb 1 words fits.head.some) (le-leb words 4096 fits.head.few)) (eq-eqb words words refl))
          (every_from (λ _ row. fields_fit words row) rows (λ j h. (All-get_or (Fitting words) rows j Halt h fits.rows).fields)) whole.targets whole.last;
      short = short;
    }

sound : (text : List ℕ) (card : Card) → read_card text ≡ Ok card → WellFormed card × (text ≡ written card)
unfolding read_card
sound text card is =
    let (long, then-a) = passed (extent_fits text) _ _ card is in
    let (ended, short) = long_ended text long in
    let (fits, whole, text-is) = card_sound (lines_of text) card then-a in
    let same : text ≡ written card = sym (text-is ∙ lines_rejoined text ended) in
    (well_formed card fits whole (subst (λ t. length t ≤ 32768) same short), same)

-- and what a well-formed card is made of can be read
fits_from : (card : Card) → WellFormed card → Fits card
fits_from card well =
    let rows = card.rows in
    let words = card.head.words in
    record {
      head = record { reader = well.reader; some = some_words rows words words well.routine; few = few_words rows words words well.routine };
      labs = well.labs;
      rows =
          All-from_get_or (Fitting words) rows Halt
          (λ i h. record {
            fields = fields_fit_lem rows words words well.routine i h;
            wide = All-get_or (λ row. is32 row ≡ true) rows i Halt h well.constants;
          });
      count = few_rows rows words words well.routine;
    }

whole_from : (card : Card) → WellFormed card → Whole card.rows
whole_from card well =
    let (count, _, _, targets, last) = within_parts card.rows card.head.words card.head.words well.routine in
    record { count = count; targets = targets; last = last }

complete : (card : Card) → WellFormed card → read_card (written card) ≡ Ok card
unfolding read_card written
complete card well =
    let fits = fits_from card well in
    let (head_read, clear) = head_line_read card.head fits.head in
    let rest = flat_map lab_line_text card.labs ++ flat_map row_line_text card.rows in
    cond-true _ _ _ (ended_long (written card) (ended_written card) well.short)
    ∙ ap card_in (line_found (head_text card.head) rest clear)
    ∙ ap (λ r. and_then r (λ head. and_then (lines_in (head_only head) 2 (lines_of rest)) whole_in)) head_read
    ∙ ap (λ r. and_then r whole_in) (lines_read card fits 2) ∙ whole_ok card (whole_from card well)

pub reading_laws : ReadingLaws
reading_laws = record { sound = sound; complete = complete; first = first_fault }

-- so what the rules make of a text is what reading promises of it
pub reads_by : (text : List ℕ) (rows rows' : List Row) (labels labels' : List ℕ) (r : Result Accepted CardRefusal)
    → Ends text rows labels (read_card text) r rows' labels' → Reads text rows labels r rows' labels'
reads_by text rows rows' labels labels' r ends = reads reading_laws text rows rows' labels labels' r ends
