-- Lemmas on a card's lines: reading one after the other is the inverse of writing them.
use Rattle.std.proofs.Common.{◌≡◌, ℕ, suc, ◌+◌, ◌<◌, ◌≤◌, true, eqb, leb, List, [], ◌∷◌, ◌++◌, length, Some, Ok, codes, sym, refl, ap, ◌∙◌, subst, ⊎_elim, arith}
use Rattle.std.specs.List.{flat_map, AllByRecursion}
use Rattle.std.specs.Option.{ok_or}
use Rattle.std.specs.Str.{bytes_eq}
use Rattle.std.proofs.ByRecursion.{All-push}
use Rattle.std.proofs.lemmas.Slice.Eq.{bytes_eq-Decides}
use Rattle.std.proofs.lemmas.List.Sums.{fold_push}
use Rattle.std.proofs.lemmas.List.{append_assoc, append-nil, length_push, flat_map_more, nil_from_length}
use Rattle.std.proofs.lemmas.Bool.{and_parts, and_from, eqb-true, leb-false, cond-true, cond-false, cases_Bool}
use Rattle.refusals.specs.declared.cards.CardRefusal.TheVariants as refusal
use Rattle.routine.specs.declared.rows.Row.{Row}
use Rattle.cards.specs.declared.heads.Head.{Head}
use Rattle.cards.specs.declared.heads.Lab.{Lab}
use Rattle.cards.specs.declared.words.Word.{Word}
use Rattle.cards.specs.Text.{Four, split, lines_of, fields_of, four_of}
use Rattle.cards.specs.Fields.{part_of}
use Rattle.cards.specs.Words.{name_of, word_of}
use Rattle.cards.specs.Rows.{row_in}
use Rattle.cards.specs.Heads.{and_then, head_in, lab_in}
use Rattle.cards.specs.Cards.{Card, line_text, head_text, lab_text, row_text, written, lab_fits, labs_fit}
use Rattle.cards.specs.Reading.{covered_from, covered_by, head_only, with_lab, with_row, counted_fields, head_line, lab_line, row_line, line_by_word, line_in, lines_in}
use Rattle.cards.proofs.Stepping.{lab_taken, row_taken}
use Rattle.cards.proofs.Outcomes.{same_ok, passed, passed_not, then_steps, mapped, map_step, there, there_then}
use Rattle.cards.proofs.RowLines.{ClearFour, Fitting, word_in, word_sound, name_read, row_name, row_sound, row_complete}
use Rattle.cards.proofs.LineTexts.{ended_by, bare, fields_rejoined, fields_found, line_found}
use Rattle.cards.proofs.HeadLines.{HeadFits, head_sound, head_complete, lab_sound, lab_complete}

-- a card that can be read so far
pub record Fits (card : Card) : Type 0 where
  pub head : HeadFits card.head
  pub labs : labs_fit card.head 0 card.labs ≡ true
  pub rows : AllByRecursion (Fitting card.head.words) card.rows
  pub count : length card.rows ≤ 256

-- one more `lab` line
labs_fit_push : (head : Head) (covered : ℕ) (labs : List Lab) (lab : Lab) → labs_fit head covered labs ≡ true
    → lab_fits head (covered_from covered labs) lab ≡ true → labs_fit head covered (labs ++ lab ∷ []) ≡ true
unfolding labs_fit
labs_fit_push head covered [] lab before fits = and_from _ _ fits refl
labs_fit_push head covered (first ∷ labs) lab before fits =
    let (here, more) = and_parts (lab_fits head covered first) (labs_fit head (first.from + first.count) labs) before in
    and_from _ _ here (labs_fit_push head (first.from + first.count) labs lab more fits)

-- the text of a `lab` line and of a row
abbrev pub lab_line_text : Lab → List ℕ
lab_line_text lab = line_text (lab_text lab)

abbrev pub row_line_text : Row → List ℕ
row_line_text row = line_text (row_text row)

-- one more line at the end of what is written
written_no_rows : (card : Card) → card.rows ≡ [] → written card ≡ line_text (head_text card.head) ++ flat_map lab_line_text card.labs
unfolding written
written_no_rows card none =
    let head = line_text (head_text card.head) in
    let labs = flat_map lab_line_text card.labs in
    ap (λ rows. head ++ (labs ++ flat_map row_line_text rows)) none ∙ ap (λ text. head ++ text) (append-nil labs)

pub written_head : (head : Head) → written (head_only head) ≡ line_text (head_text head)
written_head head = written_no_rows (head_only head) refl ∙ append-nil (line_text (head_text head))

written_lab : (card : Card) (lab : Lab) → card.rows ≡ [] → written (with_lab card lab) ≡ written card ++ lab_line_text lab
written_lab card lab none =
    written_no_rows (with_lab card lab) none ∙ sym (flat_map_more lab_line_text (line_text (head_text card.head)) card.labs lab)
    ∙ ap (λ text. text ++ lab_line_text lab) (sym (written_no_rows card none))

written_row : (card : Card) (row : Row) → written (with_row card row) ≡ written card ++ row_line_text row
unfolding written
written_row card row =
    let head = line_text (head_text card.head) in
    let labs = flat_map lab_line_text card.labs in
    sym (append_assoc head labs _) ∙ sym (flat_map_more row_line_text (head ++ labs) card.rows row)
    ∙ ap (λ text. text ++ row_line_text row) (append_assoc head labs (flat_map row_line_text card.rows))

-- what lines that are accepted add
abbrev Adds : Card → List ℕ → Card → Type 0
Adds card text next = Fits next × (written next ≡ written card ++ text)

module _ (card : Card) (fits : Fits card) (n : ℕ) (line : List ℕ) (four : Four) (four_is : four_of (fields_of line) ≡ Some four) (next : Card) where
  lab_line_sound : four.first ≡ codes "lab" → lab_line card n four ≡ Ok next → Adds card (ended_by 10 line) next
  lab_line_sound name is =
      let (none-eqb, then-a) = passed (eqb (length card.rows) 0) _ _ next is in
      let (lab, lab-is, same) = map_step (lab_in card.head (covered_by card.labs) n four) (with_lab card) next then-a in
      let (text, lab-fits) = lab_sound card.head fits.head (covered_by card.labs) n four lab name lab-is in
      let none = nil_from_length card.rows (eqb-true _ _ none-eqb) in
      subst (Adds card (ended_by 10 line)) same (
        record { head = fits.head; labs = labs_fit_push card.head 0 card.labs lab fits.labs lab-fits; rows = fits.rows; count = fits.count },
        written_lab card lab none ∙ ap (λ text. written card ++ text) (ap line_text (sym text) ∙ fields_rejoined line four four_is),
      )

  row_line_sound : (w : Word) → four.first ≡ name_of w → row_line card n w four ≡ Ok next → Adds card (ended_by 10 line) next
  row_line_sound w name is =
      let (room-leb, then-a) = passed_not (leb 256 (length card.rows)) _ _ next is in
      let (row, row_is, same) =
      mapped (with_row card) (λ fault. refusal.RowField n fault.field fault.cause) (row_in card.head.words w four) next then-a in
      let (text, row_fits) = row_sound card.head.words fits.head.some fits.head.few w four row name row_is in
      let room : length card.rows < 256 = leb-false _ _ room-leb in
      subst (Adds card (ended_by 10 line)) same (
        record {
          head = fits.head;
          labs = fits.labs;
          rows = All-push (Fitting card.head.words) card.rows row fits.rows row_fits;
          count = rw length_push (omega arith);
        },
        written_row card row ∙ ap (λ text. written card ++ text) (ap line_text (sym text) ∙ fields_rejoined line four four_is),
      )

  by_word_sound : line_by_word card n four ≡ Ok next → Adds card (ended_by 10 line) next
  by_word_sound is =
      ⊎_elim (λ lab. lab_line_sound ((bytes_eq-Decides four.first (codes "lab")).0 lab) (sym (cond-true _ _ _ lab) ∙ is))
      (λ no-lab.
      let (w, w-is, then-a) =
      then_steps (ok_or (word_of (part_of four.first)) (refusal.UnknownWord n)) (λ w. row_line card n w four) next (sym (cond-false _ _ _ no-lab) ∙ is) in
      row_line_sound w (word_sound four.first w (there (refusal.UnknownWord n) (word_of (part_of four.first)) w w-is)) then-a)
      (cases_Bool (bytes_eq four.first (codes "lab")))

-- the fields of a line where they were counted
counted_four : (n : ℕ) (line : List ℕ) (four : Four) → counted_fields n line ≡ Ok four → four_of (fields_of line) ≡ Some four
counted_four n line four is = there (refusal.FieldCount n) (four_of (fields_of line)) four is

line_sound : (card : Card) → Fits card → (n : ℕ) (line : List ℕ) (next : Card) → line_in card n line ≡ Ok next → Adds card (ended_by 10 line) next
unfolding line_in
line_sound card fits n line next is =
    let (four, counted, then-a) = then_steps (counted_fields n line) (line_by_word card n) next is in
    by_word_sound card fits n line four (counted_four n line four counted) next then-a

pub lines_sound : (card : Card) → Fits card → (n : ℕ) (lines : List (List ℕ)) (last : Card) → lines_in card n lines ≡ Ok last
    → Adds card (flat_map (ended_by 10) lines) last
unfolding lines_in
lines_sound card fits n [] last is = subst (Adds card []) (same_ok card last is) (fits, sym (append-nil (written card)))
lines_sound card fits n (line ∷ lines) last is =
    let (next, next-is, then-a) = then_steps (line_in card n line) (λ next. lines_in next (suc n) lines) last is in
    let (next_fits, next-written) = line_sound card fits n line next next-is in
    let (last_Fits, last_written) = lines_sound next next_fits (suc n) lines last then-a in
    let more = flat_map (ended_by 10) lines in
    (last_Fits, last_written ∙ ap (λ text. text ++ more) next-written ∙ append_assoc (written card) (ended_by 10 line) more)

-- the first line
pub head_line_sound : (line : List ℕ) (head : Head) → head_line line ≡ Ok head → (line_text (head_text head) ≡ ended_by 10 line) × HeadFits head
head_line_sound line head is =
    let (four, counted, then-a) = then_steps (counted_fields 1 line) head_in head is in
    let (text, fits) = head_sound four head then-a in
    (ap line_text (sym text) ∙ fields_rejoined line four (counted_four 1 line four counted), fits)

-- clear fields are counted as these four
count_four : (n : ℕ) (four : Four) → ClearFour four → counted_fields n (bare four) ≡ Ok four
count_four n four clear = ap (λ found. ok_or found (refusal.FieldCount n)) (fields_found four clear)

-- a line of four fields that are accepted is read as what they add
line_read : (card : Card) (n : ℕ) (four : Four) (rest : List ℕ) (next : Card) → ClearFour four → line_by_word card n four ≡ Ok next
    → lines_in card n (lines_of (line_text four ++ rest)) ≡ lines_in next (suc n) (lines_of rest)
unfolding line_in lines_in
line_read card n four rest next clear is =
    ap (lines_in card n) (line_found four rest clear)
    ∙ ap (λ r. and_then (and_then r (line_by_word card n)) (λ next. lines_in next (suc n) (lines_of rest))) (count_four n four clear)
    ∙ ap (λ r. and_then r (λ next. lines_in next (suc n) (lines_of rest))) is

-- a card of these `lab` lines and rows
abbrev made_of : Head → List Lab → List Row → Card
made_of head labs rows = record { head = head; labs = labs; rows = rows }

-- the fields of a `lab` line and of a row are accepted where they can be read
lab_read : (card : Card) (n : ℕ) (lab : Lab) → card.rows ≡ [] → lab_in card.head (covered_by card.labs) n (lab_text lab) ≡ Ok lab
    → line_by_word card n (lab_text lab) ≡ Ok (with_lab card lab)
lab_read card n lab none read =
    lab_taken card n (lab_text lab) lab (ap length none) read

row_read : (card : Card) (n : ℕ) (row : Row) → length card.rows < 256 → row_in card.head.words (word_in row) (row_text row) ≡ Ok row
    → line_by_word card n (row_text row) ≡ Ok (with_row card row)
row_read card n row room read =
    let (name-is, no-lab, _) = name_read (word_in row) in
    cond-false _ _ _ (ap (λ name. bytes_eq name (codes "lab")) (row_name row) ∙ no-lab)
    ∙ there_then (refusal.UnknownWord n) _ (word_in row) (λ word. row_line card n word (row_text row))
    (ap (λ name. word_of (part_of name)) (row_name row) ∙ name-is)
    ∙ row_taken card n (word_in row) (row_text row) row room read

-- all `lab` lines, after those before them
labs_read : (head : Head) → HeadFits head → (before labs : List Lab) (n : ℕ) (rest : List ℕ) → labs_fit head (covered_by before) labs ≡ true
    → (m : ℕ) × (lines_in (made_of head before []) n (lines_of (flat_map lab_line_text labs ++ rest)) ≡ lines_in (made_of head (before ++ labs) []) m (lines_of rest))
unfolding labs_fit
labs_read head head-fits before [] n rest fits = (n, ap (λ labs. lines_in (made_of head labs []) n (lines_of rest)) (sym (append-nil before)))
labs_read head head-fits before (lab ∷ labs) n rest fits =
    let (here, more) = and_parts (lab_fits head (covered_by before) lab) (labs_fit head (lab.from + lab.count) labs) fits in
    let (read, clear) = lab_complete head head-fits (covered_by before) n lab here in
    let (m, then-a) =
    labs_read head head-fits (before ++ lab ∷ []) labs (suc n) rest (ap (λ covered. labs_fit head covered labs) (fold_push _ 0 before lab) ∙ more) in
    let card = made_of head before [] in (
      m,
      ap (λ text. lines_in card n (lines_of text)) (append_assoc (lab_line_text lab) (flat_map lab_line_text labs) rest)
          ∙ line_read card n (lab_text lab) (flat_map lab_line_text labs ++ rest) (with_lab card lab) clear (lab_read card n lab refl read)
          ∙ then-a ∙ ap (λ labs. lines_in (made_of head labs []) m (lines_of rest)) (append_assoc before (lab ∷ []) labs),
    )

-- all rows, after those before them
rows_read : (head : Head) → HeadFits head → (labs : List Lab) (before rows : List Row) (n : ℕ) → AllByRecursion (Fitting head.words) rows
    → length before + length rows ≤ 256 → lines_in (made_of head labs before) n (lines_of (flat_map row_line_text rows)) ≡ Ok (made_of head labs (before ++ rows))
unfolding lines_in split
rows_read head head-fits labs before [] n fits room = ap (λ rows. Ok (made_of head labs rows)) (sym (append-nil before))
rows_read head head-fits labs before (row ∷ rows) n (here, more) room =
    let (read, clear) = row_complete head.words head-fits.some head-fits.few row here in
    let card = made_of head labs before in
    line_read card n (row_text row) (flat_map row_line_text rows) (with_row card row) clear (row_read card n row (omega arith) read)
    ∙ rows_read head head-fits labs (before ++ row ∷ []) rows (suc n) more (rw length_push (omega arith))
    ∙ ap (λ rows. Ok (made_of head labs rows)) (append_assoc before (row ∷ []) rows)

pub head_line_read : (head : Head) → HeadFits head → (head_line (bare (head_text head)) ≡ Ok head) × ClearFour (head_text head)
head_line_read head fits =
    let (read, clear) = head_complete head fits in
    (ap (λ r. and_then r head_in) (count_four 1 (head_text head) clear) ∙ read, clear)

-- all lines after the head
pub lines_read : (card : Card) → Fits card → (n : ℕ)
    → lines_in (head_only card.head) n (lines_of (flat_map lab_line_text card.labs ++ flat_map row_line_text card.rows)) ≡ Ok card
lines_read card fits n =
    let (m, labs-are) = labs_read card.head fits.head [] card.labs n (flat_map row_line_text card.rows) fits.labs in
    labs-are ∙ rows_read card.head fits.head card.labs [] card.rows m fits.rows (omega arith)
