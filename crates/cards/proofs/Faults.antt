-- Which fault is told: the first, whatever follows its line.
use Rattle.std.proofs.Common.{◌≡◌, ℕ, suc, ◌+◌, ◌-◌, true, false, eqb, leb, List, [], ◌∷◌, length, take, Some, None, Ok, Err, codes, Option, Result, sym, refl, ap, ◌∙◌, subst, ⊎_elim, arith}
use Rattle.std.specs.Option.{ok_or}
use Rattle.std.specs.Str.{bytes_eq}
use Rattle.std.proofs.lemmas.Bool.{both_ways, cond-true, cond-false, cond_both, cases_Bool}
use Rattle.refusals.specs.declared.cards.CardRefusal.{CardRefusal}
use Rattle.refusals.specs.declared.cards.CardRefusal.TheVariants as refusal
use Rattle.refusals.specs.ToldOfCards.{told_of}
use Rattle.routine.specs.declared.rows.Row.{Row}
use Rattle.routine.specs.Limits.{target_fits, last_ends}
use Rattle.cards.specs.declared.heads.Head.{Head}
use Rattle.cards.specs.declared.rows.Fault.{Fault}
use Rattle.cards.specs.declared.words.Word.{Word}
use Rattle.cards.specs.Text.{Four, lines_of, fields_of, four_of}
use Rattle.cards.specs.Fields.{part_of}
use Rattle.cards.specs.Words.{word_of}
use Rattle.cards.specs.Rows.{map_ok, row_in}
use Rattle.cards.specs.Numbers.{plain_in}
use Rattle.cards.specs.Heads.{and_then, kind_named, label_limit, head_in, lab_in}
use Rattle.cards.specs.Cards.{Card}
use Rattle.cards.specs.Reading.{covered_by, head_only, with_lab, with_row, counted_fields, head_line, row_line, line_by_word, line_in, lines_in, first_failing, whole_in, extent_fits, card_in, read_card}
use Rattle.cards.specs.Laws.{of_line}
use Rattle.cards.proofs.Outcomes.{never_ok}
use Rattle.cards.proofs.Wholes.{on_failing}

-- so much is known of every refusal that a step may give
abbrev Tells : {A : Type 0} → (CardRefusal → Type 0) → Result A CardRefusal → Type 0
Tells P r = (e : CardRefusal) → r ≡ Err e → P e

ok_tells : {A : Type 0} (P : CardRefusal → Type 0) (a : A) → Tells P (Ok a)
ok_tells P a e is = never_ok _ _ _ (sym is)

err_tells : {A : Type 0} (P : CardRefusal → Type 0) (d : CardRefusal) → P d → Tells {A = A} P (Err d)
err_tells P d told e is = let same : d ≡ e = cc in subst P same told

-- it names line n
abbrev Names : {A : Type 0} → ℕ → Result A CardRefusal → Type 0
Names n r = Tells (λ e. (told_of e).line ≡ n) r

ok_names : {A : Type 0} (n : ℕ) (a : A) → Names n (Ok a)
ok_names n a = ok_tells (λ e. (told_of e).line ≡ n) a

err_names : {A : Type 0} (n : ℕ) (d : CardRefusal) → (told_of d).line ≡ n → Names {A = A} n (Err d)
err_names n d told = err_tells (λ e. (told_of e).line ≡ n) d told

then_names : {A B : Type 0} (n : ℕ) (r : Result A CardRefusal) (next : A → Result B CardRefusal) → Names n r → ((a : A) → Names n (next a)) → Names n (and_then r next)
then_names n (Ok a) next first rest = rest a
then_names n (Err d) next first rest = err_names n d (first d refl)

or_names : {A : Type 0} (n : ℕ) (found : Option A) (d : CardRefusal) → (told_of d).line ≡ n → Names n (ok_or found d)
or_names n None d told = err_names n d told
or_names n (Some a) d told = ok_names n a

map_names : {A B : Type 0} (n : ℕ) (r : Result A CardRefusal) (f : A → B) → Names n r → Names n (map_ok r f)
map_names n (Ok a) f names = ok_names n (f a)
map_names n (Err d) f names = err_names n d (names d refl)

-- the fields of a head and of a `lab` line
head_fields : (four : Four) → Names 1 (head_in four)
head_fields four =
    cond_both (bytes_eq four.first (codes "card")) _ _ (Names 1)
    (λ _. then_names 1 _ _ (or_names 1 (kind_named four.second) (refusal.Head 2) refl) (λ kind.
    then_names 1 _ _ (or_names 1 (plain_in 0 (label_limit kind) four.third) (refusal.Head 3) refl) (λ reader.
    then_names 1 _ _ (or_names 1 (plain_in 1 4096 four.fourth) (refusal.Head 4) refl) (λ words. ok_names 1 _))))
    (λ _. err_names 1 (refusal.Head 1) refl)

lab_fields : (head : Head) (covered n : ℕ) (four : Four) → Names n (lab_in head covered n four)
lab_fields head covered n four =
    then_names n _ _ (or_names n (plain_in covered (head.words - 1) four.second) (refusal.Lab n 2) refl) (λ from.
    then_names n _ _ (or_names n (plain_in 1 (head.words - from) four.third) (refusal.Lab n 3) refl) (λ count.
    then_names n _ _ (or_names n (plain_in 0 (label_limit head.kind) four.fourth) (refusal.Lab n 4) refl) (λ label. ok_names n _)))

row_names : (card : Card) (n : ℕ) (read : Result Row Fault)
    → Names n (elim read [ Ok row ↦ Ok (with_row card row) | Err fault ↦ Err (refusal.RowField n fault.field fault.cause) ])
row_names card n (Ok row) = ok_names n (with_row card row)
row_names card n (Err fault) = err_names n (refusal.RowField n fault.field fault.cause) refl

row_line_names : (card : Card) (n : ℕ) (four : Four) (word : Word) → Names n (row_line card n word four)
row_line_names card n four word =
    cond_both (leb 256 (length card.rows)) _ _ (Names n) (λ _. err_names n (refusal.ExtraRow n) refl) (λ _. row_names card n (row_in card.head.words word four))

by_word_names : (card : Card) (n : ℕ) (four : Four) → Names n (line_by_word card n four)
by_word_names card n four =
    cond_both (bytes_eq four.first (codes "lab")) _ _ (Names n)
    (λ _. cond_both (eqb (length card.rows) 0) _ _ (Names n) (λ _. map_names n _ (with_lab card) (lab_fields card.head (covered_by card.labs) n four)) (λ _. err_names n (refusal.Lab n 1) refl))
    (λ _. then_names n _ _ (or_names n (word_of (part_of four.first)) (refusal.UnknownWord n) refl) (row_line_names card n four))

line_names : (card : Card) (n : ℕ) (line : List ℕ) → Names n (line_in card n line)
unfolding line_in
line_names card n line = then_names n (counted_fields n line) (line_by_word card n) (or_names n (four_of (fields_of line)) (refusal.FieldCount n) refl) (by_word_names card n)

-- lists that begin alike
first_alike : {X : Type 0} (x : X) (others xs : List X) (n : ℕ) → take (suc n) others ≡ take (suc n) (x ∷ xs)
    → (rest : List X) × (others ≡ x ∷ rest) × (take n rest ≡ take n xs)
first_alike x [] xs n alike = let no : ◌≡◌ {A = ℕ} 0 1 = cc in absurd (omega arith)
first_alike x (other ∷ rest) xs n alike = let same : other ≡ x = cc in (rest, ap (λ y. y ∷ rest) same, cc)

-- a refusal among the lines from line n on: it names its line, and is given whatever follows that line
record Prompt (card : Card) (n : ℕ) (lines : List (List ℕ)) (e : CardRefusal) : Type 0 where
  after : ℕ
  named : (told_of e).line ≡ n + after
  same : (others : List (List ℕ)) → take (suc after) others ≡ take (suc after) lines → lines_in card n others ≡ Err e

-- the first of the lines, by what is made of it
step_prompt : (card : Card) (n : ℕ) (line : List ℕ) (lines : List (List ℕ)) (e : CardRefusal) (step : Result Card CardRefusal) → line_in card n line ≡ step
    → ((next : Card) → lines_in next (suc n) lines ≡ Err e → Prompt next (suc n) lines e)
    → and_then step (λ next. lines_in next (suc n) lines) ≡ Err e → Prompt card n (line ∷ lines) e
unfolding lines_in
step_prompt card n line lines e (Err d) is more refused =
    let told : line_in card n line ≡ Err e = is ∙ refused in
    record {
      after = 0;
      named = line_names card n line e told ∙ omega arith;
      same = λ others alike.
          let (rest, begins, _) = first_alike line others lines 0 alike in
          ap (lines_in card n) begins ∙ ap (λ step. and_then step (λ next. lines_in next (suc n) rest)) told;
    }
step_prompt card n line lines e (Ok next) is more refused =
    let prompt = more next refused in
    record {
      after = suc prompt.after;
      named = prompt.named ∙ omega arith;
      same = λ others alike.
          let (rest, begins, alike-after) = first_alike line others lines (suc prompt.after) alike in
          ap (lines_in card n) begins ∙ ap (λ step. and_then step (λ next. lines_in next (suc n) rest)) is ∙ prompt.same rest alike-after;
    }

lines_prompt : (card : Card) (n : ℕ) (lines : List (List ℕ)) (e : CardRefusal) → lines_in card n lines ≡ Err e → Prompt card n lines e
unfolding lines_in
lines_prompt card n [] e refused = never_ok _ _ _ (sym refused)
lines_prompt card n (line ∷ lines) e refused =
    step_prompt card n line lines e (line_in card n line) refl (λ next. lines_prompt next (suc n) lines e) refused

head_names : (line : List ℕ) → Names 1 (head_line line)
head_names line =
    then_names 1 (counted_fields 1 line) head_in (or_names 1 (four_of (fields_of line)) (refusal.FieldCount 1) refl) head_fields

-- the rows together have no fault that lies in one line
abbrev NoLine : CardRefusal → Type 0
NoLine e = of_line (told_of e).layer ≡ false

failing_tells : (card : Card) (found : Option ℕ) → Tells NoLine (on_failing card found)
failing_tells card None = cond_both (last_ends card.rows) _ _ (Tells NoLine) (λ _. ok_tells NoLine card) (λ _. err_tells NoLine _ refl)
failing_tells card (Some i) = err_tells NoLine _ refl

whole_tells : (card : Card) → Tells NoLine (whole_in card)
whole_tells card =
    cond_both (eqb (length card.rows) 0) _ _ (Tells NoLine) (λ _. err_tells NoLine _ refl)
    (λ _. failing_tells card (first_failing (target_fits (length card.rows)) 0 card.rows))

-- the lines of a card after its head, by what is made of them
rest_first : (head : Head) (first : List ℕ) (rest others : List (List ℕ)) (e : CardRefusal) → head_line first ≡ Ok head → of_line (told_of e).layer ≡ true
    → take (told_of e).line others ≡ take (told_of e).line (first ∷ rest) → (read : Result Card CardRefusal) → lines_in (head_only head) 2 rest ≡ read
    → and_then read whole_in ≡ Err e → card_in others ≡ Err e
rest_first head first rest others e headed lies alike (Ok card) is refused = absurd (both_ways _ (whole_tells card e refused) lies)
rest_first head first rest others e headed lies alike (Err d) is refused =
    let told : lines_in (head_only head) 2 rest ≡ Err e = let same : d ≡ e = cc in is ∙ ap Err same in
    let prompt = lines_prompt (head_only head) 2 rest e told in
    let line : (told_of e).line ≡ suc (suc prompt.after) = prompt.named ∙ omega arith in
    let (rest_of, begins, alike-after) = first_alike first others rest (suc prompt.after) (subst (λ n. take n others ≡ take n (first ∷ rest)) line alike) in
    ap card_in begins ∙ ap (λ r. and_then r (λ head. and_then (lines_in (head_only head) 2 rest_of) whole_in)) headed
    ∙ ap (λ r. and_then r whole_in) (prompt.same rest_of alike-after)

head_first : (first : List ℕ) (rest others : List (List ℕ)) (e : CardRefusal) → of_line (told_of e).layer ≡ true
    → take (told_of e).line others ≡ take (told_of e).line (first ∷ rest) → (read : Result Head CardRefusal) → head_line first ≡ read
    → and_then read (λ head. and_then (lines_in (head_only head) 2 rest) whole_in) ≡ Err e → card_in others ≡ Err e
head_first first rest others e lies alike (Ok head) is refused =
    rest_first head first rest others e is lies alike (lines_in (head_only head) 2 rest) refl refused
head_first first rest others e lies alike (Err d) is refused =
    let told : head_line first ≡ Err e = let same : d ≡ e = cc in is ∙ ap Err same in
    let (rest_of, begins, _) = first_alike first others rest 0 (subst (λ n. take n others ≡ take n (first ∷ rest)) (head_names first e told) alike) in
    ap card_in begins ∙ ap (λ r. and_then r (λ head. and_then (lines_in (head_only head) 2 rest_of) whole_in)) told

card_first : (lines others : List (List ℕ)) (e : CardRefusal) → card_in lines ≡ Err e → of_line (told_of e).layer ≡ true
    → take (told_of e).line others ≡ take (told_of e).line lines → card_in others ≡ Err e
card_first [] others e refused lies alike = absurd (both_ways _ (err_tells {A = Card} NoLine refusal.Extent refl e refused) lies)
card_first (first ∷ rest) others e refused lies alike = head_first first rest others e lies alike (head_line first) refl refused

pub first_fault : (text : List ℕ) (e : CardRefusal) → read_card text ≡ Err e → of_line (told_of e).layer ≡ true
    → (other : List ℕ) → extent_fits other ≡ true → take (told_of e).line (lines_of other) ≡ take (told_of e).line (lines_of text)
    → read_card other ≡ Err e
unfolding read_card
first_fault text e refused lies other long alike =
    ⊎_elim
    (λ fits. cond-true (extent_fits other) _ _ long ∙ card_first (lines_of text) (lines_of other) e (sym (cond-true (extent_fits text) _ _ fits) ∙ refused) lies alike)
    (λ short. absurd (both_ways _ (err_tells {A = Card} NoLine refusal.Extent refl e (sym (cond-false (extent_fits text) _ _ short) ∙ refused)) lies))
    (cases_Bool (extent_fits text))
