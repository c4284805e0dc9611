-- Lemmas on a card's head and its `lab` lines: what is read is what is written.
use Rattle.std.proofs.Common.{◌≡◌, ℕ, ◌+◌, ◌-◌, ◌^◌, ◌<◌, ◌≤◌, true, leb, List, Some, None, Ok, codes, decimal, sym, refl, ap, ◌∙◌, subst, ⊎_elim, arith, lit<}
use Rattle.std.specs.Str.{bytes_eq}
use Rattle.std.proofs.lemmas.Slice.Eq.{bytes_eq-Decides}
use Rattle.std.proofs.lemmas.Bool.{and_parts, and_from, leb-true, le-leb, cond-true, cond-false, cases_Bool}
use Rattle.cards.specs.declared.heads.LabelKind.{LabelKind}
use Rattle.cards.specs.declared.heads.LabelKind.TheVariants.{Makers, Grades}
use Rattle.cards.specs.declared.heads.Head.{Head}
use Rattle.cards.specs.declared.heads.Lab.{Lab}
use Rattle.cards.specs.Text.{Four}
use Rattle.cards.specs.Heads.{kind_name, kind_named, label_limit, head_in, lab_in}
use Rattle.cards.specs.Cards.{head_text, lab_text, lab_fits}
use Rattle.cards.proofs.Outcomes.{same_ok, never_some, passed, then_steps, there, there_then}
use Rattle.cards.proofs.Numerals.{plain_sound, plain_complete, all_clear, decimal_clear}
use Rattle.cards.proofs.RowLines.{ClearFour, same_four}

-- the kind that was found has the name that was looked for
kind_sound : (name : List ℕ) (kind : LabelKind) → kind_named name ≡ Some kind → name ≡ kind_name kind
kind_sound name kind is =
    ⊎_elim
    (λ makers. let same : Makers ≡ kind = cc (cond-true _ (Some Makers) _ makers) in (bytes_eq-Decides name (kind_name Makers)).0 makers ∙ ap kind_name same)
    (λ no-makers. ⊎_elim
    (λ grades.
    let same : Grades ≡ kind = cc (cond-false _ (Some Makers) _ no-makers, cond-true _ (Some Grades) None grades) in
    (bytes_eq-Decides name (kind_name Grades)).0 grades ∙ ap kind_name same)
    (λ no-grades. never_some _ kind (sym (cond-false _ _ _ no-makers ∙ cond-false _ _ _ no-grades) ∙ is)) (cases_Bool (bytes_eq name (kind_name Grades))))
    (cases_Bool (bytes_eq name (kind_name Makers)))

-- a kind's name is read as the kind, and is clear
kind_read : (kind : LabelKind) → (kind_named (kind_name kind) ≡ Some kind) × (all_clear (kind_name kind) ≡ true)
kind_read Makers = (refl, refl)
kind_read Grades = (refl, refl)

-- a label is small enough for the lemmas on numbers
limit_small : (kind : LabelKind) → label_limit kind < 2 ^ 64
limit_small Makers = omega arith
limit_small Grades = omega arith

-- a head whose numbers are in their limits
pub record HeadFits (head : Head) : Type 0 where
  pub reader : head.reader ≤ label_limit head.kind
  pub some : 1 ≤ head.words
  pub few : head.words ≤ 4096

pub head_sound : (four : Four) (head : Head) → head_in four ≡ Ok head → (four ≡ head_text head) × HeadFits head
head_sound four head is =
    let (name, then-a) = passed _ _ _ _ is in
    let (kind, kind-is, then-b) = then_steps _ _ _ then-a in
    let (reader, reader-is, then-c) = then_steps _ _ _ then-b in
    let (words, words-is, then-d) = then_steps _ _ _ then-c in
    let (reader-text, _, reader-fits) = plain_sound 0 (label_limit kind) four.third reader (limit_small kind) (there _ _ _ reader-is) in
    let (words-text, some, few) = plain_sound 1 4096 four.fourth words (lit< tt) (there _ _ _ words-is) in
    let four_is =
    same_four four (codes "card") (kind_name kind) (decimal reader) (decimal words) ((bytes_eq-Decides four.first (codes "card")).0 name)
    (kind_sound four.second kind (there _ _ _ kind-is)) reader-text words-text in
    subst (λ head. (four ≡ head_text head) × HeadFits head) (same_ok (record { kind = kind; reader = reader; words = words }) head then-d)
    (four_is, record { reader = reader-fits; some = some; few = few })

pub head_complete : (head : Head) → HeadFits head → (head_in (head_text head) ≡ Ok head) × ClearFour (head_text head)
head_complete head fits =
    let small = limit_small head.kind in
    let reader-small : head.reader < 2 ^ 64 = omega arith in
    let words_small : head.words < 2 ^ 64 = omega arith in (
      there_then _ _ _ _ (kind_read head.kind).0
          ∙ there_then _ _ _ _ (plain_complete 0 (label_limit head.kind) head.reader small (omega arith) fits.reader)
          ∙ there_then _ _ _ _ (plain_complete 1 4096 head.words (lit< tt) fits.some fits.few),
      (refl, (kind_read head.kind).1, decimal_clear head.reader reader-small, decimal_clear head.words words_small),
    )

-- the end of a `lab` line's words
inside_words : (words from count : ℕ) → 1 ≤ count → count ≤ words - from → from + count ≤ words
inside_words words from count some fits = omega arith

module _ (head : Head) (head-fits : HeadFits head) (covered : ℕ) where
  last_small : head.words - 1 < 2 ^ 64
  last_small = omega arith

  rest_small : (from : ℕ) → head.words - from < 2 ^ 64
  rest_small from = omega arith

  pub lab_sound : (n : ℕ) (four : Four) (lab : Lab) → four.first ≡ codes "lab" → lab_in head covered n four ≡ Ok lab
      → (four ≡ lab_text lab) × (lab_fits head covered lab ≡ true)
  lab_sound n four lab name is =
      let (from, from_is, then-a) = then_steps _ _ _ is in
      let (count, count-is, then-b) = then_steps _ _ _ then-a in
      let (label, Label-is, then-c) = then_steps _ _ _ then-b in
      let (from-text, from_low, from-high) = plain_sound covered (head.words - 1) four.second from last_small (there _ _ _ from_is) in
      let (count-text, count_low, count-high) = plain_sound 1 (head.words - from) four.third count (rest_small from) (there _ _ _ count-is) in
      let (label-text, _, label-fits) = plain_sound 0 (label_limit head.kind) four.fourth label (limit_small head.kind) (there _ _ _ Label-is) in
      let four_is = same_four four (codes "lab") (decimal from) (decimal count) (decimal label) name from-text count-text label-text in
      subst (λ lab. (four ≡ lab_text lab) × (lab_fits head covered lab ≡ true)) (same_ok (record { from = from; count = count; label = label }) lab then-c) (
        four_is,
        and_from _ _ (and_from _ _ (and_from _ _ (le-leb covered from from_low) (le-leb 1 count count_low))
            (le-leb (from + count) head.words (inside_words head.words from count count_low count-high)))
            (le-leb label (label_limit head.kind) label-fits),
      )

  pub lab_complete : (n : ℕ) (lab : Lab) → lab_fits head covered lab ≡ true → (lab_in head covered n (lab_text lab) ≡ Ok lab) × ClearFour (lab_text lab)
  lab_complete n lab fits =
      let (front, label-leb) = and_parts _ (leb lab.label (label_limit head.kind)) fits in
      let (start, inside-leb) = and_parts _ (leb (lab.from + lab.count) head.words) front in
      let (from-leb, count-leb) = and_parts (leb covered lab.from) (leb 1 lab.count) start in
      let from_low = leb-true covered lab.from from-leb in
      let some = leb-true 1 lab.count count-leb in
      let inside = leb-true (lab.from + lab.count) head.words inside-leb in
      let label-fits = leb-true lab.label (label_limit head.kind) label-leb in
      let small = limit_small head.kind in
      let from-small : lab.from < 2 ^ 64 = omega arith in
      let count_small : lab.count < 2 ^ 64 = omega arith in
      let label_small : lab.label < 2 ^ 64 = omega arith in (
        there_then _ _ _ _ (plain_complete covered (head.words - 1) lab.from last_small from_low (omega arith))
            ∙ there_then _ _ _ _ (plain_complete 1 (head.words - lab.from) lab.count (rest_small lab.from) some (omega arith))
            ∙ there_then _ _ _ _ (plain_complete 0 (label_limit head.kind) lab.label small (omega arith) label-fits),
        (refl, decimal_clear lab.from from-small, decimal_clear lab.count count_small, decimal_clear lab.label label_small),
      )
