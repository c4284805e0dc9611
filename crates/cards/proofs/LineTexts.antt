-- Lemmas on lines: a text is its lines put together, and a line is its fields.
use Rattle.std.proofs.Common.{◌≡◌, ℕ, true, cond, eqb, List, [], ◌∷◌, ◌++◌, Some, sym, refl, ap, ◌∙◌, ⊎_elim, arith}
use Rattle.std.specs.List.{flat_map}
use Rattle.std.proofs.ByRecursion.{All-append}
use Rattle.std.proofs.lemmas.List.{append_assoc, append-nil, same_from_push}
use Rattle.std.proofs.lemmas.Bool.{cond-true, cond-false, eq-eqb, eqb-true, cases_Bool}
use Rattle.cards.specs.Text.{Four, split, onto, Lacks, lines_of, fields_of, four_of}
use Rattle.cards.specs.Cards.{texts, line_text}
use Rattle.cards.proofs.Outcomes.{never_some}
use Rattle.cards.proofs.Splits.{split_at, split_last, three_fields, some_part}
use Rattle.cards.proofs.Numerals.{all_clear, clear_lacks}
use Rattle.cards.proofs.RowLines.{ClearFour}

-- a part with the byte that ends it
abbrev pub ended_by : ℕ → List ℕ → List ℕ
ended_by b part = part ++ b ∷ []

-- the parts of a text, put together
rejoined : (b : ℕ) (text : List ℕ) → flat_map (ended_by b) (split b ([] ∷ []) text) ≡ text ++ b ∷ []
unfolding split
rejoined b [] = refl
rejoined b (x ∷ text) =
    ⊎_elim
    (λ here. ap (flat_map (ended_by b)) (cond-true (eqb x b) _ _ here) ∙ ap (λ rest. b ∷ rest) (rejoined b text)
    ∙ ap (λ y. y ∷ (text ++ b ∷ [])) (sym (eqb-true x b here)))
    (λ not-here.
    let (part, parts, is) = some_part b text in
    ap (flat_map (ended_by b)) (cond-false (eqb x b) _ _ not-here ∙ ap (onto x) is) ∙ ap (λ rest. x ∷ rest) (ap (flat_map (ended_by b)) (sym is) ∙ rejoined b text))
    (cases_Bool (eqb x b))

-- where the text ends with the byte, nothing follows it
split_ended : (b : ℕ) (text : List ℕ) → split b [] (text ++ b ∷ []) ≡ split b ([] ∷ []) text
unfolding split
split_ended b [] = cond-true (eqb b b) _ _ (eq-eqb b b refl)
split_ended b (x ∷ text) = ap (λ parts. cond (eqb x b) ([] ∷ parts) (onto x parts)) (split_ended b text)

-- a text that ends with byte 10
abbrev pub Ended : List ℕ → Type 0
Ended text = (front : List ℕ) × (text ≡ front ++ 10 ∷ [])

pub lines_rejoined : (text : List ℕ) → Ended text → flat_map (ended_by 10) (lines_of text) ≡ text
lines_rejoined text (front, is) =
    ap (λ t. flat_map (ended_by 10) (lines_of t)) is ∙ ap (flat_map (ended_by 10)) (split_ended 10 front) ∙ rejoined 10 front ∙ sym is

-- a line without the byte that ends it
abbrev pub bare : Four → List ℕ
bare four = four.first ++ 44 ∷ (four.second ++ 44 ∷ (four.third ++ 44 ∷ four.fourth))

bare_ended : (four : Four) (b : ℕ)
    → four.first ++ 44 ∷ (four.second ++ 44 ∷ (four.third ++ 44 ∷ (four.fourth ++ b ∷ []))) ≡ bare four ++ b ∷ []
bare_ended four b = simp append_assoc

pub line_bare : (four : Four) → line_text four ≡ bare four ++ 10 ∷ []
line_bare four = bare_ended four 10

four_parts : (parts : List (List ℕ)) (four : Four) → four_of parts ≡ Some four
    → parts ≡ four.first ∷ four.second ∷ four.third ∷ four.fourth ∷ []
four_parts [] four is = never_some _ four is
four_parts (a ∷ []) four is = never_some _ four is
four_parts (a ∷ b ∷ []) four is = never_some _ four is
four_parts (a ∷ b ∷ c ∷ []) four is = never_some _ four is
four_parts (a ∷ b ∷ c ∷ d ∷ []) four is =
    let same : texts a b c d ≡ four = cc in ap (λ four. four.first ∷ four.second ∷ four.third ∷ four.fourth ∷ []) same
four_parts (a ∷ b ∷ c ∷ d ∷ e ∷ more) four is = never_some _ four is

pub fields_rejoined : (line : List ℕ) (four : Four) → four_of (fields_of line) ≡ Some four → line_text four ≡ line ++ 10 ∷ []
fields_rejoined line four is =
    let whole : bare four ++ 44 ∷ [] ≡ line ++ 44 ∷ [] =
    sym (bare_ended four 44) ∙ simp (append_assoc, append-nil) at (ap (flat_map (ended_by 44)) (sym (four_parts (fields_of line) four is)) ∙ rejoined 44 line) in
    line_bare four ∙ ap (ended_by 10) (same_from_push (bare four) line 44 44 whole).0

-- a line of clear fields is read as these fields
pub fields_found : (four : Four) → ClearFour four → four_of (fields_of (bare four)) ≡ Some four
fields_found four (a, b, c, d) =
    ap four_of (three_fields (bare four) four.first _ four.second _ four.third four.fourth refl (clear_lacks _ a).1 refl (clear_lacks _ b).1
    refl (clear_lacks _ c).1 ∙ ap (λ fields. four.first ∷ four.second ∷ four.third ∷ fields) (split_last 44 four.fourth (clear_lacks _ d).1))

-- and nothing in it ends it before its end
bare_lacks : (four : Four) → ClearFour four → Lacks 10 (bare four)
bare_lacks four (a, b, c, d) =
    let field : (text rest : List ℕ) → all_clear text ≡ true → Lacks 10 rest → Lacks 10 (text ++ 44 ∷ rest) =
    λ text rest clear lacks. All-append _ text (44 ∷ rest) (clear_lacks text clear).0 (λ same. omega arith, lacks) in
    field _ _ a (field _ _ b (field _ _ c (clear_lacks _ d).0))

pub line_found : (four : Four) (rest : List ℕ) → ClearFour four → lines_of (line_text four ++ rest) ≡ bare four ∷ lines_of rest
line_found four rest clear =
    ap lines_of (ap (λ text. text ++ rest) (line_bare four) ∙ append_assoc (bare four) (10 ∷ []) rest) ∙ split_at 10 [] (bare four) rest (bare_lacks four clear)
