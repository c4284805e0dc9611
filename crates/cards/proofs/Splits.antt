-- Lemmas on the parts of a text.
use Rattle.std.proofs.Common.{◌≡◌, ℕ, ◌+◌, ◌-◌, ◌<◌, ◌≤◌, eqb, List, [], ◌∷◌, ◌++◌, length, get_or, take, drop, None, sym, refl, ap, ◌∙◌, subst, ⊎_elim, arith}
use Rattle.std.proofs.lemmas.List.{append_assoc, length-append, length-drop, length_push, take-append-drop, drop_more, drop-drop, drop_at, drop_all, take_rest}
use Rattle.std.proofs.lemmas.Bool.{cond-true, cond-false, eq-eqb, ne_eqb, cases_Bool}
use Rattle.cards.specs.Text.{split, onto, Lacks, lines_of, fields_of, four_of}

-- the first part ends at the first such byte
pub split_at : (b : ℕ) (last : List (List ℕ)) (part rest : List ℕ) → Lacks b part → split b last (part ++ b ∷ rest) ≡ part ∷ split b last rest
unfolding split
split_at b last [] rest lacks = cond-true (eqb b b) _ _ (eq-eqb b b refl)
split_at b last (x ∷ part) rest lacks =
    cond-false (eqb x b) _ _ (ne_eqb x b lacks.0) ∙ ap (onto x) (split_at b last part rest lacks.1)

-- a line's last field
pub split_last : (b : ℕ) (part : List ℕ) → Lacks b part → split b ([] ∷ []) part ≡ part ∷ []
unfolding split
split_last b [] lacks = refl
split_last b (x ∷ part) lacks = cond-false (eqb x b) _ _ (ne_eqb x b lacks.0) ∙ ap (onto x) (split_last b part lacks.1)

-- a text's last line, where nothing ends it
pub split_open : (b x : ℕ) (part : List ℕ) → Lacks b (x ∷ part) → split b [] (x ∷ part) ≡ (x ∷ part) ∷ []
unfolding split
split_open b x [] lacks = cond-false (eqb x b) _ _ (ne_eqb x b lacks.0)
split_open b x (y ∷ part) lacks = cond-false (eqb x b) _ _ (ne_eqb x b lacks.0) ∙ ap (onto x) (split_open b y part lacks.1)

-- there is always a part, where whatever follows the last such byte is one
pub some_part : (b : ℕ) (text : List ℕ) → (part : List ℕ) × (parts : List (List ℕ)) × (split b ([] ∷ []) text ≡ part ∷ parts)
unfolding split
some_part b [] = ([], [], refl)
some_part b (x ∷ text) =
    let (part, parts, is) = some_part b text in
    ⊎_elim (λ here. ([], split b ([] ∷ []) text, cond-true (eqb x b) _ _ here)) (λ not-here. (x ∷ part, parts, cond-false (eqb x b) _ _ not-here ∙ ap (onto x) is))
    (cases_Bool (eqb x b))

-- a text around its i-th byte, as the code reads it
pub around : (text : List ℕ) (i byte : ℕ) → i < length text → get_or text i 0 ≡ byte
    → text ≡ take i text ++ byte ∷ take (length text - (i + 1)) (drop (i + 1) text)
around text i byte inside is =
    sym (take-append-drop i text) ∙ ap (λ rest. take i text ++ rest) (drop_more text i 0 inside)
    ∙ ap (λ x. take i text ++ x ∷ drop (i + 1) text) is
    ∙ ap (λ rest. take i text ++ byte ∷ rest) (sym (take_rest text (i + 1)))

-- a line's fields, one by one
pub field_first : (line field rest : List ℕ) → line ≡ field ++ 44 ∷ rest → Lacks 44 field → fields_of line ≡ field ∷ fields_of rest
field_first line field rest is lacks = ap fields_of is ∙ split_at 44 ([] ∷ []) field rest lacks

-- with a comma in what follows three fields there are more than four
pub too_many : (a b c d rest : List ℕ) → four_of (a ∷ b ∷ c ∷ d ∷ fields_of rest) ≡ None
too_many a b c d rest = let (field, fields, is) = some_part 44 rest in ap (λ more. four_of (a ∷ b ∷ c ∷ d ∷ more)) is

pub three_fields : (line a r b s c d : List ℕ) → line ≡ a ++ 44 ∷ r → Lacks 44 a → r ≡ b ++ 44 ∷ s → Lacks 44 b → s ≡ c ++ 44 ∷ d → Lacks 44 c
    → fields_of line ≡ a ∷ b ∷ c ∷ fields_of d
three_fields line a r b s c d is lacks-a then-b lacks-b then-c lacks-c =
    field_first line a r is lacks-a
    ∙ ap (λ fields. a ∷ fields) (field_first r b s then-b lacks-b ∙ ap (λ fields. b ∷ fields) (field_first s c d then-c lacks-c))

-- the next line of a card that is read up to `at`
module _ (card : List ℕ) (at : ℕ) (line rest : List ℕ) (is : take (length card - at) (drop at card) ≡ line ++ 10 ∷ rest) where
  here : drop at card ≡ line ++ 10 ∷ rest
  here = sym (take_rest card at) ∙ is

  pub line_inside : at ≤ length card → at + (length line + 1) ≤ length card
  line_inside inside = omega (arith, simp (length-drop, length-append) at (ap length here))

  pub line_shorter : at ≤ length card → length (drop (at + (length line + 1)) card) < length (drop at card)
  line_shorter inside = simp length-drop (omega (arith, line_inside inside))

  pub line_next : Lacks 10 line → lines_of (drop at card) ≡ line ∷ lines_of (drop (at + (length line + 1)) card)
  line_next lacks =
      let long : length (line ++ 10 ∷ []) ≡ length line + 1 = length_push line 10 in
      let after : drop (at + (length line + 1)) card ≡ rest =
      sym (drop-drop (length line + 1) at card) ∙ ap (drop (length line + 1)) (here ∙ sym (append_assoc line (10 ∷ []) rest))
      ∙ drop_at (line ++ 10 ∷ []) rest (length line + 1) long in
      ap lines_of here ∙ split_at 10 [] line rest lacks ∙ ap (λ text. line ∷ lines_of text) (sym after)

-- the last line, where nothing ends it
pub line_open : (card : List ℕ) (at : ℕ) → at < length card → Lacks 10 (take (length card - at) (drop at card))
    → lines_of (drop at card) ≡ take (length card - at) (drop at card) ∷ lines_of (drop (at + length (take (length card - at) (drop at card))) card)
unfolding split
line_open card at inside lacks =
    let rest : List ℕ = take (length card - at) (drop at card) in
    let whole = take_rest card at in
    let more = drop_more card at 0 inside in
    let end : length card ≤ at + length rest = omega (arith, simp length-drop at (ap length whole)) in
    ap lines_of more ∙ split_open 10 (get_or card at 0) (drop (at + 1) card) (subst (Lacks 10) (whole ∙ more) lacks)
    ∙ ap (λ text. text ∷ []) (sym (whole ∙ more)) ∙ ap (λ text. rest ∷ lines_of text) (sym (drop_all (at + length rest) card end))

pub open_shorter : (card : List ℕ) (at : ℕ) → at < length card
    → length (drop (at + length (take (length card - at) (drop at card))) card) < length (drop at card)
open_shorter card at inside =
    let same : length (take (length card - at) (drop at card)) ≡ length (drop at card) = ap length (take_rest card at) in
    simp length-drop (omega (arith, simp length-drop at same))
