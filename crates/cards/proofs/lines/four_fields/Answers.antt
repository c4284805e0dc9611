use Rattle.std.proofs.Common.{◌≡◌, ℕ, true, false, List, [], ◌∷◌, ◌++◌, Some, None, Ok, Err, Option, Result, Bor, IsErrAnd, sym, refl, ap, ◌∙◌}
use Rattle.std.specs.Option.{ok_or, is_some, MatchOption}
use Rattle.std.proofs.lemmas.Option.{MatchOption-at_some, MatchOption-at_none}
use Rattle.std.proofs.lemmas.Result.{err_from_is_err_and}
use Rattle.std.proofs.lemmas.Bool.{both_ways}
use Rattle.refusals.specs.declared.cards.CardRefusal.{CardRefusal}
use Rattle.refusals.specs.declared.cards.CardRefusal.TheVariants as refusal
use Rattle.cards.specs.declared.lines.Fields.{Fields}
use Rattle.cards.specs.Text.{Lacks, fields_of, four_of, four_texts}
use Rattle.cards.specs.Rows.{map_ok}
use Rattle.cards.specs.Reading.{counted_fields}
use Rattle.cards.proofs.Outcomes.{there, not_there}
use Rattle.cards.proofs.Splits.{split_last, field_first, too_many}
use Rattle.cards.proofs.lines.four_fields.Goals as goal
use Rattle.cards.proofs.lines.four_fields.Goals.{In_ok-first, In_ok-second, In_ok-third}

-- the two parts that `cut` makes of a text
abbrev Parts : Type 0
Parts = Bor (List ℕ) × Bor (List ℕ)

-- what `cut` says at a comma
abbrev Cut : List ℕ → Option Parts → Type 0
Cut text parts = MatchOption parts (Lacks 44 text) (λ parts. (text ≡ parts.0.now ++ 44 ∷ parts.1.now) × Lacks 44 parts.0.now)

-- a part that is there is a field
part : {told : Result Parts CardRefusal} {first rest : Bor (List ℕ)} (n : ℕ) (text : List ℕ) (o : Option Parts) → Cut text o
    → told ≡ ok_or o (refusal.FieldCount n) → told ≡ Ok (first, rest) → fields_of text ≡ first.now ∷ fields_of rest.now
part {told} {first} {rest} n text o cut value was =
    let (is, lacks) = MatchOption-at_some _ _ (first, rest) (there (refusal.FieldCount n) o (first, rest) (sym value ∙ was)) cut in
    field_first text _ _ is lacks

-- what stands before a missing part is not four fields: the refusal is told
missing : {told : Result Parts CardRefusal} {e : CardRefusal} (n : ℕ) (line rest : List ℕ) (o : Option Parts) (r : Result Fields CardRefusal)
    (found : List (List ℕ)) → fields_of line ≡ found ++ fields_of rest → four_of (found ++ rest ∷ []) ≡ None → Cut rest o
    → told ≡ ok_or o (refusal.FieldCount n) → told ≡ Err e → IsErrAnd r (λ d. d ≡ e) → map_ok r four_texts ≡ counted_fields n line
missing {told} {e} n line rest o r found before few cut value was gives =
    let (none, is) = not_there (refusal.FieldCount n) e o (sym value ∙ was) in
    let (d, r_is, d_is) = err_from_is_err_and r gives in
    let alone = split_last 44 rest (MatchOption-at_none _ _ none cut) in
    ap (λ r. map_ok r four_texts) (r_is ∙ ap Err (d_is ∙ sym is))
    ∙ sym (ap (λ found. ok_or found (refusal.FieldCount n)) (ap four_of (before ∙ ap (λ fields. found ++ fields) alone) ∙ few))

-- the last part is the fourth field where no comma follows, and one too many where one does
last : (text : List ℕ) (o : Option Parts) → Cut text o → is_some o ≡ false → fields_of text ≡ text ∷ []
last text None cut none = split_last 44 text cut
last text (Some parts) cut none = absurd (both_ways _ none refl)

excess : (a b c text : List ℕ) (o : Option Parts) → Cut text o → is_some o ≡ true → four_of (a ∷ b ∷ c ∷ fields_of text) ≡ None
excess a b c text None cut some = absurd (both_ways _ refl some)
excess a b c text (Some parts) cut some = ap (λ fields. four_of (a ∷ b ∷ c ∷ fields)) (field_first text _ _ cut.0 cut.1) ∙ too_many a b c _ _

-- the parts found so far
one_is : (c : In_ok-first) → fields_of c.args.text.now ≡ c.in_ok-first.first.now ∷ fields_of c.in_ok-first.rest.now
one_is c = part _ _ _ c.cut.ensures c.ok_or.ensures.value c.in_ok-first.was

two_are : (c : In_ok-second) → fields_of c.args.text.now
    ≡ c.in_ok-first.first.now ∷ c.in_ok-second.second.now ∷ fields_of c.in_ok-second.rest.now
two_are c =
    one_is (goal.at.In_ok-second c).In_ok-first
    ∙ ap (λ fields. c.in_ok-first.first.now ∷ fields) (part _ _ _ c.cut-2.ensures c.ok_or-2.ensures.value c.in_ok-second.was)

three_are : (c : In_ok-third) → fields_of c.args.text.now
    ≡ c.in_ok-first.first.now ∷ c.in_ok-second.second.now ∷ c.in_ok-third.third.now ∷ fields_of c.in_ok-third.fourth.now
three_are c =
    two_are (goal.at.In_ok-third c).In_ok-second
    ∙ ap (λ fields. c.in_ok-first.first.now ∷ c.in_ok-second.second.now ∷ fields)
    (part _ _ _ c.cut-3.ensures c.ok_or-3.ensures.value c.in_ok-third.was)

pub returns-in_err-first-clause-texts : goal.returns-in_err-first-clause-texts
returns-in_err-first-clause-texts c =
    missing _ _ _ _ _ [] refl refl c.cut.ensures c.ok_or.ensures.value c.in_err-first.was c.from_residual.ensures.1

pub returns-in_err-second-clause-texts : goal.returns-in_err-second-clause-texts
returns-in_err-second-clause-texts c =
    missing _ _ _ _ _ (c.in_ok-first.first.now ∷ []) (one_is (goal.at.returns-in_err-second-clause-texts c).In_ok-first) refl
    c.cut-2.ensures c.ok_or-2.ensures.value c.in_err-second.was c.from_residual-in_err-second.ensures.1

pub returns-in_err-third-clause-texts : goal.returns-in_err-third-clause-texts
returns-in_err-third-clause-texts c =
    missing _ _ _ _ _ (c.in_ok-first.first.now ∷ c.in_ok-second.second.now ∷ []) (two_are (goal.at.returns-in_err-third-clause-texts c).In_ok-second) refl
    c.cut-3.ensures c.ok_or-3.ensures.value c.in_err-third.was c.from_residual-in_err-third.ensures.1

pub returns-then-is_some-clause-texts : goal.returns-then-is_some-clause-texts
returns-then-is_some-clause-texts c =
    sym (ap (λ found. ok_or found (refusal.FieldCount c.args.line))
    (ap four_of (three_are (goal.at.returns-then-is_some-clause-texts c).In_ok-third)
    ∙ excess _ _ _ _ c.cut-4.result c.cut-4.ensures (sym c.is_some.ensures ∙ c.if-is_some.true)))

pub returns-clause-texts : goal.returns-clause-texts
returns-clause-texts c =
    let before : List (List ℕ) → List (List ℕ) = λ fields. c.in_ok-first.first.now ∷ c.in_ok-second.second.now ∷ c.in_ok-third.third.now ∷ fields in
    sym (ap (λ fields. ok_or (four_of fields) (refusal.FieldCount c.args.line))
    (three_are (goal.at.returns-clause-texts c).In_ok-third
    ∙ ap before (last _ c.cut-4.result c.cut-4.ensures (sym c.is_some.ensures ∙ c.if-is_some.false))))
