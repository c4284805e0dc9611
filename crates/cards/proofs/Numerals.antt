-- Lemmas on numbers as cards write them: what is read is what `decimal` writes.
use Rattle.std.proofs.Common.{◌≡◌, ℕ, ◌+◌, ◌-◌, ◌*◌, ◌^◌, ◌<◌, ◌≤◌, Bool, true, false, cond, not, ◌&&◌, eqb, leb, List, [], ◌∷◌, length, get_or, Some, None, Ok, Err, decimal, Result, sym, refl, ap, ◌∙◌, ⊎_elim, arith, rules}
use Rattle.std.specs.Char.{is_ascii_digit}
use Rattle.std.specs.List.{fold}
use Rattle.std.specs.Str.{all_ascii_digits}
use Rattle.std.proofs.lemmas.Fmt.{decimal_nonempty, first_decimal, length-decimal-le, digits_decimal, digits_value-decimal, decimal-digits_value}
use Rattle.std.proofs.lemmas.Str.Parse.{IsNumeralModel, numerals_by_fold}
use Rattle.std.proofs.lemmas.Bool.{and_parts, and_from, and_left, and_right, not-true, not_from_false, cond-true, cond-false, cases_lt, eqb-false, leb-true, le-leb, le-ltb, ne_eqb}
use Rattle.std.proofs.lemmas.Bool.Decides.{nat_tests}
use Rattle.refusals.specs.declared.cards.Cause.{Cause}
use Rattle.cards.specs.Text.{Lacks}
use Rattle.cards.specs.Numbers.{value_of, is_numeral, leads_with_zero, number_in, plain_in}
use Rattle.cards.proofs.Outcomes.{same_ok, never_some, passed, passed_not}

-- `value_of` and `all_ascii_digits` are words for numbers and their digits
own : IsNumeralModel (λ ds. all_ascii_digits ds ≡ true) value_of
own = numerals_by_fold _ (search rules) (fold (λ n digit. 10 * n + (digit - 48))) (search rules)

-- what was read passed each test
number_tests : (limit : ℕ) (text : List ℕ) (n : ℕ) → number_in limit text ≡ Ok n
    → (is_numeral text ≡ true) × (leads_with_zero text ≡ false) × (value_of text ≤ limit) × (value_of text ≡ n)
unfolding number_in
number_tests limit text n is =
    let (numeral, then-a) = passed _ _ _ _ is in
    let (no_zero, then-b) = passed_not _ _ _ _ then-a in
    let (fits, then-c) = passed _ _ _ _ then-b in
    (numeral, no_zero, leb-true _ _ fits, same_ok _ _ then-c)

pub number_sound : (limit : ℕ) (text : List ℕ) (n : ℕ) → limit < 2 ^ 64 → number_in limit text ≡ Ok n → (text ≡ decimal n) × (n ≤ limit)
number_sound limit text n small is =
    let (numeral, no_zero, fits, value) = number_tests limit text n is in
    let (some, digits) = and_parts (not (eqb (length text) 0)) (all_ascii_digits text) numeral in
    let no_more : get_or text 0 0 ≡ 48 → length text ≡ 1 = λ zero. grind (arith, nat_tests) in
    let same = decimal-digits_value own text digits (grind (arith, nat_tests)) no_more (omega arith) in
    (sym same ∙ ap decimal value, omega arith)

-- no number but 0 begins with a zero
no_leading_zero : (n : ℕ) → n < 2 ^ 64 → leads_with_zero (decimal n) ≡ false
no_leading_zero n small =
    ⊎_elim (λ more. and_left _ _ (ne_eqb (get_or (decimal n) 0 0) 48 (λ zero. omega (arith, first_decimal n more small))))
    (λ none. and_right _ _ (le-ltb _ _ (length-decimal-le 1 n (omega arith) (omega arith) small))) (cases_lt 0 n)

pub number_complete : (limit n : ℕ) → limit < 2 ^ 64 → n ≤ limit → number_in limit (decimal n) ≡ Ok n
unfolding number_in
number_complete limit n small fits =
    let fits-64 : n < 2 ^ 64 = omega arith in
    let value : value_of (decimal n) ≡ n = digits_value-decimal own n fits-64 in
    let some : not (eqb (length (decimal n)) 0) ≡ true = not_from_false _ (ne_eqb (length (decimal n)) 0 (λ none. omega (arith, decimal_nonempty n fits-64))) in
    cond-true _ _ _ (and_from _ _ some (digits_decimal own n fits-64)) ∙ cond-false _ _ _ (no_leading_zero n fits-64)
    ∙ cond-true _ _ _ (le-leb (value_of (decimal n)) limit (omega arith)) ∙ ap Ok value

-- a number between two limits
plain_parts : (low : ℕ) (r : Result ℕ Cause) (n : ℕ) → elim r [ Ok m ↦ cond (leb low m) (Some m) None | Err cause ↦ None ] ≡ Some n
    → (r ≡ Ok n) × (low ≤ n)
plain_parts low (Ok m) n is = grind (arith, nat_tests)
plain_parts low (Err cause) n is = never_some _ n is

pub plain_sound : (low high : ℕ) (text : List ℕ) (n : ℕ) → high < 2 ^ 64 → plain_in low high text ≡ Some n
    → (text ≡ decimal n) × (low ≤ n) × (n ≤ high)
plain_sound low high text n small is =
    let (read, above) = plain_parts low (number_in high text) n is in
    let (same, below) = number_sound high text n small read in
    (same, above, below)

pub plain_complete : (low high n : ℕ) → high < 2 ^ 64 → low ≤ n → n ≤ high → plain_in low high (decimal n) ≡ Some n
plain_complete low high n small above fits =
    rw (number_complete high n small fits, plain_in) (cond-true _ _ _ (le-leb low n above))

-- a text without byte 10 and without commas
abbrev pub all_clear : List ℕ → Bool
all_clear [] = true
all_clear (x ∷ text) = not (eqb x 10) && not (eqb x 44) && all_clear text

pub clear_lacks : (text : List ℕ) → all_clear text ≡ true → Lacks 10 text × Lacks 44 text
clear_lacks [] clear = (tt, tt)
clear_lacks (x ∷ text) clear =
    let (here, more) = and_parts (not (eqb x 10) && not (eqb x 44)) (all_clear text) clear in
    let (no-10, no-44) = and_parts (not (eqb x 10)) (not (eqb x 44)) here in
    let (lacks-10, lacks-44) = clear_lacks text more in
    ((eqb-false x 10 (not-true _ no-10), lacks-10), (eqb-false x 44 (not-true _ no-44), lacks-44))

digits_clear : (ds : List ℕ) → all_ascii_digits ds ≡ true → all_clear ds ≡ true
digits_clear [] all = refl
digits_clear (d ∷ ds) all =
    let (here, more) = and_parts (is_ascii_digit d) (all_ascii_digits ds) all in
    let high = leb-true 48 d (and_parts (leb 48 d) (leb d 57) here).0 in
    let other : (b : ℕ) → b < 48 → not (eqb d b) ≡ true = λ b low. not_from_false _ (ne_eqb d b (λ same. omega arith)) in
    and_from _ _ (and_from _ _ (other 10 (omega arith)) (other 44 (omega arith))) (digits_clear ds more)

pub decimal_clear : (n : ℕ) → n < 2 ^ 64 → all_clear (decimal n) ≡ true
decimal_clear n small = digits_clear (decimal n) (digits_decimal own n small)
