-- What the rows tell together.
use Rattle.std.proofs.Common.{◌≡◌, ℕ, zero, suc, ◌+◌, ◌-◌, ◌<◌, ◌≤◌, Bool, true, false, cond, eqb, leb, List, [], ◌∷◌, length, get_or, Some, None, Ok, Err, Option, Result, sym, refl, ap, ◌∙◌, zero-add, arith}
use Rattle.std.proofs.lemmas.Bool.{both_ways, cond-true, cond-false, and_parts, and_from, le-leb, leb-true, ne_eqb, eqb-false}
use Rattle.refusals.specs.declared.cards.CardRefusal.{CardRefusal}
use Rattle.refusals.specs.declared.cards.CardRefusal.TheVariants as refusal
use Rattle.routine.specs.declared.rows.Row.{Row}
use Rattle.routine.specs.declared.rows.Row.TheVariants.{Halt}
use Rattle.routine.specs.Limits.{row_count_fits, fields_fit, every_field_fits, target_fits, every, every_target_fits, last_ends, FirstFailing}
use Rattle.routine.proofs.Limits.{every_from, every_at}
use Rattle.cards.specs.Cards.{Card}
use Rattle.cards.specs.Reading.{first_failing, line_of_row, whole_in}
use Rattle.cards.proofs.Outcomes.{same_ok, never_some, passed, passed_not, not_found}

-- the first row that fails, where one does
failing_from : (test : ℕ → Row → Bool) (k : ℕ) (rows : List Row) (i : ℕ) → i < length rows → test (k + i) (get_or rows i Halt) ≡ false
    → ((j : ℕ) → j < i → test (k + j) (get_or rows j Halt) ≡ true) → first_failing test k rows ≡ Some (k + i)
unfolding first_failing
failing_from test k [] i inside fails before = absurd (omega arith)
failing_from test k (row ∷ rows) zero inside fails before =
    let here : k + 0 ≡ k = omega arith in
    cond-false (test k row) _ _ (ap (λ n. test n row) (sym here) ∙ fails) ∙ ap Some (sym here)
failing_from test k (row ∷ rows) (suc i) inside fails before =
    let here : k + 0 ≡ k = omega arith in
    let next : (j : ℕ) → suc k + j ≡ k + suc j = λ j. omega arith in
    cond-true (test k row) _ _ (ap (λ n. test n row) (sym here) ∙ before 0 (omega arith))
    ∙ failing_from test (suc k) rows i (omega arith) (ap (λ n. test n (get_or rows i Halt)) (next i) ∙ fails)
    (λ j less. ap (λ n. test n (get_or rows j Halt)) (next j) ∙ before (suc j) (omega arith))
    ∙ ap Some (next i)

first_failing_lem : (test : ℕ → Row → Bool) (rows : List Row) (i : ℕ) → FirstFailing test rows i → first_failing test 0 rows ≡ Some i
first_failing_lem test rows i first =
    failing_from test 0 rows i first.here (ap (λ n. test n (get_or rows i Halt)) (zero-add i) ∙ first.fails)
    (λ j less. ap (λ n. test n (get_or rows j Halt)) (zero-add j) ∙ first.before j less)
    ∙ ap Some (zero-add i)

none_failing : (test : ℕ → Row → Bool) (k : ℕ) (rows : List Row) → every test k rows ≡ true → first_failing test k rows ≡ None
unfolding every first_failing
none_failing test k [] all = refl
none_failing test k (row ∷ rows) all =
    let (here, rest) = and_parts (test k row) (every test (suc k) rows) all in
    cond-true (test k row) _ _ here ∙ none_failing test (suc k) rows rest

-- a test did not fail, and none after it
none_parts : (b : Bool) (o : Option ℕ) (i : ℕ) → cond b o (Some i) ≡ None → (b ≡ true) × (o ≡ None)
none_parts true o i is = (refl, is)
none_parts false o i is = never_some _ i (sym is)

-- there is no first row at which a test fails just where it passes at each, here counted from i
each_passes : (test : ℕ → Row → Bool) (i : ℕ) (rows : List Row) → first_failing test i rows ≡ None
    → (j : ℕ) → j < length rows → test (i + j) (get_or rows j Halt) ≡ true
unfolding first_failing
each_passes test i [] none j h = absurd (omega arith)
each_passes test i (row ∷ rows) none zero h =
    let here : i ≡ i + 0 = omega arith in rw here at (none_parts (test i row) (first_failing test (suc i) rows) i none).0
each_passes test i (row ∷ rows) none (suc j) h =
    let next : suc i + j ≡ i + suc j = omega arith in
    rw next at (each_passes test (suc i) rows (none_parts (test i row) (first_failing test (suc i) rows) i none).1 j (omega arith))

-- a row whose fields fit is not the first whose fields do not
pub fields_fail : (rows : List Row) (words i : ℕ) → every_field_fits rows words ≡ true → FirstFailing (λ _ row. fields_fit words row) rows i → ⊥
fields_fail rows words i all first = both_ways _ first.fails (every_at (λ _ row. fields_fit words row) rows all i first.here)

-- the rest of the check, once it is known which target fails
abbrev pub on_failing : Card → Option ℕ → Result Card CardRefusal
on_failing card None = cond (last_ends card.rows) (Ok card) (Err (refusal.Ending (line_of_row card (length card.rows - 1))))
on_failing card (Some i) = Err (refusal.Target (line_of_row card i))

-- what the rows have to be together
pub record Whole (rows : List Row) : Type 0 where
  pub count : row_count_fits rows ≡ true
  pub targets : every_target_fits rows ≡ true
  pub last : last_ends rows ≡ true

module _ (card : Card) where
  module _ (some : row_count_fits card.rows ≡ true) where
    whole_some : whole_in card ≡ on_failing card (first_failing (target_fits (length card.rows)) 0 card.rows)
    whole_some =
        let least = leb-true 1 (length card.rows) (and_parts (leb 1 (length card.rows)) (leb (length card.rows) 256) some).0 in
        cond-false (eqb (length card.rows) 0) _ _ (ne_eqb (length card.rows) 0 (λ zero. omega (arith, least)))

    pub whole_target : (i : ℕ) → FirstFailing (target_fits (length card.rows)) card.rows i → whole_in card ≡ Err (refusal.Target (line_of_row card i))
    whole_target i first = whole_some ∙ ap (on_failing card) (first_failing_lem _ card.rows i first)

    module _ (targets : every_target_fits card.rows ≡ true) where
      whole_last : whole_in card ≡ on_failing card None
      whole_last = whole_some ∙ ap (on_failing card) (none_failing _ 0 card.rows targets)

      pub whole_ending : last_ends card.rows ≡ false → whole_in card ≡ Err (refusal.Ending (line_of_row card (length card.rows - 1)))
      whole_ending onward = whole_last ∙ cond-false (last_ends card.rows) _ _ onward

      whole_ends : last_ends card.rows ≡ true → whole_in card ≡ Ok card
      whole_ends ends = whole_last ∙ cond-true (last_ends card.rows) _ _ ends

-- the check of the whole accepts just what is whole, and changes nothing
pub whole_ok : (card : Card) → Whole card.rows → whole_in card ≡ Ok card
whole_ok card whole = whole_ends card whole.count whole.targets whole.last

pub whole_sound : (card read : Card) → whole_in card ≡ Ok read → (card ≡ read) × (length card.rows ≤ 256 → Whole card.rows)
whole_sound card read is =
    let rows = card.rows in
    let (some, then-a) = passed_not (eqb (length rows) 0) _ _ read is in
    let (none, then-b) = not_found (λ i. refusal.Target (line_of_row card i)) _ (first_failing (target_fits (length rows)) 0 rows) read then-a in
    let (last, then-c) = passed (last_ends rows) (Ok card) _ read then-b in
    let not-empty = eqb-false (length rows) 0 some in
    let at_least : 1 ≤ length rows = omega arith in (
      same_ok card read then-c,
      λ few.
          record {
            count = and_from _ _ (le-leb 1 (length rows) at_least) (le-leb (length rows) 256 few);
            targets = every_from (target_fits (length rows)) rows (λ j h. rw zero-add at (each_passes (target_fits (length rows)) 0 rows none j h));
            last = last;
          },
    )
