-- What follows from the limits, for whoever works on a routine that was taken. Nothing above unfolds `within` or `every`.
use Rattle.std.proofs.Common.{◌≡◌, ℕ, zero, suc, ◌+◌, ◌-◌, ◌<◌, ◌≤◌, Bool, true, false, List, [], ◌∷◌, length, get_or, Some, None, Option, sym, subst, refl, ap, ◌∙◌, zero-add, zero-le, lt_trans, arith}
use Rattle.std.specs.Option.{MatchOption}
use Rattle.std.specs.List.{AllWithin, HoldsAt, enumerate_from}
use Rattle.std.proofs.lemmas.List.FromFn.{length-enumerate_from, get_or-enumerate_from}
use Rattle.routine.specs.declared.rows.Row.{Row}
use Rattle.routine.specs.declared.rows.Row.TheVariants.{Halt}
use Rattle.routine.specs.Limits.{row_count_fits, word_count_fits, fields_fit, target_fits, ends, every, every_field_fits, every_target_fits, last_ends, within, FirstFailing}
use Rattle.std.proofs.lemmas.List.{get_or_default}
use Rattle.std.proofs.lemmas.Bool.{and_parts, and_from, leb-true, eqb-true}

-- a test that passes at each row passes at every row, here counted from i
every_from_at : (test : ℕ → Row → Bool) (i : ℕ) (rows : List Row) → ((j : ℕ) → j < length rows → test (i + j) (get_or rows j Halt) ≡ true)
    → every test i rows ≡ true
unfolding every
every_from_at test i [] each = refl
every_from_at test i (row ∷ rows) each =
    let here : i + 0 ≡ i = omega arith in
    let next : (j : ℕ) → i + suc j ≡ suc i + j = λ j. omega arith in
    and_from _ _ (rw here at (each 0 (omega arith))) (every_from_at test (suc i) rows (λ j h. rw (next j) at (each (suc j) (omega arith))))

pub every_from : (test : ℕ → Row → Bool) (rows : List Row) → ((j : ℕ) → j < length rows → test j (get_or rows j Halt) ≡ true)
    → every test 0 rows ≡ true
every_from test rows each = every_from_at test 0 rows (λ j h. rw zero-add (each j h))

-- and where it passes at every row, it passes at each
every_at_from : (test : ℕ → Row → Bool) (i : ℕ) (rows : List Row) → every test i rows ≡ true
    → (j : ℕ) → j < length rows → test (i + j) (get_or rows j Halt) ≡ true
unfolding every
every_at_from test i [] passes j h = absurd (omega arith)
every_at_from test i (row ∷ rows) passes zero h =
    let here : i ≡ i + 0 = omega arith in rw here at (and_parts (test i row) (every test (suc i) rows) passes).0
every_at_from test i (row ∷ rows) passes (suc j) h =
    let next : suc i + j ≡ i + suc j = omega arith in
    rw next at (every_at_from test (suc i) rows (and_parts (test i row) (every test (suc i) rows) passes).1 j (omega arith))

pub every_at : (test : ℕ → Row → Bool) (rows : List Row) → every test 0 rows ≡ true
    → (j : ℕ) → j < length rows → test j (get_or rows j Halt) ≡ true
every_at test rows passes j h = rw zero-add at (every_at_from test 0 rows passes j h)

-- what a search for the first row that fails a test found
pub searched : (test : Row → Bool) (rows : List Row) (found : Option ℕ)
    → MatchOption found (AllWithin (λ row. test row ≡ true) rows 0 (length rows))
    (λ i. (i < length rows) × HoldsAt (λ row. test row ≡ false) rows i × AllWithin (λ row. test row ≡ true) rows 0 i)
    → MatchOption found (every (λ _ row. test row) 0 rows ≡ true) (FirstFailing (λ _ row. test row) rows)
searched test rows None passes = every_from (λ _ row. test row) rows (λ j h. passes j Halt zero-le h)
searched test rows (Some i) (inside, fails, passes) =
    record { here = inside; fails = fails Halt; before = λ j h. passes j Halt zero-le h }

-- the same where the test sees the row's number
pub searched_numbered : (test : ℕ → Row → Bool) (rows : List Row) (found : Option ℕ)
    → MatchOption found (AllWithin (λ p. test p.0 p.1 ≡ true) (enumerate_from 0 rows) 0 (length (enumerate_from 0 rows)))
    (λ i. (i < length (enumerate_from 0 rows)) × HoldsAt (λ p. test p.0 p.1 ≡ false) (enumerate_from 0 rows) i
    × AllWithin (λ p. test p.0 p.1 ≡ true) (enumerate_from 0 rows) 0 i)
    → MatchOption found (every test 0 rows ≡ true) (FirstFailing test rows)
searched_numbered test rows None passes =
    every_from test rows (λ j h.
    rw zero-add at (subst (λ p. test p.0 p.1 ≡ true) (get_or-enumerate_from 0 rows j (0, Halt) h)
    (passes j (0, Halt) zero-le (rw (length-enumerate_from 0 rows) h))))
searched_numbered test rows (Some i) (inside, fails, passes) =
    let here = rw (length-enumerate_from 0 rows) at inside in
    record {
      here = here;
      fails = rw zero-add at (subst (λ p. test p.0 p.1 ≡ false) (get_or-enumerate_from 0 rows i (0, Halt) here) (fails (0, Halt)));
      before = λ j h.
          rw zero-add at (subst (λ p. test p.0 p.1 ≡ true) (get_or-enumerate_from 0 rows j (0, Halt) (lt_trans h here)) (passes j (0, Halt) zero-le h));
    }

-- what code reads of a row is what a limit says of it
pub read_row : (test : Row → Bool) (rows : List Row) (i : ℕ) (other : Row) {b : Bool} → i < length rows → b ≡ test (get_or rows i other)
    → test (get_or rows i Halt) ≡ b
read_row test rows i other h e = ap test (get_or_default rows i Halt other h) ∙ sym e

-- there is a last row
pub last_row : (rows : List Row) → row_count_fits rows ≡ true → length rows - 1 < length rows
last_row rows count = omega (arith, leb-true 1 (length rows) (and_parts _ _ count).0)

-- the limits together are each of them
pub within_parts : (rows : List Row) (words labels : ℕ) → within rows words labels ≡ true
    → (row_count_fits rows ≡ true) × (word_count_fits words labels ≡ true) × (every_field_fits rows words ≡ true)
    × (every_target_fits rows ≡ true) × (last_ends rows ≡ true)
unfolding within
within_parts rows words labels all =
    let (a, last) = and_parts _ _ all in
    let (b, targets) = and_parts _ _ a in
    let (c, fields) = and_parts _ _ b in
    let (count, word) = and_parts _ _ c in
    (count, word, fields, targets, last)

pub within_from : (rows : List Row) (words labels : ℕ) → row_count_fits rows ≡ true → word_count_fits words labels ≡ true
    → every_field_fits rows words ≡ true → every_target_fits rows ≡ true → last_ends rows ≡ true → within rows words labels ≡ true
unfolding within
within_from rows words labels count word fields targets last =
    and_from _ _ (and_from _ _ (and_from _ _ (and_from _ _ count word) fields) targets) last

module _ (rows : List Row) (words labels : ℕ) (all : within rows words labels ≡ true) where
  -- there are 1 to 256 rows
  pub some_rows : 1 ≤ length rows
  some_rows = leb-true _ _ (and_parts _ _ (within_parts rows words labels all).0).0

  pub few_rows : length rows ≤ 256
  few_rows = leb-true _ _ (and_parts _ _ (within_parts rows words labels all).0).1

  -- there are 1 to 4,096 words, and a label for each
  pub some_words : 1 ≤ words
  some_words = leb-true _ _ (and_parts _ _ (and_parts _ _ (within_parts rows words labels all).1).0).0

  pub few_words : words ≤ 4096
  few_words = leb-true _ _ (and_parts _ _ (and_parts _ _ (within_parts rows words labels all).1).0).1

  pub words_labelled : words ≡ labels
  words_labelled = sym (eqb-true _ _ (and_parts _ _ (within_parts rows words labels all).1).1)

  -- each row fits
  pub fields_fit_lem : (i : ℕ) → i < length rows → fields_fit words (get_or rows i Halt) ≡ true
  fields_fit_lem = every_at (λ _ row. fields_fit words row) rows (within_parts rows words labels all).2

  pub target_fits_lem : (i : ℕ) → i < length rows → target_fits (length rows) i (get_or rows i Halt) ≡ true
  target_fits_lem = every_at (target_fits (length rows)) rows (within_parts rows words labels all).3

  -- the last row ends the routine
  pub last_ends_lem : ends (get_or rows (length rows - 1) Halt) ≡ true
  last_ends_lem = (within_parts rows words labels all).4
