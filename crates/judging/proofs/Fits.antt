-- A row of a taken routine hands on to rows of it.
use Rattle.std.proofs.Common.{◌≡◌, ℕ, ◌+◌, ◌-◌, ◌*◌, ◌<◌, Bool, true, false, List, length, get_or, sym, refl, ◌∙◌, subst, ⊎_elim, arith, Some, None}
use Rattle.std.proofs.lemmas.Bool.{cases_lt, and_parts, ltb-true, false≢true}
use Rattle.labels.specs.Kind.{Kind}
use Rattle.routine.specs.Limits.{target_fits, ends}
use Rattle.routine.proofs.Limits.{target_fits_lem, last_ends_lem}
use Rattle.routine.specs.declared.rows.Row.{Row}
use Rattle.routine.specs.declared.rows.Row.TheVariants as row
use Rattle.facts.specs.declared.types.Mode.{Mode}
use Rattle.facts.specs.declared.types.Mode.TheVariants.{Settled, Guessed}
use Rattle.facts.specs.declared.types.Known.{Known}
use Rattle.facts.specs.Rules.{hands}
use Rattle.facts.specs.Tables.{hands_fact}
use Rattle.judging.specs.Steps.{Fitting, Valid}
use Rattle.judging.proofs.Places.{slot_inside}
use Rattle.facts.specs.Order.{Fact}

module _ {L : Type 0} (K : Kind L) (labels : List L) (n i : ℕ) where
  -- a row that is not the last has a next one
  next_inside : (ended : Bool) → i < n → (i ≡ n - 1 → ended ≡ true) → ended ≡ false → i + 1 < n
  next_inside ended inside last open' =
      ⊎_elim (λ h. h) (λ past. absurd (false≢true (sym open' ∙ last (omega arith)))) (cases_lt (i + 1) n)

  row_fits : (x : Row) (m : Mode) (ks : List (Known L)) → i < n → target_fits n i x ≡ true → (i ≡ n - 1 → ends x ≡ true)
      → Fitting (2 * n) (hands K labels x i m ks)
  row_fits (row.Set to value) m ks inside target last = (slot_inside n (i + 1) m (next_inside false inside last refl), tt)
  row_fits (row.Copy to from) m ks inside target last = (slot_inside n (i + 1) m (next_inside false inside last refl), tt)
  row_fits (row.Compute o to a b) m ks inside target last = (slot_inside n (i + 1) m (next_inside false inside last refl), tt)
  row_fits (row.Load to k a) m ks inside target last = (slot_inside n (i + 1) m (next_inside false inside last refl), tt)
  row_fits (row.Store v k a) m ks inside target last = (slot_inside n (i + 1) m (next_inside false inside last refl), tt)
  row_fits (row.Branch t a b to) Settled ks inside target last =
      let there = ltb-true to n (and_parts _ _ target).0 in
      let next = next_inside false inside last refl in
      (slot_inside n to Guessed there, (slot_inside n (i + 1) Guessed next, (slot_inside n to Settled there, (slot_inside n (i + 1) Settled next, tt))))
  row_fits (row.Branch t a b to) Guessed ks inside target last =
      (slot_inside n to Guessed (ltb-true to n (and_parts _ _ target).0), (slot_inside n (i + 1) Guessed (next_inside false inside last refl), tt))
  row_fits (row.Jump to) m ks inside target last = (slot_inside n to m (ltb-true to n target), tt)
  row_fits row.Fence Settled ks inside target last = (slot_inside n (i + 1) Settled (next_inside false inside last refl), tt)
  row_fits row.Fence Guessed ks inside target last = tt
  row_fits row.Halt m ks inside target last = tt

  fact_fits : (x : Row) (m : Mode) (f : Fact L) → i < n → target_fits n i x ≡ true → (i ≡ n - 1 → ends x ≡ true)
      → Fitting (2 * n) (hands_fact K labels x i m f)
  fact_fits x m None inside target last = tt
  fact_fits x m (Some ks) inside target last = row_fits x m ks inside target last

pub hands_fit : {L : Type 0} (K : Kind L) (labels : List L) (rows : List Row) → Valid rows labels → (i : ℕ) (m : Mode) (f : Fact L) → i < length rows
    → Fitting (2 * length rows) (hands_fact K labels (get_or rows i row.Halt) i m f)
hands_fit K labels rows valid i m f inside =
    fact_fits K labels (length rows) i (get_or rows i row.Halt) m f inside (target_fits_lem rows (length labels) (length labels) valid i inside)
    (λ last. subst (λ j. ends (get_or rows j row.Halt) ≡ true) (sym last) (last_ends_lem rows (length labels) (length labels) valid))
