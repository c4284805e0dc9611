-- The search over slots finds the first leak in the rules' order, or there is none.
use Rattle.std.proofs.Common.{◌≡◌, ℕ, zero, suc, ◌+◌, ◌*◌, ◌/◌, ◌<◌, ◌≤◌, Bool, true, false, cond, List, length, get_or, Some, None, Option, sym, refl, ap, ◌∙◌, subst, ⊎_elim, arith}
use Rattle.std.proofs.lemmas.Bool.{cases_order, cases_Bool, and_parts, and_from, both_ways}
use Rattle.labels.specs.Kind.{Kind}
use Rattle.routine.specs.declared.rows.Row.{Row}
use Rattle.routine.specs.declared.rows.Row.TheVariants as row
use Rattle.facts.specs.declared.types.Mode.{Mode}
use Rattle.facts.specs.declared.types.Reason.{Reason}
use Rattle.facts.specs.declared.types.Reason.TheVariants as reason
use Rattle.facts.specs.declared.types.Sought.{Sought}
use Rattle.facts.specs.Leaks.{counts, first_reason, sought_leak, leaks}
use Rattle.facts.specs.Tables.{slot, leaks_fact, leaks_at}
use Rattle.judging.specs.declared.verdict.Leak.{Leak}
use Rattle.judging.specs.Verdicts.{reason_number, First, Found}
use Rattle.judging.specs.Steps.{mode_at, leak_of, found_at, first_from}
use Rattle.judging.proofs.Places.{slot_of_place, row_of_slot, mode_of_slot, slot_inside}
use Rattle.facts.specs.Order.{Fact}

-- the first reason that passes a test
abbrev pick : Bool → Bool → Bool → Option Reason
pick a b c = cond a (Some reason.Address) (cond b (Some reason.Branch) (cond c (Some reason.Spill) None))

none_picked : (a b c : Bool) → pick a b c ≡ None → (a ≡ false) × (b ≡ false) × (c ≡ false)
none_picked true b c e = (cc, cc, cc)
none_picked false true c e = (refl, cc, cc)
none_picked false false true e = (refl, refl, cc)
none_picked false false false e = (refl, refl, refl)

first_none : (p : Reason → Bool) → first_reason p ≡ None → (why : Reason) → p why ≡ false
first_none p e reason.Address = (none_picked (p reason.Address) (p reason.Branch) (p reason.Spill) e).0
first_none p e reason.Branch = (none_picked (p reason.Address) (p reason.Branch) (p reason.Spill) e).1
first_none p e reason.Spill = (none_picked (p reason.Address) (p reason.Branch) (p reason.Spill) e).2

some_same : (a b : Reason) → Some a ≡ Some b → a ≡ b
some_same a b e = cc

none_some : (a : Reason) → None ≡ Some a → ⊥
none_some a e = let z : ◌≡◌ {A = ℕ} 0 1 = cc in omega arith

-- a reason that passes, with none before it
abbrev Picked : Bool → Bool → Bool → Reason → Type 0
Picked a b c reason.Address = a ≡ true
Picked a b c reason.Branch = (a ≡ false) × (b ≡ true)
Picked a b c reason.Spill = (a ≡ false) × (b ≡ false) × (c ≡ true)

some_picked : (a b c : Bool) (why : Reason) → pick a b c ≡ Some why → Picked a b c why
some_picked true b c why e = subst (Picked true b c) (some_same reason.Address why e) refl
some_picked false true c why e = subst (Picked false true c) (some_same reason.Branch why e) (refl, refl)
some_picked false false true why e = subst (Picked false false true) (some_same reason.Spill why e) (refl, refl, refl)
some_picked false false false why e = absurd (none_some why e)

first_some : (p : Reason → Bool) (why : Reason) → first_reason p ≡ Some why → (p why ≡ true) × ((other : Reason) → p other ≡ true → reason_number why ≤ reason_number other)
first_some p why e = told why (some_picked (p reason.Address) (p reason.Branch) (p reason.Spill) why e)
  where
    told : (why : Reason) → Picked (p reason.Address) (p reason.Branch) (p reason.Spill) why
        → (p why ≡ true) × ((other : Reason) → p other ≡ true → reason_number why ≤ reason_number other)
    told reason.Address h = (h, λ other k. omega arith)
    told reason.Branch h = (
      h.1,
      elim [
        | reason.Address ↦ λ k. absurd (both_ways _ h.0 k)
        | reason.Branch ↦ λ k. omega arith
        | reason.Spill ↦ λ k. omega arith
      ],
    )
    told reason.Spill h = (
      h.2,
      elim [
        | reason.Address ↦ λ k. absurd (both_ways _ h.0 k)
        | reason.Branch ↦ λ k. absurd (both_ways _ h.1 k)
        | reason.Spill ↦ λ k. omega arith
      ],
    )

module _ {L : Type 0} (K : Kind L) (labels : List L) (rows : List Row) (reader : L) where
  -- no leak at a row with a fact
  none_at : (x : Row) (m : Mode) (sought : Sought) (f : Fact L) → leak_of K labels reader x m sought f ≡ None
      → (why : Reason) → counts sought m why ≡ true → leaks_fact K labels reader x why f ≡ false
  none_at x m sought None e why h = refl
  none_at x m sought (Some ks) e why h =
      ⊎_elim (λ leak. absurd (both_ways _ (first_none (sought_leak K labels reader x m ks sought) e why) (and_from _ _ leak h))) (λ none. none)
      (cases_Bool (leaks K labels reader x ks why))

  -- the first leak at a row with a fact
  some_at : (x : Row) (m : Mode) (sought : Sought) (f : Fact L) (why : Reason) → leak_of K labels reader x m sought f ≡ Some why
      → (counts sought m why ≡ true) × (leaks_fact K labels reader x why f ≡ true)
      × ((other : Reason) → counts sought m other ≡ true → leaks_fact K labels reader x other f ≡ true → reason_number why ≤ reason_number other)
  some_at x m sought None why e = absurd (none_some why e)
  some_at x m sought (Some ks) why e =
      let (here, first) = first_some (sought_leak K labels reader x m ks sought) why e in
      let (leak, counted) = and_parts _ _ here in
      (counted, leak, λ other c h. first other (and_from _ _ h c))

  module _ (table : List (Fact L)) (sought : Sought) where
    abbrev At : ℕ → Option Reason
    At s = leak_of K labels reader (get_or rows (s / 2) row.Halt) (mode_at s) sought (get_or table s None)

    -- no leak at the slots before s
    abbrev Before : ℕ → Type 0
    Before s = (i : ℕ) (m : Mode) (why : Reason) → i < length rows → slot i m < s → counts sought m why ≡ true → leaks_at K labels reader rows table i m why ≡ false

    -- what is said of a slot's row and mode is said of the row and mode whose slot it is
    at_slot : (P : ℕ → ℕ → Mode → Type 0) (i : ℕ) (m : Mode) → P (slot i m) (slot i m / 2) (mode_at (slot i m)) → P (slot i m) i m
    at_slot P i m h = subst (λ k. P (slot i m) i k) (mode_of_slot i m) (subst (λ j. P (slot i m) j (mode_at (slot i m))) (row_of_slot i m) h)

    one_more : (s : ℕ) → Before s → At s ≡ None → Before (s + 1)
    one_more s before none i m why inside early counted =
        ⊎_elim
        (λ here. at_slot (λ n j k. counts sought k why ≡ true → leaks_fact K labels reader (get_or rows j row.Halt) why (get_or table n None) ≡ false) i m
        (none_at (get_or rows (slot i m / 2) row.Halt) (mode_at (slot i m)) sought (get_or table (slot i m) None) (ap At here ∙ none) why) counted)
        (⊎_elim (λ less. before i m why inside less counted) (λ more. absurd (omega arith)))
        (cases_order (slot i m) s)

    here_first : (s : ℕ) (why : Reason) → Before s → At s ≡ Some why → s < 2 * length rows
        → First K labels rows reader sought table (record { row = s / 2; mode = mode_at s; reason = why })
    here_first s why before some inside =
        let (counted, leak, first) = some_at (get_or rows (s / 2) row.Halt) (mode_at s) sought (get_or table s None) why some in
        record {
          inside = omega arith;
          counted = counted;
          leaking = subst (λ n. leaks_fact K labels reader (get_or rows (s / 2) row.Halt) why (get_or table n None) ≡ true) (sym (slot_of_place s)) leak;
          earliest = λ other within c h.
              ⊎_elim
              (λ same. omega (arith, slot_of_place s, same, reason_first other c h same))
              (⊎_elim
              (λ less. absurd (both_ways _ (before other.row other.mode other.reason within less c) h))
              (λ more. omega (arith, slot_of_place s, more, number_small why)))
              (cases_order (slot other.row other.mode) s);
        }
      where
        number_small : (w : Reason) → reason_number w ≤ 2
        number_small reason.Address = omega arith
        number_small reason.Branch = omega arith
        number_small reason.Spill = omega arith

        reason_first : (other : Leak) → counts sought other.mode other.reason ≡ true
            → leaks_at K labels reader rows table other.row other.mode other.reason ≡ true → slot other.row other.mode ≡ s
            → reason_number why ≤ reason_number other.reason
        reason_first other c h same =
            at_slot (λ n j k. counts sought k other.reason ≡ true → leaks_fact K labels reader (get_or rows j row.Halt) other.reason (get_or table n None) ≡ true
            → reason_number why ≤ reason_number other.reason) other.row other.mode
            (λ c h. (some_at (get_or rows (slot other.row other.mode / 2) row.Halt) (mode_at (slot other.row other.mode)) sought
            (get_or table (slot other.row other.mode) None) why (ap At same ∙ some)).2 other.reason c h) c h

    from_slot : (n s : ℕ) → s + n ≡ 2 * length rows → Before s → Found K labels rows reader sought table (first_from K labels reader rows table sought s n)
    from_slot zero s end before = λ i m why inside counted. before i m why inside (omega (arith, slot_inside (length rows) i m inside)) counted
    from_slot (suc n) s end before = by (At s) refl (from_slot n (s + 1) (omega arith))
      where
        by : (o : Option Reason) → At s ≡ o → (Before (s + 1) → Found K labels rows reader sought table (first_from K labels reader rows table sought (s + 1) n))
            → Found K labels rows reader sought table (found_at s o (first_from K labels reader rows table sought (s + 1) n))
        by None e later = later (one_more s before e)
        by (Some why) e later = here_first s why before e (omega arith)

    pub first_found : Found K labels rows reader sought table (first_from K labels reader rows table sought 0 (2 * length rows))
    first_found = from_slot (2 * length rows) 0 (omega arith) (λ i m why inside early counted. absurd (omega arith))
