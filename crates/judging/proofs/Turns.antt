-- What holds between turns: at the beginning, after every turn, and once nothing is stale.
use Rattle.std.proofs.Common.{◌≡◌, ℕ, ◌*◌, ◌/◌, ◌<◌, ◌≤◌, Bool, true, false, ◌≢◌, List, [], length, get_or, set, replicate, Some, None, sym, refl, ap, ◌∙◌, subst, ap₂, ⊎_elim, arith, length-set}
use Rattle.std.proofs.lemmas.List.{get_or-set_same, get_or-set_other, get_or-replicate, get_or_past, get_or_default, length-replicate}
use Rattle.std.proofs.lemmas.Bool.{cases_eq, cases_lt, false≢true}
use Rattle.labels.specs.Kind.{Kind, Lawful}
use Rattle.routine.specs.declared.rows.Row.{Row}
use Rattle.routine.specs.declared.rows.Row.TheVariants as row
use Rattle.facts.specs.declared.types.Mode.{Mode}
use Rattle.facts.specs.declared.types.Mode.TheVariants.{Settled}
use Rattle.facts.specs.declared.types.Known.{Known}
use Rattle.facts.specs.Order.{Fact, start, below_fact}
use Rattle.facts.specs.Rules.{hands}
use Rattle.facts.specs.Tables.{slot, fact_at, hands_fact, hands_at, admits}
use Rattle.facts.proofs.Orders.{all_refl, fact_trans}
use Rattle.facts.proofs.Monotone.{facts_admitted}
use Rattle.judging.specs.Steps.{mode_at, beginning, Under, Received, Running, weight}
use Rattle.judging.specs.Verdicts.{Least}
use Rattle.judging.proofs.Places.{slot_of_place, row_of_slot, mode_of_slot, slot_inside}
use Rattle.judging.proofs.Receiving.{admits_higher}
use Rattle.judging.proofs.Weights.{clear_stale}

module _ {L : Type 0} (K : Kind L) where
  abbrev nowhere : ℕ → List (Fact L)
  nowhere n = replicate n None

  nothing_reached : (n s : ℕ) → get_or (nowhere n) s None ≡ None
  nothing_reached n s =
      ⊎_elim (λ h. get_or-replicate n s None None h) (λ h. get_or_past (nowhere n) s None (subst (λ k. k ≤ s) (sym (length-replicate n None)) h)) (cases_lt s n)

  -- at the beginning
  first_slot : (n : ℕ) → 0 < n → get_or (beginning K n) 0 None ≡ Some (start K)
  first_slot n h = get_or-set_same (replicate n None) 0 (Some (start K)) None (subst (λ k. 0 < k) (sym (length-replicate n None)) h)

  other_slot : (n s : ℕ) → s ≢ 0 → get_or (beginning K n) s None ≡ None
  other_slot n s apart = get_or-set_other (replicate n None) 0 s (Some (start K)) None apart ∙ nothing_reached n s

  -- the beginning is at or below every table in which row 0 is reached
  pub beginning_under : (n : ℕ) → 0 < n → (other : List (Fact L)) → below_fact K (Some (start K)) (fact_at other 0 Settled) ≡ true → Under K (beginning K n) other
  beginning_under n some other entered s =
      ⊎_elim
      (λ zero'. subst (λ x. below_fact K (get_or (beginning K n) x None) (get_or other x None) ≡ true) (sym zero')
      (subst (λ f. below_fact K f (get_or other 0 None) ≡ true) (sym (first_slot n some)) entered))
      (λ apart. subst (λ f. below_fact K f (get_or other s None) ≡ true) (sym (other_slot n s apart)) refl)
      (cases_eq s 0)

module _ {L : Type 0} (K : Kind L) (laws : Lawful K) (labels : List L) (rows : List Row) where
  pub running_begins : (stale : List Bool) → 0 < length rows → get_or stale 0 false ≡ true
      → Running K labels rows (beginning K (2 * length rows)) stale
  running_begins stale some first = record {
    table_long = length-set _ _ _ ∙ length-replicate _ _;
    entered = subst (λ f. below_fact K (Some (start K)) f ≡ true) (sym (first_slot K (2 * length rows) (omega arith))) (all_refl K laws (start K));
    under = λ other closed. beginning_under K (2 * length rows) (omega arith) other closed.entered;
    settled = λ i m inside calm.
        subst (λ f. admits K (beginning K (2 * length rows)) (hands_fact K labels (get_or rows i row.Halt) i m f) ≡ true)
        (sym (other_slot K (2 * length rows) (slot i m) (λ zero'. false≢true (sym calm ∙ ap (λ s. get_or stale s false) zero' ∙ first)))) refl;
  }

  -- a higher table that admits all that it hands on itself admits what a lower one hands on
  pub hands_under : (table other : List (Fact L)) → Under K table other → (i : ℕ) (m : Mode) → admits K other (hands_at K labels rows other i m) ≡ true
      → admits K other (hands_at K labels rows table i m) ≡ true
  hands_under table other up i m h =
      facts_admitted K laws (fact_at table i m) (fact_at other i m) (up (slot i m)) other labels (get_or rows i row.Halt) i m h

  -- what the code reads of a slot is what the table hands on there
  at_place : (table : List (Fact L)) (s : ℕ) (f : Fact L) → get_or table s None ≡ f
      → hands_at K labels rows table (s / 2) (mode_at s) ≡ hands_fact K labels (get_or rows (s / 2) row.Halt) (s / 2) (mode_at s) f
  at_place table s f is =
      ap (hands_fact K labels (get_or rows (s / 2) row.Halt) (s / 2) (mode_at s)) (ap (λ n. get_or table n None) (slot_of_place s) ∙ is)

  pub reached_hands : (table : List (Fact L)) (s : ℕ) (d : Fact L) (x : Row) (m : Mode) (ks : List (Known L)) → s < length table
      → Some ks ≡ get_or table s d → x ≡ get_or rows (s / 2) row.Halt → m ≡ mode_at s
      → hands K labels x (s / 2) m ks ≡ hands_at K labels rows table (s / 2) (mode_at s)
  reached_hands table s d x m ks inside known same_row same-mode =
      ap₂ (λ y k. hands K labels y (s / 2) k ks) same_row same-mode
      ∙ sym (at_place table s (Some ks) (get_or_default table s None d inside ∙ sym known))

  pub unreached_hands : (table : List (Fact L)) (s : ℕ) (d : Fact L) → s < length table → None ≡ get_or table s d
      → [] ≡ hands_at K labels rows table (s / 2) (mode_at s)
  unreached_hands table s d inside known = sym (at_place table s None (get_or_default table s None d inside ∙ sym known))

  module _ (table after : List (Fact L)) (stale stale' : List Bool) (s : ℕ) (run : Running K labels rows table stale) (inside : s < length table)
      (got : Received K (hands_at K labels rows table (s / 2) (mode_at s)) table after (set stale s false) stale') where
    row_inside : s / 2 < length rows
    row_inside = omega (arith, inside, run.table_long)

    turn_settled : (i : ℕ) (m : Mode) → i < length rows → get_or stale' (slot i m) false ≡ false → admits K after (hands_at K labels rows after i m) ≡ true
    turn_settled i m h calm =
        let (cleared, same) = got.calm (slot i m) calm in
        let before : admits K after (hands_at K labels rows table i m) ≡ true =
        ⊎_elim
        (λ here.
        subst (λ k. admits K after (hands_at K labels rows table i k) ≡ true) (mode_of_slot i m)
        (subst (λ j. admits K after (hands_at K labels rows table j (mode_at (slot i m))) ≡ true) (row_of_slot i m)
        (subst (λ x. admits K after (hands_at K labels rows table (x / 2) (mode_at x)) ≡ true) (sym here) got.admitted)))
        (λ apart. admits_higher K laws table after (hands_at K labels rows table i m) got.grown
        (run.settled i m h (sym (get_or-set_other stale s (slot i m) false false apart) ∙ cleared)))
        (cases_eq (slot i m) s) in
        subst (λ f. admits K after (hands_fact K labels (get_or rows i row.Halt) i m f) ≡ true) (sym same) before

    pub running_turns : Running K labels rows after stale'
    running_turns = record {
      table_long = got.table_long ∙ run.table_long;
      entered = fact_trans K laws (Some (start K)) (fact_at table 0 Settled) (fact_at after 0 Settled) run.entered (got.grown 0);
      under = λ other closed. got.least other (run.under other closed)
          (hands_under table other (run.under other closed) (s / 2) (mode_at s) (closed.admitted (s / 2) (mode_at s) row_inside));
      settled = turn_settled;
    }

    pub turn_lighter : get_or stale s false ≡ true → weight K after stale' < weight K table stale
    turn_lighter marked = omega (arith, got.lighter, clear_stale stale s marked)

  -- once nothing is stale
  pub running_ends : (table : List (Fact L)) (stale : List Bool) → Running K labels rows table stale → ((s : ℕ) → s < length table → get_or stale s false ≡ false)
      → Least K labels rows table
  running_ends table stale run calm = record {
    closed = record {
      entered = run.entered;
      admitted = λ i m h. run.settled i m h (calm (slot i m) (subst (λ n. slot i m < n) (sym run.table_long) (slot_inside (length rows) i m h)));
    };
    lowest = λ other closed i m h. run.under other closed (slot i m);
  }
