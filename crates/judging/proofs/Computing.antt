-- The rules' verdict on a given routine, by computing: pass over the table until it is closed.
use Rattle.std.proofs.Common.{◌≡◌, ℕ, zero, suc, ◌+◌, ◌*◌, ◌/◌, ◌<◌, ◌≤◌, Bool, true, ◌&&◌, List, [], ◌∷◌, length, get_or, set, sym, subst, ⊎_elim, arith, Some, None}
use Rattle.std.proofs.lemmas.List.{get_or-set_same, get_or-set_other, set_past}
use Rattle.std.proofs.lemmas.Bool.{cases_eq, cases_lt, and_parts}
use Rattle.labels.specs.Kind.{Kind, Lawful}
use Rattle.routine.specs.declared.rows.Row.{Row}
use Rattle.facts.specs.declared.types.Mode.TheVariants.{Settled}
use Rattle.facts.specs.declared.types.Sought.TheVariants.{AnyLeak, SpillOrGuessed}
use Rattle.facts.specs.declared.types.Known.{Known}
use Rattle.facts.specs.Order.{Fact, start, below_fact, join_all}
use Rattle.facts.specs.Rules.{Handed}
use Rattle.facts.specs.Tables.{slot, fact_at, hands_at, admits, Closed}
use Rattle.facts.proofs.Orders.{all_least}
use Rattle.judging.specs.declared.verdict.Verdict.{Verdict}
use Rattle.judging.specs.Verdicts.{Least, Says, Gives}
use Rattle.judging.specs.Steps.{mode_at, beginning, Under, first_from, verdict_from}
use Rattle.judging.proofs.Places.{row_of_slot, mode_of_slot, slot_inside}
use Rattle.judging.proofs.Turns.{beginning_under, hands_under}
use Rattle.judging.proofs.Searching.{first_found}
use Rattle.judging.proofs.Saying.{says}

module _ {L : Type 0} (K : Kind L) where
  abbrev raised : Fact L → List (Known L) → Fact L
  raised None ks = Some ks
  raised (Some gs) ks = Some (join_all K gs ks)

  abbrev handed : List (Fact L) → List (Handed L) → List (Fact L)
  handed table [] = table
  handed table (h ∷ hs) = handed (set table (slot h.row h.mode) (raised (fact_at table h.row h.mode) h.known)) hs

module _ {L : Type 0} (K : Kind L) (labels : List L) (rows : List Row) where
  -- n slots from s on hand on what they have
  abbrev pass : ℕ → ℕ → List (Fact L) → List (Fact L)
  pass zero s table = table
  pass (suc n) s table = pass n (s + 1) (handed K table (hands_at K labels rows table (s / 2) (mode_at s)))

  abbrev pub passes : ℕ → List (Fact L) → List (Fact L)
  passes zero table = table
  passes (suc k) table = passes k (pass (2 * length rows) 0 table)

  -- n slots from s on hand on only what is admitted
  abbrev closed_from : ℕ → ℕ → List (Fact L) → Bool
  closed_from zero s table = true
  closed_from (suc n) s table = admits K table (hands_at K labels rows table (s / 2) (mode_at s)) && closed_from n (s + 1) table

  -- the table after k passes
  abbrev pub computed : ℕ → List (Fact L)
  computed k = passes k (beginning K (2 * length rows))

  -- whether that table is closed
  abbrev pub is_closed : List (Fact L) → Bool
  is_closed table = below_fact K (Some (start K)) (fact_at table 0 Settled) && closed_from (2 * length rows) 0 table

  -- the verdict of the table after k passes
  abbrev pub verdict_after : L → ℕ → Verdict
  verdict_after reader k =
      verdict_from (first_from K labels reader rows (computed k) AnyLeak 0 (2 * length rows)) (first_from K labels reader rows (computed k) SpillOrGuessed 0 (2 * length rows))

module _ {L : Type 0} (K : Kind L) (laws : Lawful K) (labels : List L) (rows : List Row) where
  raised_least : (f : Fact L) (ks : List (Known L)) (u : Fact L) → below_fact K f u ≡ true → below_fact K (Some ks) u ≡ true → below_fact K (raised K f ks) u ≡ true
  raised_least None ks u p q = q
  raised_least (Some gs) ks None p q = p
  raised_least (Some gs) ks (Some us) p q = all_least K laws gs ks us p q

  set_under : (table other : List (Fact L)) (s : ℕ) (f : Fact L) → Under K table other → below_fact K f (get_or other s None) ≡ true → Under K (set table s f) other
  set_under table other s f up below n =
      ⊎_elim
      (λ inside.
      ⊎_elim
      (λ same. subst (λ x. below_fact K (get_or (set table s f) x None) (get_or other x None) ≡ true) (sym same)
      (subst (λ g. below_fact K g (get_or other s None) ≡ true) (sym (get_or-set_same table s f None inside)) below))
      (λ apart. subst (λ g. below_fact K g (get_or other n None) ≡ true) (sym (get_or-set_other table s n f None apart)) (up n))
      (cases_eq n s))
      (λ past. subst (λ t. below_fact K (get_or t n None) (get_or other n None) ≡ true) (sym (set_past table s f past)) (up n))
      (cases_lt s (length table))

  handed_under : (table other : List (Fact L)) (hs : List (Handed L)) → Under K table other → admits K other hs ≡ true → Under K (handed K table hs) other
  handed_under table other [] up h = up
  handed_under table other (x ∷ hs) up h =
      let (here, later) = and_parts _ _ h in
      handed_under (set table (slot x.row x.mode) (raised K (fact_at table x.row x.mode) x.known)) other hs
      (set_under table other (slot x.row x.mode) _ up (raised_least (fact_at table x.row x.mode) x.known (fact_at other x.row x.mode) (up (slot x.row x.mode)) here)) later

  module _ (other : List (Fact L)) (closed : Closed K labels rows other) where
    pass_under : (n s : ℕ) (table : List (Fact L)) → s + n ≤ 2 * length rows → Under K table other → Under K (pass K labels rows n s table) other
    pass_under zero s table h up = up
    pass_under (suc n) s table h up =
        pass_under n (s + 1) (handed K table (hands_at K labels rows table (s / 2) (mode_at s))) (omega arith)
        (handed_under table other (hands_at K labels rows table (s / 2) (mode_at s)) up
        (hands_under K laws labels rows table other up (s / 2) (mode_at s) (closed.admitted (s / 2) (mode_at s) (omega arith))))

    passes_under : (k : ℕ) (table : List (Fact L)) → Under K table other → Under K (passes K labels rows k table) other
    passes_under zero table up = up
    passes_under (suc k) table up = passes_under k (pass K labels rows (2 * length rows) 0 table) (pass_under (2 * length rows) 0 table (omega arith) up)

  closed_at : (table : List (Fact L)) (n s j : ℕ) → closed_from K labels rows n s table ≡ true → j < n
      → admits K table (hands_at K labels rows table ((s + j) / 2) (mode_at (s + j))) ≡ true
  closed_at table zero s j h less = absurd (omega arith)
  closed_at table (suc n) s zero h less =
      let same : s ≡ s + 0 = omega arith in
      subst (λ x. admits K table (hands_at K labels rows table (x / 2) (mode_at x)) ≡ true) same (and_parts _ _ h).0
  closed_at table (suc n) s (suc j) h less =
      let next : (s + 1) + j ≡ s + suc j = omega arith in
      subst (λ x. admits K table (hands_at K labels rows table (x / 2) (mode_at x)) ≡ true) next (closed_at table n (s + 1) j (and_parts _ _ h).1 (omega arith))

  is_closed_lem : (table : List (Fact L)) → is_closed K labels rows table ≡ true → Closed K labels rows table
  is_closed_lem table h =
      let (entered, closed) = and_parts _ _ h in
      record {
        entered = entered;
        admitted = λ i m inside.
            let whole : 0 + slot i m ≡ slot i m = omega arith in
            let here = subst (λ x. admits K table (hands_at K labels rows table (x / 2) (mode_at x)) ≡ true) whole
            (closed_at table (2 * length rows) 0 (slot i m) closed (slot_inside (length rows) i m inside)) in
            subst (λ k. admits K table (hands_at K labels rows table i k) ≡ true) (mode_of_slot i m)
            (subst (λ j. admits K table (hands_at K labels rows table j (mode_at (slot i m))) ≡ true) (row_of_slot i m) here);
      }

  -- a routine whose table closes after k passes gets the verdict of that table
  pub gives : (reader : L) (k : ℕ) (verdict : Verdict) → 0 < length rows → is_closed K labels rows (computed K labels rows k) ≡ true
      → verdict_after K labels rows reader k ≡ verdict → Gives K labels rows reader verdict
  gives reader k verdict some closed is =
      let table = computed K labels rows k in
      let least : Least K labels rows table = record {
        closed = is_closed_lem table closed;
        lowest = λ other c i m inside. passes_under other c k (beginning K (2 * length rows)) (beginning_under K (2 * length rows) (omega arith) other c.entered) (slot i m);
      } in (
        table,
        least,
        subst (Says K labels rows reader table) is
            (says K laws labels rows reader table least _ _ (first_found K labels rows reader table AnyLeak) (first_found K labels rows reader table SpillOrGuessed)),
      )
