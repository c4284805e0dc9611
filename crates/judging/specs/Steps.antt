-- How the judge computes, for the contracts of its inner functions. No promise to a caller rests on this file.
use Rattle.std.specs.Prelude.{◌≡◌, ℕ, zero, suc, ◌+◌, ◌*◌, ◌/◌, ◌%◌, ◌<◌, ◌≤◌, Bool, true, false, cond, List, [], ◌∷◌, length, replicate, Some, None, Option, ◌==◌, slice_index_or, slice_set}
use Rattle.labels.specs.Kind.{Kind}
use Rattle.routine.specs.Limits.{within}
use Rattle.routine.specs.declared.rows.Row.{Row}
use Rattle.routine.specs.declared.rows.Row.TheVariants as row
use Rattle.facts.specs.declared.types.Mode.{Mode}
use Rattle.facts.specs.declared.types.Mode.TheVariants.{Settled, Guessed}
use Rattle.facts.specs.declared.types.Reason.{Reason}
use Rattle.facts.specs.declared.types.Sought.{Sought}
use Rattle.facts.specs.Rules.{Handed}
use Rattle.facts.specs.Order.{Fact, start, below_fact}
use Rattle.facts.specs.Raising.{room}
use Rattle.facts.specs.Leaks.{sought_leak, first_reason}
use Rattle.facts.specs.Tables.{slot, fact_at, hands_at, admits, Closed}
use Rattle.judging.specs.declared.verdict.Leak.{Leak}
use Rattle.judging.specs.declared.verdict.Verdict.{Verdict}
use Rattle.judging.specs.declared.verdict.Verdict.TheVariants.{C, G, L}

-- the mode of a slot: settled at even ones
abbrev pub mode_at : ℕ → Mode
mode_at s = cond (s % 2 == 0) Settled Guessed

-- what is found at a slot, or else later
abbrev pub found_at : ℕ → Option Reason → Option Leak → Option Leak
found_at s (Some why) later = Some (record { row = s / 2; mode = mode_at s; reason = why })
found_at s None later = later

-- every fact that is handed on goes to a slot below n
abbrev pub Fitting : {L : Type 0} → ℕ → List (Handed L) → Type 0
Fitting n [] = Unit {0}
Fitting n (h ∷ hs) = (slot h.row h.mode < n) × Fitting n hs

-- how many slots are stale: raised since what they hand on was last handed on
abbrev pub stale_count : List Bool → ℕ
stale_count [] = 0
stale_count (b ∷ bs) = cond b 1 0 + stale_count bs

module _ {Label : Type 0} (K : Kind Label) where
  -- the table before anything is handed on: only row 0 is reached, in settled mode
  abbrev pub beginning : ℕ → List (Fact Label)
  beginning n = slice_set (replicate n None) 0 (Some (start K))

  abbrev pub rooms : List (Fact Label) → ℕ
  rooms [] = 0
  rooms (f ∷ fs) = room K f + rooms fs

  -- what falls with every turn: a raise makes one slot stale and takes some room
  abbrev pub weight : List (Fact Label) → List Bool → ℕ
  weight table stale = 2 * rooms table + stale_count stale

  -- slot by slot, one table is at or below the other
  abbrev pub Under : List (Fact Label) → List (Fact Label) → Type 0
  Under table other = (s : ℕ) → below_fact K (slice_index_or table s None) (slice_index_or other s None) ≡ true

  -- the table and the stale slots, before and after facts were received
  pub record Received (hs : List (Handed Label)) (table after : List (Fact Label)) (stale stale' : List Bool) : Type 0 where
    pub table_long : length after ≡ length table
    pub grown : Under table after
    -- a slot that is not stale was not, and is as it was
    pub calm : (s : ℕ) → slice_index_or stale' s false ≡ false → (slice_index_or stale s false ≡ false) × (slice_index_or after s None ≡ slice_index_or table s None)
    pub admitted : admits K after hs ≡ true
    -- a table above the one before that admits the facts is above the one after
    pub least : (other : List (Fact Label)) → Under table other → admits K other hs ≡ true → Under after other
    pub lighter : weight after stale' ≤ weight table stale

  -- what holds between turns
  pub record Running (labels : List Label) (rows : List Row) (table : List (Fact Label)) (stale : List Bool) : Type 0 where
    pub table_long : length table ≡ 2 * length rows
    pub entered : below_fact K (Some (start K)) (fact_at table 0 Settled) ≡ true
    pub under : (other : List (Fact Label)) → Closed K labels rows other → Under table other
    pub settled : (i : ℕ) (m : Mode) → i < length rows → slice_index_or stale (slot i m) false ≡ false → admits K table (hands_at K labels rows table i m) ≡ true

-- the rows are those of a routine that was taken
abbrev pub Valid : {Label : Type 0} → List Row → List Label → Type 0
Valid rows labels = within rows (length labels) (length labels) ≡ true

module _ {Label : Type 0} (K : Kind Label) (labels : List Label) (reader : Label) where
  -- the first reason of those sought for which a row with a fact leaks
  abbrev pub leak_of : Row → Mode → Sought → Fact Label → Option Reason
  leak_of x m sought None = None
  leak_of x m sought (Some ks) = first_reason (sought_leak K labels reader x m ks sought)

  -- the first leak of those sought in n slots from s on
  abbrev pub first_from : List Row → List (Fact Label) → Sought → ℕ → ℕ → Option Leak
  first_from rows table sought s zero = None
  first_from rows table sought s (suc n) =
      found_at s (leak_of (slice_index_or rows (s / 2) row.Halt) (mode_at s) sought (slice_index_or table s None)) (first_from rows table sought (s + 1) n)

-- the verdict, from the first leak and the first spill or guessed leak
abbrev pub verdict_from : Option Leak → Option Leak → Verdict
verdict_from None grave = C
verdict_from (Some leak) None = G leak
verdict_from (Some leak) (Some grave) = L grave
