-- Tables of facts: row by row, the settled fact and then the guessed one. What lies past a table's end is unreached.
use Rattle.std.specs.Prelude.{◌≡◌, ℕ, ◌+◌, ◌*◌, ◌<◌, Bool, true, false, ◌&&◌, List, [], ◌∷◌, length, Some, None, slice_index_or}
use Rattle.labels.specs.Kind.{Kind}
use Rattle.routine.specs.declared.rows.Row.{Row}
use Rattle.routine.specs.declared.rows.Row.TheVariants as row
use Rattle.facts.specs.declared.types.Mode.{Mode}
use Rattle.facts.specs.declared.types.Mode.TheVariants.{Settled, Guessed}
use Rattle.facts.specs.declared.types.Reason.{Reason}
use Rattle.facts.specs.Order.{Fact, start, below_fact}
use Rattle.facts.specs.Rules.{Handed, hands}
use Rattle.facts.specs.Leaks.{leaks}

-- where a row's fact in a mode stands in a table
abbrev pub slot : ℕ → Mode → ℕ
slot i Settled = 2 * i
slot i Guessed = 2 * i + 1

-- the fact of a row in a mode
abbrev pub fact_at : {L : Type 0} → List (Fact L) → ℕ → Mode → Fact L
fact_at table i m = slice_index_or table (slot i m) None

module _ {L : Type 0} (K : Kind L) where
  -- what a row hands on from a fact; an unreached row hands on nothing
  abbrev pub hands_fact : List L → Row → ℕ → Mode → Fact L → List (Handed L)
  hands_fact labels x i m None = []
  hands_fact labels x i m (Some ks) = hands K labels x i m ks

  -- what row i hands on in a mode, under a table
  abbrev pub hands_at : List L → List Row → List (Fact L) → ℕ → Mode → List (Handed L)
  hands_at labels rows table i m = hands_fact labels (slice_index_or rows i row.Halt) i m (fact_at table i m)

  -- every fact handed to a row is at or below that row's fact
  abbrev pub admits : List (Fact L) → List (Handed L) → Bool
  admits table [] = true
  admits table (h ∷ hs) = below_fact K (Some h.known) (fact_at table h.row h.mode) && admits table hs

  -- closed: row 0 is reached in settled mode, and every row's fact admits all that is handed to it
  pub record Closed (labels : List L) (rows : List Row) (table : List (Fact L)) : Type 0 where
    pub entered : below_fact K (Some (start K)) (fact_at table 0 Settled) ≡ true
    pub admitted : (i : ℕ) (m : Mode) → i < length rows → admits table (hands_at labels rows table i m) ≡ true

  -- whether a row with a fact leaks for a reason; an unreached row leaks nothing
  abbrev pub leaks_fact : List L → L → Row → Reason → Fact L → Bool
  leaks_fact labels reader x why None = false
  leaks_fact labels reader x why (Some ks) = leaks K labels reader x ks why

  -- whether row i leaks in a mode for a reason, under a table
  abbrev pub leaks_at : List L → L → List Row → List (Fact L) → ℕ → Mode → Reason → Bool
  leaks_at labels reader rows table i m why = leaks_fact labels reader (slice_index_or rows i row.Halt) why (fact_at table i m)
