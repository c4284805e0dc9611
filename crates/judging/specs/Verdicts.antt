-- What a verdict says of a routine, in terms of closed tables and leaks.
use Rattle.std.specs.Prelude.{◌≡◌, ℕ, ◌+◌, ◌*◌, ◌<◌, ◌≤◌, true, false, List, length, take, drop, Some, None, Option}
use Rattle.labels.specs.Kind.{Kind}
use Rattle.routine.specs.declared.rows.Row.{Row}
use Rattle.facts.specs.declared.types.Mode.{Mode}
use Rattle.facts.specs.declared.types.Reason.{Reason}
use Rattle.facts.specs.declared.types.Reason.TheVariants as reason
use Rattle.facts.specs.declared.types.Sought.{Sought}
use Rattle.facts.specs.declared.types.Sought.TheVariants.{AnyLeak, SpillOrGuessed}
use Rattle.facts.specs.Order.{Fact, below_fact}
use Rattle.facts.specs.Leaks.{counts}
use Rattle.facts.specs.Tables.{slot, fact_at, Closed, leaks_at}
use Rattle.judging.specs.declared.verdict.Leak.{Leak}
use Rattle.judging.specs.declared.verdict.Verdict.{Verdict}
use Rattle.judging.specs.declared.verdict.Verdict.TheVariants.{C, G, L}

-- the order of reasons: address, branch, spill
abbrev pub reason_number : Reason → ℕ
reason_number reason.Address = 0
reason_number reason.Branch = 1
reason_number reason.Spill = 2

-- the order of leaks: by row, then settled before guessed, then by reason
abbrev pub place : Leak → ℕ
place leak = 3 * slot leak.row leak.mode + reason_number leak.reason

module _ {Label : Type 0} (K : Kind Label) (labels : List Label) (rows : List Row) where
  -- closed, and at or below every closed table
  pub record Least (table : List (Fact Label)) : Type 0 where
    pub closed : Closed K labels rows table
    pub lowest : (other : List (Fact Label)) → Closed K labels rows other
        → (i : ℕ) (m : Mode) → i < length rows → below_fact K (fact_at table i m) (fact_at other i m) ≡ true

module _ {Label : Type 0} (K : Kind Label) (labels : List Label) (rows : List Row) (reader : Label) where
  -- under the table no row has a leak of those sought
  abbrev pub NoLeak : Sought → List (Fact Label) → Type 0
  NoLeak sought table = (i : ℕ) (m : Mode) (why : Reason) → i < length rows → counts sought m why ≡ true
      → leaks_at K labels reader rows table i m why ≡ false

  -- some closed table has none of the leaks sought
  abbrev pub Passes : Sought → Type 0
  Passes sought = (table : List (Fact Label)) × Closed K labels rows table × NoLeak sought table

  -- a leak of those sought, and none comes before it
  pub record First (sought : Sought) (table : List (Fact Label)) (leak : Leak) : Type 0 where
    pub inside : leak.row < length rows
    pub counted : counts sought leak.mode leak.reason ≡ true
    pub leaking : leaks_at K labels reader rows table leak.row leak.mode leak.reason ≡ true
    pub earliest : (other : Leak) → other.row < length rows → counts sought other.mode other.reason ≡ true
        → leaks_at K labels reader rows table other.row other.mode other.reason ≡ true → place leak ≤ place other

  -- the verdict is the one that the rules give: C where some closed table has no leak; G where none has, but some has no spill and no
  -- guessed leak, naming the least table's first leak; L where neither has, naming its first spill or guessed leak
  abbrev pub Says : List (Fact Label) → Verdict → Type 0
  Says least C = Passes AnyLeak
  Says least (G leak) = (Passes AnyLeak → ⊥) × Passes SpillOrGuessed × First AnyLeak least leak
  Says least (L leak) = (Passes AnyLeak → ⊥) × (Passes SpillOrGuessed → ⊥) × First SpillOrGuessed least leak

  -- a search under a table: what it found, if anything
  abbrev pub Found : Sought → List (Fact Label) → Option Leak → Type 0
  Found sought table None = NoLeak sought table
  Found sought table (Some leak) = First sought table leak

  -- judging, by the work table before and after it: the table holds the least closed table, row by row, and is as before beyond it;
  -- the verdict is the one that the rules give
  pub record Judges (before after : List (Fact Label)) (verdict : Verdict) : Type 0 where
    pub least : Least K labels rows (take (2 * length rows) after)
    pub beyond : drop (2 * length rows) after ≡ drop (2 * length rows) before
    pub says : Says (take (2 * length rows) after) verdict

  -- the rules give a routine a verdict
  abbrev pub Gives : Verdict → Type 0
  Gives verdict = (table : List (Fact Label)) × Least K labels rows table × Says table verdict
