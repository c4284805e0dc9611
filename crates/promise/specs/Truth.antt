-- What the facts say is true.
use Rattle.std.specs.Prelude.{◌≡◌, ℕ, ◌^◌, ◌<◌, true, List, [], ◌∷◌, length, slice_index, Some}
use Rattle.labels.specs.Kind.{Kind}
use Rattle.routine.specs.Limits.{within}
use Rattle.routine.specs.declared.rows.Row.{Row}
use Rattle.facts.specs.declared.types.Mode.{Mode}
use Rattle.facts.specs.declared.types.Mode.TheVariants.{Settled, Guessed}
use Rattle.facts.specs.declared.types.Known.{Known}
use Rattle.facts.specs.Order.{Fact, known_at}
use Rattle.facts.specs.Tables.{fact_at, Closed}
use Rattle.promise.specs.Guessing.{Build, Level, start, after}

module _ {L : Type 0} (K : Kind L) (table : List (Fact L)) where
  -- a level's row is reached in its mode, and every register is below two to its width
  pub record Holds (m : Mode) (f : Level) : Type 0 where
    pub known : List (Known L)
    pub reached : fact_at table f.row m ≡ Some known
    pub below : (r : ℕ) → slice_index f.registers r < 2 ^ (known_at K known r).width

  -- at every level: the lowest settled, those above it guessed
  abbrev pub AllHold : Level → List Level → Type 0
  AllHold f [] = Holds Settled f
  AllHold f (g ∷ gs) = Holds Guessed f × AllHold g gs

-- along any run on a list of words of the routine's size, in any closed table
abbrev pub FactsTrue : {L : Type 0} → Kind L → Type 0
FactsTrue {L} K = (labels : List L) (rows : List Row) → within rows (length labels) (length labels) ≡ true → (table : List (Fact L)) → Closed K labels rows table
    → (B : Build) (ws p q : List ℕ) → length ws ≡ length labels → (n : ℕ) → AllHold K table (after B rows n (start ws p q)).top (after B rows n (start ws p q)).waiting
