-- What the least table leaks, every closed table leaks: so it gives the verdict.
use Rattle.std.proofs.Common.{List, get_or, Some, None, Option}
use Rattle.std.proofs.lemmas.Bool.{both_ways}
use Rattle.labels.specs.Kind.{Kind, Lawful}
use Rattle.routine.specs.declared.rows.Row.{Row}
use Rattle.routine.specs.declared.rows.Row.TheVariants as row
use Rattle.facts.specs.declared.types.Sought.{Sought}
use Rattle.facts.specs.declared.types.Sought.TheVariants.{AnyLeak, SpillOrGuessed}
use Rattle.facts.specs.Tables.{fact_at}
use Rattle.facts.proofs.Monotone.{facts_leak}
use Rattle.judging.specs.declared.verdict.Leak.{Leak}
use Rattle.judging.specs.Verdicts.{Least, Passes, First, Found, Says}
use Rattle.judging.specs.Steps.{verdict_from}
use Rattle.facts.specs.Order.{Fact}

module _ {L : Type 0} (K : Kind L) (laws : Lawful K) (labels : List L) (rows : List Row) (reader : L) (table : List (Fact L)) (least : Least K labels rows table) where
  none_passes : (sought : Sought) (leak : Leak) → First K labels rows reader sought table leak → Passes K labels rows reader sought → ⊥
  none_passes sought leak first (other, closed, none) =
      both_ways _ (none leak.row leak.mode leak.reason first.inside first.counted)
      (facts_leak K laws (fact_at table leak.row leak.mode) (fact_at other leak.row leak.mode) (least.lowest other closed leak.row leak.mode first.inside)
      labels reader (get_or rows leak.row row.Halt) leak.reason first.leaking)

  pub says : (any grave : Option Leak) → Found K labels rows reader AnyLeak table any → Found K labels rows reader SpillOrGuessed table grave
      → Says K labels rows reader table (verdict_from any grave)
  says None grave none h = (table, least.closed, none)
  says (Some leak) None first none = (none_passes AnyLeak leak first, (table, least.closed, none), first)
  says (Some leak) (Some grave) first worse = (none_passes AnyLeak leak first, none_passes SpillOrGuessed grave worse, worse)
