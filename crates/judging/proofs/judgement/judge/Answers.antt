use Rattle.std.proofs.Common.{◌≡◌, ℕ, ◌*◌, ◌≤◌, List, ◌++◌, length, take, drop, sym, ap, ◌∙◌, subst, rules}
use Rattle.std.proofs.lemmas.List.{take_at, drop_at, length-take-le}
use Rattle.labels.specs.Kind.{Kind, Lawful}
use Rattle.routine.specs.Parts.{rows_of, labels_of}
use Rattle.routine.specs.declared.rows.Row.{Row}
use Rattle.routine.specs.declared.taken.Taken.{Taken}
use Rattle.facts.specs.declared.types.Sought.TheVariants.{AnyLeak, SpillOrGuessed}
use Rattle.judging.specs.declared.verdict.Verdict.{Verdict}
use Rattle.judging.specs.Steps.{first_from, verdict_from}
use Rattle.judging.specs.Verdicts.{Least, Says, Judges}
use Rattle.judging.proofs.Searching.{first_found}
use Rattle.judging.proofs.Saying.{says}
use Rattle.judging.proofs.judgement.judge.Goals as goal
use Rattle.facts.specs.Order.{Fact}

-- from the work part to the whole table
judges : {L : Type 0} (K : Kind L) (laws : Lawful K) (labels : List L) (rows : List Row) (reader : L) (before work : List (Fact L)) (verdict : Verdict) (n : ℕ)
    → n ≡ 2 * length rows → length work ≡ 2 * length rows → Least K labels rows work
    → verdict ≡ verdict_from (first_from K labels reader rows work AnyLeak 0 (length work)) (first_from K labels reader rows work SpillOrGuessed 0 (length work))
    → Judges K labels rows reader before (work ++ drop n before) verdict
judges K laws labels rows reader before work verdict n same long least is =
    let front : take (2 * length rows) (work ++ drop n before) ≡ work = take_at work (drop n before) (2 * length rows) long in
    let said : Says K labels rows reader work verdict =
    subst (Says K labels rows reader work)
    (sym (is ∙ ap (λ m. verdict_from (first_from K labels reader rows work AnyLeak 0 m) (first_from K labels reader rows work SpillOrGuessed 0 m)) long))
    (says K laws labels rows reader work least _ _ (first_found K labels rows reader work AnyLeak) (first_found K labels rows reader work SpillOrGuessed)) in
    record {
      least = subst (Least K labels rows) (sym front) least;
      beyond = drop_at work (drop n before) (2 * length rows) long ∙ ap (λ m. drop m before) same;
      says = subst (λ table. Says K labels rows reader table verdict) (sym front) said;
    }

-- the part of the table that is worked on is as long as the rows ask
part_long : {X : Type 0} (table : List X) (rows rows' : List Row) → rows ≡ rows' → 2 * length rows' ≤ length table → length (take (2 * length rows) table) ≡ 2 * length rows'
part_long table rows rows' same few =
    subst (λ rs. length (take (2 * length rs) table) ≡ 2 * length rows') (sym same) (length-take-le (2 * length rows') table few)

pub verdict_under-verdict-requires : goal.verdict_under-verdict-requires
verdict_under-verdict-requires g c =
    (search rules, c.fill_least.auto.table ∙ part_long c.args.table.now c.rows.result.now (rows_of c.args.taken) c.rows.ensures c.requires)

-- what was judged, by the rows that were read from the taken routine
judged : {L : Type 0} (K : Kind L) (laws : Lawful K) (taken : Taken L) (rs : List Row) (reader : L) (before work : List (Fact L)) (verdict : Verdict)
    → rs ≡ rows_of taken → length work ≡ 2 * length (rows_of taken) → Least K (labels_of taken) (rows_of taken) work
    → verdict ≡ verdict_from (first_from K (labels_of taken) reader (rows_of taken) work AnyLeak 0 (length work))
    (first_from K (labels_of taken) reader (rows_of taken) work SpillOrGuessed 0 (length work))
    → Judges K (labels_of taken) (rows_of taken) reader before (work ++ drop (2 * length rs) before) verdict
judged K laws taken rs reader before work verdict same long least is =
    judges K laws (labels_of taken) (rows_of taken) reader before work verdict (2 * length rs) (ap (λ rows. 2 * length rows) same) long least is

pub returns-clause-judged : goal.returns-clause-judged
returns-clause-judged g c =
    let taken = c.args.taken in
    let long = c.fill_least.auto.table ∙ part_long c.args.table.now c.rows.result.now (rows_of taken) c.rows.ensures c.requires in
    judged g.L.Label.kind g.L.Label.lawful taken c.rows.result.now c.args.reader c.args.table.now c.fill_least.new.table c.verdict_under-verdict.result
    c.rows.ensures long c.fill_least.ensures c.verdict_under-verdict.ensures
