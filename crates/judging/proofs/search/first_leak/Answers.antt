use Rattle.std.proofs.Common.{◌≡◌, ℕ, suc, ◌+◌, ◌-◌, ◌*◌, ◌/◌, ◌<◌, List, length, get_or, Some, None, Option, sym, ap, ◌∙◌, subst, ap₂, arith}
use Rattle.std.proofs.lemmas.List.{get_or_default, get_or_read}
use Rattle.labels.specs.Kind.{Kind}
use Rattle.routine.specs.declared.rows.Row.{Row}
use Rattle.routine.specs.declared.rows.Row.TheVariants as row
use Rattle.facts.specs.declared.types.Mode.{Mode}
use Rattle.facts.specs.declared.types.Reason.{Reason}
use Rattle.facts.specs.declared.types.Sought.{Sought}
use Rattle.judging.specs.declared.verdict.Leak.{Leak}
use Rattle.judging.specs.Steps.{mode_at, leak_of, found_at, first_from}
use Rattle.judging.proofs.search.first_leak.Goals as goal
use Rattle.facts.specs.Order.{Fact}

-- one slot more is looked at
step : {L : Type 0} (K : Kind L) (labels : List L) (reader : L) (rows : List Row) (table : List (Fact L)) (sought : Sought) (s : ℕ) (f : Fact L) (m : Mode) (o : Option Reason)
    → s < length table → length table ≡ 2 * length rows → f ≡ get_or table s f → m ≡ mode_at s
    → o ≡ leak_of K labels reader (get_or rows (s / 2) (row.Set 0 0)) m sought f
    → first_from K labels reader rows table sought s (length table - s) ≡ found_at s o (first_from K labels reader rows table sought (s + 1) (length table - (s + 1)))
step K labels reader rows table sought s f m o inside long read mode is =
    let more : length table - s ≡ suc (length table - (s + 1)) = omega arith in
    let within : s / 2 < length rows = omega arith in
    let here : leak_of K labels reader (get_or rows (s / 2) row.Halt) (mode_at s) sought (get_or table s None) ≡ o =
    sym (is ∙ ap₂ (λ x k. leak_of K labels reader x k sought f) (get_or_default rows (s / 2) (row.Set 0 0) row.Halt within) mode
    ∙ ap (leak_of K labels reader (get_or rows (s / 2) row.Halt) (mode_at s) sought) (get_or_read table s f inside read None)) in
    ap (first_from K labels reader rows table sought s) more
    ∙ ap (λ x. found_at s x (first_from K labels reader rows table sought (s + 1) (length table - (s + 1)))) here

pub loop-place-init : goal.loop-place-init
loop-place-init g c =
    let whole : length c.args.table.now - 0 ≡ length c.args.table.now = omega arith in
    ap (first_from g.L.Label.kind c.labels-labels.result.now c.args.reader c.rows-rows.result.now c.args.table.now c.args.sought 0) whole

-- the rows and labels that were read are the routine's
read : {L : Type 0} (K : Kind L) (reader : L) (table : List (Fact L)) (sought : Sought) (labels ls : List L) (rows rs : List Row) (found : Option Leak)
    → ls ≡ labels → rs ≡ rows → found ≡ first_from K ls reader rs table sought 0 (length table) → found ≡ first_from K labels reader rows table sought 0 (length table)
read K reader table sought labels ls rows rs found e f is = is ∙ ap₂ (λ l r. first_from K l reader r table sought 0 (length table)) e f

pub returns-in-Some : goal.returns-in-Some
returns-in-Some g c =
    let K = g.L.Label.kind in
    let s = c.loop-place.place in
    let labels = c.labels-labels.result.now in
    let rows = c.rows-rows.result.now in
    let table = c.args.table.now in
    let long = subst (λ rs. length table ≡ 2 * length rs) (sym c.rows-rows.ensures) c.requires in
    let found = step K labels c.args.reader rows table c.args.sought s c.index-table-place.result c.mode_of-mode.result (Some c.in-Some.reason) (omega (arith, c.loop-place-test.true)) long c.index-table-place.is c.mode_of-mode.ensures c.in-Some.ensures in
    read K c.args.reader table c.args.sought _ labels _ rows _ c.labels-labels.ensures c.rows-rows.ensures
    (ap (λ m. Some (record { row = s / 2; mode = m; reason = c.in-Some.reason })) c.mode_of-mode.ensures ∙ sym found ∙ c.loop-place.invariant)

pub loop-place-preserved : goal.loop-place-preserved
loop-place-preserved g c =
    let table = c.args.table.now in
    let long = subst (λ rs. length table ≡ 2 * length rs) (sym c.rows-rows.ensures) c.requires in
    sym (step g.L.Label.kind c.labels-labels.result.now c.args.reader c.rows-rows.result.now table c.args.sought c.loop-place.place
    c.index-table-place.result c.mode_of-mode.result None (omega (arith, c.loop-place-test.true)) long c.index-table-place.is c.mode_of-mode.ensures c.in_default.ensures)
    ∙ c.loop-place.invariant
