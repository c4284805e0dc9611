use Rattle.std.proofs.Common.{◌*◌, ◌/◌, ◌<◌, false, length, get_or, set, sym, refl, ap, ◌∙◌, subst, subst₂, arith, rules, Some, None}
use Rattle.std.proofs.lemmas.List.{get_or_default}
use Rattle.routine.specs.Parts.{rows_of, labels_of}
use Rattle.routine.specs.declared.rows.Row.TheVariants as row
use Rattle.facts.specs.Rules.{hands}
use Rattle.judging.specs.Steps.{Fitting, Received}
use Rattle.judging.proofs.Fits.{hands_fit}
use Rattle.judging.proofs.Taken.{few, valid}
use Rattle.judging.proofs.Receiving.{received_none}
use Rattle.judging.proofs.Turns.{reached_hands, unreached_hands, running_turns, turn_lighter}
use Rattle.judging.proofs.least.Work.turn.Goals as goal

pub hand_on-requires : goal.hand_on-requires
hand_on-requires g c =
    let K = g.L.Label.kind in
    let routine = c.args.routine.now in
    let rows = rows_of routine in
    let here = c.args.place / 2 in
    let inside : here < length rows = omega (arith, c.requires.running.table_long, c.requires.inside) in
    let fit = hands_fit K (labels_of routine) rows (valid routine) here c.mode_of.result (Some c.in-Some.known) inside in
    let read = get_or_default rows here row.Halt (row.Set 0 0) inside in (
      search rules,
      (
        subst₂ (λ ls rs. Fitting (length c.args.self.now.table.now) (hands K ls (get_or rs here (row.Set 0 0)) here c.mode_of.result c.in-Some.known))
            (sym c.labels.ensures) (sym c.rows.ensures)
            (subst (λ n. Fitting n (hands K (labels_of routine) (get_or rows here (row.Set 0 0)) here c.mode_of.result c.in-Some.known)) (sym c.requires.running.table_long)
            (subst (λ x. Fitting (2 * length rows) (hands K (labels_of routine) x here c.mode_of.result c.in-Some.known)) read fit)),
        omega (arith, inside, few routine),
      ),
    )

pub returns-in-Some : goal.returns-in-Some
returns-in-Some g c =
    let K = g.L.Label.kind in
    let laws = g.L.Label.lawful in
    let rows = rows_of c.args.routine.now in
    let labels = labels_of c.args.routine.now in
    let here = c.args.place / 2 in
    let table = c.args.self.now.table.now in
    let stale = c.args.self.now.stale in
    let after = c.hand_on.new.self.table.now in
    let stale' = c.hand_on.new.self.stale in
    let inside : here < length rows = omega (arith, c.requires.running.table_long, c.requires.inside) in
    let read = ap (λ rs. get_or rs here (row.Set 0 0)) c.rows.ensures ∙ sym (get_or_default rows here row.Halt (row.Set 0 0) inside) in
    let hs = reached_hands K laws labels rows table c.args.place None _ c.mode_of.result c.in-Some.known c.requires.inside
    (sym c.in-Some.is ∙ c.requires.read) read c.mode_of.ensures in
    let got = subst (λ hs. Received K hs table after (set stale c.args.place false) stale') hs
    (subst (λ ls. Received K (hands K ls (get_or c.rows.result.now here (row.Set 0 0)) here c.mode_of.result c.in-Some.known) table after (set stale c.args.place false) stale') c.labels.ensures c.hand_on.ensures.received) in
    record {
      same = c.hand_on.ensures.same;
      running = running_turns K laws labels rows table after stale stale' c.args.place c.requires.running c.requires.inside got;
      lighter = turn_lighter K laws labels rows table after stale stale' c.args.place c.requires.running c.requires.inside got c.requires.marked;
    }

pub returns-in_default : goal.returns-in_default
returns-in_default g c =
    let K = g.L.Label.kind in
    let laws = g.L.Label.lawful in
    let rows = rows_of c.args.routine.now in
    let labels = labels_of c.args.routine.now in
    let table = c.args.self.now.table.now in
    let stale = c.args.self.now.stale in
    let cleared = set stale c.args.place false in
    let hs = unreached_hands K laws labels rows table c.args.place None c.requires.inside (sym c.in_default.is ∙ c.requires.read) in
    let got = subst (λ hs. Received K hs table table cleared cleared) hs (received_none K laws table cleared) in
    record {
      same = refl;
      running = running_turns K laws labels rows table table stale cleared c.args.place c.requires.running c.requires.inside got;
      lighter = turn_lighter K laws labels rows table table stale cleared c.args.place c.requires.running c.requires.inside got c.requires.marked;
    }
