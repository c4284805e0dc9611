use Rattle.std.proofs.Common.{◌≡◌, ℕ, ◌+◌, ◌-◌, ◌≤◌, true, List, length, take, Err, sym, refl, ap, ◌∙◌, subst, subst₂, ⊎_elim, arith}
use Rattle.std.proofs.lemmas.List.{length-take-le}
use Rattle.std.proofs.lemmas.Bool.{both_ways, and_from, le-leb, eq-eqb}
use Rattle.refusals.specs.declared.Refusal.{Refusal}
use Rattle.refusals.specs.declared.Refusal.TheVariants as plain
use Rattle.refusals.specs.declared.cards.CardRefusal.TheVariants as refusal
use Rattle.routine.specs.declared.rows.Row.{Row}
use Rattle.routine.specs.Limits.{within, word_count_fits, DeclinedBy}
use Rattle.routine.proofs.Limits.{within_parts}
use Rattle.cards.specs.Rows.{map_ok}
use Rattle.cards.proofs.Wholes.{fields_fail, whole_ok, whole_target, whole_ending}
use Rattle.cards.proofs.draft.Draft.check_whole.Goals as goal
use Rattle.cards.proofs.draft.Draft.check_whole.Goals.{In-Err}

-- there is a label for each of the words
words_fit : (words labels : ℕ) → 1 ≤ words → words ≤ 4096 → labels ≡ words → word_count_fits words labels ≡ true
words_fit words labels some small each = and_from _ _ (and_from _ _ (le-leb 1 words some) (le-leb words 4096 small)) (eq-eqb labels words each)

-- the ground of a refusal that is known
declined : (c : In-Err) (rows : List Row) {e : Refusal} → c.args.self.now.rows.items ≡ rows → c.in-Err.refusal ≡ e
    → DeclinedBy rows c.args.self.now.head.words (length (take c.args.self.now.head.words c.args.self.now.labels)) e
declined c rows same is =
    let self = c.args.self.now in
    subst₂ (λ rows e. DeclinedBy rows self.head.words (length (take self.head.words self.labels)) e) (c.as_slice.ensures.value ∙ same) is c.in-Err.ensures

pub unreachable-requires : goal.unreachable-requires
unreachable-requires c =
    let self = c.args.self.now in
    let words = self.head.words in
    let rows = self.rows.items in
    let at = (goal.at.unreachable-requires c).In-Err in
    let each : length (take words self.labels) ≡ words = length-take-le words self.labels (omega (arith, self.small)) in
    ⊎_elim (λ is. both_ways _ (declined at rows {e = plain.WordCount} refl is).1 (words_fit words _ self.some self.small each))
    (⊎_elim (λ row. fields_fail rows words row.0 self.fits (declined at rows {e = plain.RowField row.0} refl row.1).2)
    (⊎_elim (λ is. declined at rows {e = plain.WorkTable} refl is) (λ is. declined at rows {e = plain.GradeRange} refl is)))
    c.in-WordCount.is

pub returns-in-Ok : goal.returns-in-Ok
returns-in-Ok c = λ card drafts.
    let words = c.args.self.now.head.words in
    let all = subst (λ rows. within rows words (length (take words c.args.self.now.labels)) ≡ true) (c.as_slice.ensures.value ∙ drafts.rows) c.in-Ok.ensures in
    let (count, sized, fields, targets, last) = within_parts card.rows words _ all in
    sym (ap (λ r. map_ok r (λ _. tt)) (whole_ok card (record { count = count; targets = targets; last = last })))

pub returns-in-Target : goal.returns-in-Target
returns-in-Target c = λ card drafts.
    let self = c.args.self.now in
    let row = c.in-Target.row in
    let why = declined (goal.at.returns-in-Target c).In-Err card.rows {e = plain.Target row} drafts.rows c.in-Target.is in
    let line : 2 + length card.labs + row ≡ self.labs + 2 + row = omega (arith, drafts.labs) in
    sym (ap (λ r. map_ok r (λ _. tt)) (whole_target card why.0 row why.3 ∙ ap (λ n. Err (refusal.Target n)) line))

pub returns-in-Ending : goal.returns-in-Ending
returns-in-Ending c = λ card drafts.
    let self = c.args.self.now in
    let row = c.in-Ending.row in
    let why = declined (goal.at.returns-in-Ending c).In-Err card.rows {e = plain.Ending row} drafts.rows c.in-Ending.is in
    let line : 2 + length card.labs + (length card.rows - 1) ≡ self.labs + 2 + row = omega (arith, drafts.labs, why.4) in
    sym (ap (λ r. map_ok r (λ _. tt)) (whole_ending card why.0 why.3 why.5 ∙ ap (λ n. Err (refusal.Ending n)) line))
