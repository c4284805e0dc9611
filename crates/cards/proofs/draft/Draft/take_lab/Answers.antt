use Rattle.std.proofs.Common.{◌≡◌, ◌+◌, ◌≤◌, true, cond, length, Ok, sym, refl, ap, ◌∙◌, ap₂, arith}
use Rattle.std.proofs.lemmas.Bool.Decides.{nat_tests}
use Rattle.std.proofs.lemmas.List.{length_push}
use Rattle.std.proofs.lemmas.List.Sums.{fold_push}
use Rattle.cards.specs.Text.{four_texts}
use Rattle.cards.specs.Heads.{lab_in}
use Rattle.cards.specs.Cards.{covers, lab_fits}
use Rattle.cards.specs.Reading.{covered_by}
use Rattle.cards.proofs.Painting.{painted}
use Rattle.cards.proofs.Stepping.{steps_by, lab_taken}
use Rattle.cards.proofs.draft.Draft.take_lab.Goals as goal

pub returns : goal.returns
returns c = λ card drafts.
    let self = c.args.self.now in
    let four = four_texts c.args.fields.now in
    let lab = c.in_ok-lab.lab in
    let none : length card.rows ≡ 0 = grind (arith, nat_tests, ap length drafts.rows, c.is_empty.ensures, c.if-not-is_empty.false) in
    let read : lab_in card.head (covered_by card.labs) c.args.fields.now.line four ≡ Ok lab =
    ap₂ (λ head covered. lab_in head covered c.args.fields.now.line four) (sym drafts.head) (sym drafts.covered) ∙ sym c.in_ok-lab.ensures.value in
    let fits : lab_fits self.head self.covered lab ≡ true = c.in_ok-lab.ensures.bound in
    let inside : lab.from + lab.count ≤ length self.labels = grind (arith, nat_tests) in
    steps_by _ (Ok tt) (lab_taken card c.args.fields.now.line four lab none read) (
      refl,
      record {
        head = drafts.head;
        labs = ap (λ n. n + 1) drafts.labs ∙ sym (length_push card.labs lab);
        covered = sym (fold_push _ 0 card.labs lab);
        labels = λ i below.
            painted self.labels c.fill.new.self lab.from (lab.from + lab.count) lab.label (omega arith) inside (c.fill.ensures.after (λ y same. same)) i
            ∙ ap (cond (covers lab i) lab.label) (drafts.labels i below) ∙ sym (fold_push _ 0 card.labs lab);
        rows = drafts.rows;
      },
    )
