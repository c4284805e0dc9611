use Rattle.std.proofs.Common.{◌≡◌, ℕ, ◌<◌, ◌≤◌, true, [], ◌∷◌, ◌++◌, length, List, Ok, Err, Result, sym, refl, ap, ◌∙◌, arith}
use Rattle.cards.specs.Rows.{row_in}
use Rattle.routine.specs.declared.rows.Row.{Row}
use Rattle.routine.specs.Limits.{fields_fit, every_field_fits}
use Rattle.cards.specs.declared.words.Word.{Word}
use Rattle.cards.specs.declared.words.Word.TheVariants.{Set, Copy, Compute, Load, Store, Branch, Jump, Fence, Halt}
use Rattle.cards.specs.Text.{Four, four_texts}
use Rattle.cards.specs.Words.{name_of}
use Rattle.cards.specs.Cards.{texts}
use Rattle.std.specs.Result.{MatchResult, IsErrAnd}
use Rattle.cards.specs.declared.rows.Fault.{Fault}
use Rattle.cards.proofs.Outcomes.{same_ok, never_ok}
use Rattle.std.proofs.lemmas.Result.{err_from_is_err_and}
use Rattle.std.proofs.lemmas.Bool.Decides.{nat_tests}
use Rattle.cards.proofs.Painting.{every_push}
use Rattle.cards.proofs.RowLines.{row_sound}
use Rattle.cards.proofs.Stepping.{steps_by, row_taken}
use Rattle.cards.proofs.draft.Draft.take_row.Goals as goal
use Rattle.cards.proofs.draft.Draft.take_row.Goals.{In_ok-row}

-- the first field says no more than the word
by_fields : (words : ℕ) (word : Word) (name : List ℕ) (four : Four) → row_in words word (texts name four.second four.third four.fourth) ≡ row_in words word four
by_fields words Set name four = refl
by_fields words Copy name four = refl
by_fields words (Compute operation) name four = refl
by_fields words Load name four = refl
by_fields words Store name four = refl
by_fields words (Branch test) name four = refl
by_fields words Jump name four = refl
by_fields words Fence name four = refl
by_fields words Halt name four = refl

-- a row that was read has fields within their limits
fits : (words : ℕ) (word : Word) (four : Four) (row : Row) → 1 ≤ words → words ≤ 4096 → row_in words word four ≡ Ok row → fields_fit words row ≡ true
fits words word four row some small is = (row_sound words some small word (texts (name_of word) four.second four.third four.fourth) row refl (by_fields words word (name_of word) four ∙ is)).1.fields

-- a row that was read, where no refusal was told of it
read_row : {F : Type 0} (read : Result Row Fault) (told : Result Row F) (P : Fault → F → Type 0) (row : Row)
    → MatchResult read (λ row. told ≡ Ok row) (λ fault. IsErrAnd told (P fault)) → told ≡ Ok row → read ≡ Ok row
read_row (Ok other) told P row cases is = ap Ok (same_ok _ _ (sym cases ∙ is))
read_row (Err fault) told P row cases is = never_ok _ _ _ (sym (err_from_is_err_and told cases).1 ∙ is)

row_is : (c : In_ok-row) → row_in c.args.self.now.head.words c.args.word (four_texts c.args.fields.now) ≡ Ok c.in_ok-row.row
row_is c = sym c.row_in.ensures ∙ read_row c.row_in.result c.map_err.result _ c.in_ok-row.row c.map_err.ensures.cases c.in_ok-row.was

pub invariant_of-self : goal.invariant_of-self
invariant_of-self c =
    let self = c.args.self.now in
    let row = c.in_ok-row.row in
    let within = fits self.head.words c.args.word (four_texts c.args.fields.now) row self.some self.small (row_is (goal.at.invariant_of-self c).In_ok-row) in
    record {
      some = self.some;
      small = self.small;
      fits =
          ap (λ rows. every_field_fits rows self.head.words) c.push.ensures.items
          ∙ every_push (λ _ r. fields_fit self.head.words r) self.rows.items row self.fits within;
      counted = self.counted;
      inside = self.inside;
    }

pub returns : goal.returns
returns c = λ card drafts.
    let four = four_texts c.args.fields.now in
    let row = c.in_ok-row.row in
    let read : row_in card.head.words c.args.word four ≡ Ok row =
    ap (λ head. row_in head.words c.args.word four) (sym drafts.head) ∙ row_is (goal.at.returns c).In_ok-row in
    let few : length card.rows < 256 = grind (arith, nat_tests, ap length drafts.rows) in
    steps_by _ (Ok tt) (row_taken card c.args.fields.now.line c.args.word four row few read) (
      refl,
      record {
        head = drafts.head;
        labs = drafts.labs;
        covered = drafts.covered;
        labels = drafts.labels;
        rows = c.push.ensures.items ∙ ap (λ rows. rows ++ row ∷ []) drafts.rows;
      },
    )
