-- Lemmas on rows: the row that is read is the row that is written.
use Rattle.std.proofs.Common.{◌≡◌, ℕ, ◌-◌, ◌^◌, ◌<◌, ◌≤◌, Bool, true, false, cond, not, ◌&&◌, ◌||◌, ltb, leb, List, [], ◌∷◌, Some, Ok, codes, Result, sym, refl, ap, ◌∙◌, subst, ⊎_elim, arith}
use Rattle.std.specs.Str.{bytes_eq}
use Rattle.std.proofs.lemmas.Slice.Eq.{bytes_eq-Decides}
use Rattle.std.proofs.lemmas.Bool.{and_parts, and_from, leb-true, le-leb, ltb-true, lt-ltb, cond-true, cond-false, cond_both, cases_Bool}
use Rattle.refusals.specs.declared.cards.Cause.{Cause}
use Rattle.routine.specs.declared.rows.Operand.{Operand}
use Rattle.routine.specs.declared.rows.Operand.TheVariants as operand
use Rattle.routine.specs.declared.rows.Operation.{Operation}
use Rattle.routine.specs.declared.rows.Operation.TheVariants as op
use Rattle.routine.specs.declared.rows.Test.{Test}
use Rattle.routine.specs.declared.rows.Test.TheVariants as test
use Rattle.routine.specs.declared.rows.Row.{Row}
use Rattle.routine.specs.declared.rows.Row.TheVariants as row
use Rattle.routine.specs.Limits.{is_shift, is_register, operand_fits, right_fits, fields_fit}
use Rattle.cards.specs.declared.words.Word.{Word}
use Rattle.cards.specs.declared.words.Word.TheVariants.{Set, Copy, Compute, Load, Store, Branch, Jump, Fence, Halt}
use Rattle.cards.specs.Text.{Four}
use Rattle.cards.specs.Fields.{Part, register, constant, dash, word, part_of, max32, constant_of, operand_of}
use Rattle.cards.specs.Words.{name_of, named, word_of, all_words}
use Rattle.cards.specs.Rows.{map_ok, three, right_limit, row_in}
use Rattle.cards.specs.Cards.{texts, constant_text, operand_text, row_text, operand_is32, is32}
use Rattle.cards.proofs.Outcomes.{never_some, map_step, three_steps}
use Rattle.cards.proofs.Numerals.{all_clear}
use Rattle.cards.proofs.FieldTexts.{spelled, spelled_part, Field, field_sound, OperandWithin, register_field, constant_field, operand_field, unused_field}

-- the word that was found has the name that was looked for
named_sound : (name : List ℕ) (words : List Word) (w : Word) → named name words ≡ Some w → name ≡ name_of w
unfolding named
named_sound name [] w is = never_some _ w is
named_sound name (v ∷ words) w is =
    ⊎_elim
    (λ same. let found : v ≡ w = cc (cond-true _ (Some v) (named name words) same) in (bytes_eq-Decides name (name_of v)).0 same ∙ ap name_of found)
    (λ other. named_sound name words w (sym (cond-false _ _ _ other) ∙ is)) (cases_Bool (bytes_eq name (name_of v)))

part_word : (part : Part) (w : Word) → word_of part ≡ Some w → spelled part ≡ name_of w
part_word (register digits) w is = never_some _ w is
part_word (constant digits) w is = never_some _ w is
part_word dash w is = never_some _ w is
part_word (word text) w is = named_sound text all_words w is

pub word_sound : (text : List ℕ) (w : Word) → word_of (part_of text) ≡ Some w → text ≡ name_of w
word_sound text w is = sym (spelled_part text) ∙ part_word (part_of text) w is

-- a name is read as its word, is not `lab`, and is clear
abbrev NameRead : Word → Type 0
NameRead w = (word_of (part_of (name_of w)) ≡ Some w) × (bytes_eq (name_of w) (codes "lab") ≡ false) × (all_clear (name_of w) ≡ true)

operation_read : (operation : Operation) → NameRead (Compute operation)
unfolding named
operation_read op.Add = (refl, refl, refl)
operation_read op.Sub = (refl, refl, refl)
operation_read op.Mul = (refl, refl, refl)
operation_read op.And = (refl, refl, refl)
operation_read op.Or = (refl, refl, refl)
operation_read op.Xor = (refl, refl, refl)
operation_read op.ShiftLeft = (refl, refl, refl)
operation_read op.ShiftRight = (refl, refl, refl)
operation_read op.Less = (refl, refl, refl)
operation_read op.Equal = (refl, refl, refl)

test_read : (t : Test) → NameRead (Branch t)
unfolding named
test_read test.Less = (refl, refl, refl)
test_read test.Equal = (refl, refl, refl)

pub name_read : (w : Word) → NameRead w
unfolding named
name_read Set = (refl, refl, refl)
name_read Copy = (refl, refl, refl)
name_read (Compute operation) = operation_read operation
name_read Load = (refl, refl, refl)
name_read Store = (refl, refl, refl)
name_read (Branch t) = test_read t
name_read Jump = (refl, refl, refl)
name_read Fence = (refl, refl, refl)
name_read Halt = (refl, refl, refl)

-- four fields that are clear
abbrev pub ClearFour : Four → Type 0
ClearFour four =
    (all_clear four.first ≡ true) × (all_clear four.second ≡ true) × (all_clear four.third ≡ true) × (all_clear four.fourth ≡ true)

pub same_four : (four : Four) (a b c d : List ℕ) → four.first ≡ a → four.second ≡ b → four.third ≡ c → four.fourth ≡ d → four ≡ texts a b c d
same_four four a b c d is_first is_second is_third is_fourth =
    ap (λ text. texts text four.second four.third four.fourth) is_first ∙ ap (λ text. texts a text four.third four.fourth) is_second
    ∙ ap (λ text. texts a b text four.fourth) is_third ∙ ap (texts a b c) is_fourth

-- a row whose fields can be read, with that many words of memory
pub record Fitting (words : ℕ) (row : Row) : Type 0 where
  pub fields : fields_fit words row ≡ true
  pub wide : is32 row ≡ true

-- three fields by how each is read and written
module _ {A B C : Type 0} {read_second : Part → Result A Cause} {read_third : Part → Result B Cause} {read_fourth : Part → Result C Cause}
    {write_second : A → List ℕ} {write_third : B → List ℕ} {write_fourth : C → List ℕ} {FitsSecond : A → Type 0} {FitsThird : B → Type 0} {FitsFourth : C → Type 0}
    (second : Field read_second write_second FitsSecond) (third : Field read_third write_third FitsThird) (fourth : Field read_fourth write_fourth FitsFourth) (w : Word)
    (make : A × B × C → Row) where
  fields_sound : (words : ℕ) (four : Four) (r : Row) → four.first ≡ name_of w
      → ((a : A) (b : B) (c : C) → FitsSecond a → FitsThird b → FitsFourth c
      → (texts (name_of w) (write_second a) (write_third b) (write_fourth c) ≡ row_text (make (a, b, c))) × Fitting words (make (a, b, c)))
      → map_ok (three (read_second (part_of four.second)) (read_third (part_of four.third)) (read_fourth (part_of four.fourth))) make ≡ Ok r
      → (four ≡ row_text r) × Fitting words r
  fields_sound words four r name fits is =
      let ((a, b, c), read, same) = map_step _ make r is in
      let (is_second, is_third, is_fourth) = three_steps _ _ _ (a, b, c) read in
      let (text_second, fits_second) = field_sound second four.second a is_second in
      let (text_third, fits_third) = field_sound third four.third b is_third in
      let (text_fourth, fits_fourth) = field_sound fourth four.fourth c is_fourth in
      let (text_is, fitting) = fits a b c fits_second fits_third fits_fourth in
      subst (λ r. (four ≡ row_text r) × Fitting words r) same (same_four four _ _ _ _ name text_second text_third text_fourth ∙ text_is, fitting)

  fields_complete : (a : A) (b : B) (c : C) → FitsSecond a → FitsThird b → FitsFourth c
      → (map_ok (three (read_second (part_of (write_second a))) (read_third (part_of (write_third b))) (read_fourth (part_of (write_fourth c)))) make ≡ Ok (make (a, b, c)))
      × ClearFour (texts (name_of w) (write_second a) (write_third b) (write_fourth c))
  fields_complete a b c fits_second fits_third fits_fourth = (
    simp (second.complete a fits_second, third.complete b fits_third, fourth.complete c fits_fourth),
    ((name_read w).2, second.clear a fits_second, third.clear b fits_third, fourth.clear c fits_fourth),
  )

-- the word of a row
abbrev pub word_in : Row → Word
word_in (row.Set to value) = Set
word_in (row.Copy to from) = Copy
word_in (row.Compute operation to left right) = Compute operation
word_in (row.Load to base index) = Load
word_in (row.Store from base index) = Store
word_in (row.Branch t left right target) = Branch t
word_in (row.Jump target) = Jump
word_in row.Fence = Fence
word_in row.Halt = Halt

-- the limits of a computing word's right operand
right_limit_small : (operation : Operation) → right_limit operation < 2 ^ 64
right_limit_small operation =
    let P : ℕ → Type 0 = λ limit. limit < 2 ^ 64 in cond_both (is_shift operation) 31 max32 P (λ _. omega arith) (λ _. omega arith)

constant_fits : (shift : Bool) (k : ℕ) → k ≤ cond shift 31 max32 → ((not shift || leb k 31) ≡ true) × (leb k max32 ≡ true)
constant_fits true k fits = (le-leb k 31 fits, le-leb k max32 (omega arith))
constant_fits false k fits = (refl, le-leb k max32 fits)

constant_within : (shift : Bool) (k : ℕ) → (not shift || leb k 31) ≡ true → leb k max32 ≡ true → k ≤ cond shift 31 max32
constant_within true k fits wide = leb-true k 31 fits
constant_within false k fits wide = leb-true k max32 wide

right_fits_lem : (operation : Operation) (right : Operand) → OperandWithin (right_limit operation) right
    → (right_fits operation right ≡ true) × (operand_is32 right ≡ true)
right_fits_lem operation (operand.Register r) fits = (le-leb r 15 fits, refl)
right_fits_lem operation (operand.Constant k) fits = constant_fits (is_shift operation) k fits

right_within : (operation : Operation) (right : Operand) → right_fits operation right ≡ true → operand_is32 right ≡ true
    → OperandWithin (right_limit operation) right
right_within operation (operand.Register r) fits wide = leb-true r 15 fits
right_within operation (operand.Constant k) fits wide = constant_within (is_shift operation) k fits wide

-- the limits of a branch's operand
operand_fits_lem : (o : Operand) → OperandWithin max32 o → (operand_fits o ≡ true) × (operand_is32 o ≡ true)
operand_fits_lem (operand.Register r) fits = (le-leb r 15 fits, refl)
operand_fits_lem (operand.Constant k) fits = (refl, le-leb k max32 fits)

operand_within : (o : Operand) → operand_fits o ≡ true → operand_is32 o ≡ true → OperandWithin max32 o
operand_within (operand.Register r) fits wide = leb-true r 15 fits
operand_within (operand.Constant k) fits wide = leb-true k max32 wide

-- the fields that only rows have: a constant of 32 bits, and the right operands
wide_field : Field (constant_of max32) constant_text (λ k. k ≤ max32)
wide_field = constant_field max32 (omega arith)

right_field : (operation : Operation) → Field (operand_of (right_limit operation)) operand_text (OperandWithin (right_limit operation))
right_field operation = operand_field (right_limit operation) (right_limit_small operation)

branch_field : Field (operand_of max32) operand_text (OperandWithin max32)
branch_field = operand_field max32 (omega arith)

module _ (words : ℕ) (some : 1 ≤ words) (few : words ≤ 4096) where
  base_field : Field (constant_of (words - 1)) constant_text (λ base. base ≤ words - 1)
  base_field = constant_field (words - 1) (omega arith)

  -- the fields of a load or a store
  access_fits : (r base index : ℕ) → r ≤ 15 → base ≤ words - 1 → index ≤ 15 → (is_register r && ltb base words && is_register index) ≡ true
  access_fits r base index a b c = and_from _ _ (and_from _ _ (le-leb r 15 a) (lt-ltb base words (omega arith))) (le-leb index 15 c)

  access_within : (r base index : ℕ) → (is_register r && ltb base words && is_register index) ≡ true → (r ≤ 15) × (base ≤ words - 1) × (index ≤ 15)
  access_within r base index fits =
      let (front, index_fits) = and_parts (is_register r && ltb base words) (is_register index) fits in
      let (register_fits, base_fits) = and_parts (is_register r) (ltb base words) front in
      (leb-true r 15 register_fits, omega (arith, ltb-true base words base_fits), leb-true index 15 index_fits)

  pub row_sound : (w : Word) (four : Four) (r : Row) → four.first ≡ name_of w → row_in words w four ≡ Ok r → (four ≡ row_text r) × Fitting words r
  row_sound Set four r name is =
      fields_sound register_field wide_field unused_field Set (λ read. row.Set read.0 read.1) words four r name
      (λ to value u a b c. (refl, record { fields = le-leb to 15 a; wide = le-leb value max32 b })) is
  row_sound Copy four r name is =
      fields_sound register_field register_field unused_field Copy (λ read. row.Copy read.0 read.1) words four r name
      (λ to from u a b c. (refl, record { fields = and_from _ _ (le-leb to 15 a) (le-leb from 15 b); wide = refl })) is
  row_sound (Compute operation) four r name is =
      fields_sound register_field register_field (right_field operation) (Compute operation)
      (λ read. row.Compute operation read.0 read.1 read.2) words four r name
      (λ to left right a b c.
      let (fits, wide) = right_fits_lem operation right c in
      (refl, record { fields = and_from _ _ (and_from _ _ (le-leb to 15 a) (le-leb left 15 b)) fits; wide = wide })) is
  row_sound Load four r name is =
      fields_sound register_field base_field register_field Load (λ read. row.Load read.0 read.1 read.2) words four r name
      (λ to base index a b c. (refl, record { fields = access_fits to base index a b c; wide = refl })) is
  row_sound Store four r name is =
      fields_sound register_field base_field register_field Store (λ read. row.Store read.0 read.1 read.2) words four r name
      (λ from base index a b c. (refl, record { fields = access_fits from base index a b c; wide = refl })) is
  row_sound (Branch t) four r name is =
      fields_sound register_field branch_field wide_field (Branch t) (λ read. row.Branch t read.0 read.1 read.2) words four r name
      (λ left right target a b c.
      let (fits, wide) = operand_fits_lem right b in
      (refl, record { fields = and_from _ _ (le-leb left 15 a) fits; wide = and_from _ _ wide (le-leb target max32 c) })) is
  row_sound Jump four r name is =
      fields_sound wide_field unused_field unused_field Jump (λ read. row.Jump read.0) words four r name
      (λ target u v a b c. (refl, record { fields = refl; wide = le-leb target max32 a })) is
  row_sound Fence four r name is =
      fields_sound unused_field unused_field unused_field Fence (λ read. row.Fence) words four r name
      (λ u v x a b c. (refl, record { fields = refl; wide = refl })) is
  row_sound Halt four r name is =
      fields_sound unused_field unused_field unused_field Halt (λ read. row.Halt) words four r name
      (λ u v x a b c. (refl, record { fields = refl; wide = refl })) is

  pub row_complete : (r : Row) → Fitting words r → (row_in words (word_in r) (row_text r) ≡ Ok r) × ClearFour (row_text r)
  row_complete (row.Set to value) fitting =
      fields_complete register_field wide_field unused_field Set (λ read. row.Set read.0 read.1) to value tt
      (leb-true to 15 fitting.fields) (leb-true value max32 fitting.wide) tt
  row_complete (row.Copy to from) fitting =
      let (a, b) = and_parts (is_register to) (is_register from) fitting.fields in
      fields_complete register_field register_field unused_field Copy (λ read. row.Copy read.0 read.1) to from tt
      (leb-true to 15 a) (leb-true from 15 b) tt
  row_complete (row.Compute operation to left right) fitting =
      let (front, c) = and_parts (is_register to && is_register left) (right_fits operation right) fitting.fields in
      let (a, b) = and_parts (is_register to) (is_register left) front in
      fields_complete register_field register_field (right_field operation) (Compute operation)
      (λ read. row.Compute operation read.0 read.1 read.2) to left right
      (leb-true to 15 a) (leb-true left 15 b) (right_within operation right c fitting.wide)
  row_complete (row.Load to base index) fitting =
      let (a, b, c) = access_within to base index fitting.fields in
      fields_complete register_field base_field register_field Load (λ read. row.Load read.0 read.1 read.2) to base index a b c
  row_complete (row.Store from base index) fitting =
      let (a, b, c) = access_within from base index fitting.fields in
      fields_complete register_field base_field register_field Store (λ read. row.Store read.0 read.1 read.2) from base index a b c
  row_complete (row.Branch t left right target) fitting =
      let (a, b) = and_parts (is_register left) (operand_fits right) fitting.fields in
      let (right_wide, c) = and_parts (operand_is32 right) (leb target max32) fitting.wide in
      fields_complete register_field branch_field wide_field (Branch t) (λ read. row.Branch t read.0 read.1 read.2) left right target
      (leb-true left 15 a) (operand_within right b right_wide) (leb-true target max32 c)
  row_complete (row.Jump target) fitting =
      fields_complete wide_field unused_field unused_field Jump (λ read. row.Jump read.0) target tt tt (leb-true target max32 fitting.wide) tt tt
  row_complete row.Fence fitting = fields_complete unused_field unused_field unused_field Fence (λ read. row.Fence) tt tt tt tt tt tt
  row_complete row.Halt fitting = fields_complete unused_field unused_field unused_field Halt (λ read. row.Halt) tt tt tt tt tt tt

-- a row's first field is the name of its word
pub row_name : (r : Row) → (row_text r).first ≡ name_of (word_in r)
row_name (row.Set to value) = refl
row_name (row.Copy to from) = refl
row_name (row.Compute operation to left right) = refl
row_name (row.Load to base index) = refl
row_name (row.Store from base index) = refl
row_name (row.Branch t left right target) = refl
row_name (row.Jump target) = refl
row_name row.Fence = refl
row_name row.Halt = refl
