-- Lemmas on the fields of a row: what is read is what is written.
use Rattle.std.proofs.Common.{◌≡◌, ℕ, ◌^◌, ◌<◌, ◌≤◌, true, eqb, List, [], ◌∷◌, length, Ok, Result, sym, refl, ap, ◌∙◌, subst, arith}
use Rattle.std.proofs.lemmas.List.{nil_from_length}
use Rattle.std.proofs.lemmas.Bool.{eqb-true, cond_both}
use Rattle.refusals.specs.declared.cards.Cause.{Cause}
use Rattle.routine.specs.declared.rows.Operand.{Operand}
use Rattle.routine.specs.declared.rows.Operand.TheVariants as operand
use Rattle.cards.specs.Numbers.{number_in}
use Rattle.cards.specs.Fields.{Part, register, constant, dash, word, part_of, register_of, constant_of, operand_of, unused_of}
use Rattle.cards.specs.Cards.{register_text, constant_text, operand_text, unused_text}
use Rattle.cards.proofs.Outcomes.{never_ok, mapped}
use Rattle.cards.proofs.Numerals.{number_sound, number_complete, all_clear, decimal_clear}

-- the bytes of a part
abbrev pub spelled : Part → List ℕ
spelled (register digits) = 114 ∷ digits
spelled (constant digits) = 35 ∷ digits
spelled dash = 45 ∷ []
spelled (word text) = text

pub spelled_part : (text : List ℕ) → spelled (part_of text) ≡ text
spelled_part [] = refl
spelled_part (byte ∷ rest) =
    let P : Part → Type 0 = λ part. spelled part ≡ byte ∷ rest in
    cond_both (eqb byte 114) _ _ P (λ is. ap (λ b. b ∷ rest) (sym (eqb-true byte 114 is)))
    (λ _. cond_both (eqb byte 35) _ _ P (λ is. ap (λ b. b ∷ rest) (sym (eqb-true byte 35 is)))
    (λ _. cond_both (eqb byte 45) _ _ P
    (λ is. cond_both (eqb (length rest) 0) _ _ P
    (λ none. ap (λ b. b ∷ []) (sym (eqb-true byte 45 is)) ∙ ap (λ bytes. byte ∷ bytes) (sym (nil_from_length rest (eqb-true (length rest) 0 none))))
    (λ _. refl))
    (λ _. refl)))

-- what is read of a field, how it is written, and what can be written: reading and writing are inverse
pub record Field {A : Type 0} (read : Part → Result A Cause) (write : A → List ℕ) (Fits : A → Type 0) : Type 0 where
  pub sound : (part : Part) (a : A) → read part ≡ Ok a → (spelled part ≡ write a) × Fits a
  pub complete : (a : A) → Fits a → read (part_of (write a)) ≡ Ok a
  pub clear : (a : A) → Fits a → all_clear (write a) ≡ true

pub field_sound : {A : Type 0} {read : Part → Result A Cause} {write : A → List ℕ} {Fits : A → Type 0} → Field read write Fits
    → (text : List ℕ) (a : A) → read (part_of text) ≡ Ok a → (text ≡ write a) × Fits a
field_sound field text a is =
    let (same, fits) = field.sound (part_of text) a is in
    (sym (spelled_part text) ∙ same, fits)

register_sound : (part : Part) (r : ℕ) → register_of part ≡ Ok r → (spelled part ≡ register_text r) × (r ≤ 15)
register_sound (register digits) r is = let (same, fits) = number_sound 15 digits r (omega arith) is in (ap (λ ds. 114 ∷ ds) same, fits)
register_sound (constant digits) r is = never_ok _ _ _ is
register_sound dash r is = never_ok _ _ _ is
register_sound (word text) r is = never_ok _ _ _ is

pub register_field : Field register_of register_text (λ r. r ≤ 15)
register_field = record {
  sound = register_sound;
  complete = λ r fits. number_complete 15 r (omega arith) fits;
  clear = λ r fits. decimal_clear r (omega arith);
}

constant_sound : (limit : ℕ) → limit < 2 ^ 64 → (part : Part) (k : ℕ) → constant_of limit part ≡ Ok k → (spelled part ≡ constant_text k) × (k ≤ limit)
constant_sound limit small (register digits) k is = never_ok _ _ _ is
constant_sound limit small (constant digits) k is = let (same, fits) = number_sound limit digits k small is in (ap (λ ds. 35 ∷ ds) same, fits)
constant_sound limit small dash k is = never_ok _ _ _ is
constant_sound limit small (word text) k is = never_ok _ _ _ is

pub constant_field : (limit : ℕ) → limit < 2 ^ 64 → Field (constant_of limit) constant_text (λ k. k ≤ limit)
constant_field limit small = record {
  sound = constant_sound limit small;
  complete = λ k fits. number_complete limit k small fits;
  clear = λ k fits. decimal_clear k (omega arith);
}

-- an operand's limits
abbrev pub OperandWithin : ℕ → Operand → Type 0
OperandWithin limit (operand.Register r) = r ≤ 15
OperandWithin limit (operand.Constant k) = k ≤ limit

operand_sound : (limit : ℕ) → limit < 2 ^ 64 → (part : Part) (o : Operand) → operand_of limit part ≡ Ok o
    → (spelled part ≡ operand_text o) × OperandWithin limit o
operand_sound limit small (register digits) o is =
    let (r, read, same) = mapped operand.Register (λ e. e) (number_in 15 digits) o is in
    subst (λ o. (spelled (register digits) ≡ operand_text o) × OperandWithin limit o) same (register_sound (register digits) r read)
operand_sound limit small (constant digits) o is =
    let (k, read, same) = mapped operand.Constant (λ e. e) (number_in limit digits) o is in
    subst (λ o. (spelled (constant digits) ≡ operand_text o) × OperandWithin limit o) same (constant_sound limit small (constant digits) k read)
operand_sound limit small dash o is = never_ok _ _ _ is
operand_sound limit small (word text) o is = never_ok _ _ _ is

operand_complete : (limit : ℕ) → limit < 2 ^ 64 → (o : Operand) → OperandWithin limit o → operand_of limit (part_of (operand_text o)) ≡ Ok o
operand_complete limit small (operand.Register r) fits = rw (number_complete 15 r (omega arith) fits, operand_of)
operand_complete limit small (operand.Constant k) fits = rw (number_complete limit k small fits, operand_of)

operand_clear : (limit : ℕ) → limit < 2 ^ 64 → (o : Operand) → OperandWithin limit o → all_clear (operand_text o) ≡ true
operand_clear limit small (operand.Register r) fits = decimal_clear r (omega arith)
operand_clear limit small (operand.Constant k) fits = decimal_clear k (omega arith)

pub operand_field : (limit : ℕ) → limit < 2 ^ 64 → Field (operand_of limit) operand_text (OperandWithin limit)
operand_field limit small = record { sound = operand_sound limit small; complete = operand_complete limit small; clear = operand_clear limit small }

unused_sound : (part : Part) (u : Unit {0}) → unused_of part ≡ Ok u → (spelled part ≡ unused_text) × Unit {0}
unused_sound (register digits) u is = never_ok _ _ _ is
unused_sound (constant digits) u is = never_ok _ _ _ is
unused_sound dash u is = (refl, tt)
unused_sound (word text) u is = never_ok _ _ _ is

pub unused_field : Field unused_of (λ _. unused_text) (λ _. Unit {0})
unused_field = record { sound = unused_sound; complete = λ _ _. refl; clear = λ _ _. refl }
