-- The fields of a row: registers, constants, operands and unused fields.
use Rattle.std.specs.Prelude.{ℕ, cond, List, [], ◌∷◌, length, Ok, Err, Result, ◌==◌}
use Rattle.refusals.specs.declared.cards.Cause.{Cause}
use Rattle.refusals.specs.declared.cards.Cause.TheVariants as cause
use Rattle.routine.specs.declared.rows.Operand.{Operand}
use Rattle.routine.specs.declared.rows.Operand.TheVariants as operand
use Rattle.cards.specs.declared.fields.Field.{Field}
use Rattle.cards.specs.declared.fields.Field.TheVariants as field
use Rattle.cards.specs.Numbers.{number_in}

-- what a field is by its first byte: `r` and then digits, `#` and then digits, a lone dash, or a word
pub data Part : Type 0 where
  register : List ℕ → Part
  constant : List ℕ → Part
  dash : Part
  word : List ℕ → Part

abbrev pub part_of : List ℕ → Part
part_of [] = word []
part_of (byte ∷ rest) =
    cond (byte == 114) (register rest)
    (cond (byte == 35) (constant rest) (cond (byte == 45) (cond (length rest == 0) dash (word (byte ∷ rest))) (word (byte ∷ rest))))

-- what the code's field stands for
abbrev pub part_in : Field → Part
part_in (field.Register digits) = register digits.now
part_in (field.Constant digits) = constant digits.now
part_in field.Dash = dash
part_in (field.Word text) = word text.now

-- the largest number of 32 bits
abbrev pub max32 : ℕ
max32 = 4294967295

-- the number of the register in a field
abbrev pub register_of : Part → Result ℕ Cause
register_of (register digits) = number_in 15 digits
register_of (constant digits) = Err cause.Form
register_of dash = Err cause.Form
register_of (word text) = Err cause.Form

-- the constant in a field, up to a limit
abbrev pub constant_of : ℕ → Part → Result ℕ Cause
constant_of limit (register digits) = Err cause.Form
constant_of limit (constant digits) = number_in limit digits
constant_of limit dash = Err cause.Form
constant_of limit (word text) = Err cause.Form

-- the operand in a field: a register, or a constant up to a limit
abbrev pub operand_of : ℕ → Part → Result Operand Cause
operand_of limit (register digits) = elim (number_in 15 digits) [ Ok n ↦ Ok (operand.Register n) | Err e ↦ Err e ]
operand_of limit (constant digits) = elim (number_in limit digits) [ Ok n ↦ Ok (operand.Constant n) | Err e ↦ Err e ]
operand_of limit dash = Err cause.Form
operand_of limit (word text) = Err cause.Form

-- an unused field holds a dash
abbrev pub unused_of : Part → Result (Unit {0}) Cause
unused_of (register digits) = Err cause.Form
unused_of (constant digits) = Err cause.Form
unused_of dash = Ok tt
unused_of (word text) = Err cause.Form
