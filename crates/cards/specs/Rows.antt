-- A row by its word and its three other fields.
use Rattle.std.specs.Prelude.{ℕ, ◌-◌, cond, Ok, Err, Result}
use Rattle.refusals.specs.declared.cards.Cause.{Cause}
use Rattle.routine.specs.declared.rows.Operation.{Operation}
use Rattle.routine.specs.declared.rows.Row.{Row}
use Rattle.routine.specs.declared.rows.Row.TheVariants as row
use Rattle.routine.specs.Limits.{is_shift}
use Rattle.cards.specs.declared.rows.Fault.{Fault}
use Rattle.cards.specs.declared.words.Word.{Word}
use Rattle.cards.specs.declared.words.Word.TheVariants.{Set, Copy, Compute, Load, Store, Branch, Jump, Fence, Halt}
use Rattle.cards.specs.Text.{Four}
use Rattle.cards.specs.Fields.{part_of, max32, register_of, constant_of, operand_of, unused_of}

-- the next three fields of a row, or the first of them that is wrong, with its place and cause
abbrev pub three : {A B C : Type 0} → Result A Cause → Result B Cause → Result C Cause → Result (A × B × C) Fault
three (Err cause) third fourth = Err (record { field = 2; cause = cause })
three (Ok a) (Err cause) fourth = Err (record { field = 3; cause = cause })
three (Ok a) (Ok b) (Err cause) = Err (record { field = 4; cause = cause })
three (Ok a) (Ok b) (Ok c) = Ok (a, b, c)

-- what is made of a value that was read, if it was
abbrev pub map_ok : {A B E : Type 0} → Result A E → (A → B) → Result B E
map_ok (Ok a) f = Ok (f a)
map_ok (Err e) f = Err e

-- the largest constant that a computing word takes
abbrev pub right_limit : Operation → ℕ
right_limit operation = cond (is_shift operation) 31 max32

-- the fields of a load or a store: a register, a base that is one of the words, and an index
abbrev pub access_in : ℕ → Four → Result (ℕ × ℕ × ℕ) Fault
access_in words four =
    three (register_of (part_of four.second)) (constant_of (words - 1) (part_of four.third)) (register_of (part_of four.fourth))

-- the fields of a row that has none
abbrev pub none_in : Four → Result (Unit {0} × Unit {0} × Unit {0}) Fault
none_in four = three (unused_of (part_of four.second)) (unused_of (part_of four.third)) (unused_of (part_of four.fourth))

-- the row that a word and its fields write, with that many words of memory
abbrev pub row_in : ℕ → Word → Four → Result Row Fault
row_in words Set four =
    map_ok (three (register_of (part_of four.second)) (constant_of max32 (part_of four.third)) (unused_of (part_of four.fourth)))
    (λ read. row.Set read.0 read.1)
row_in words Copy four =
    map_ok (three (register_of (part_of four.second)) (register_of (part_of four.third)) (unused_of (part_of four.fourth)))
    (λ read. row.Copy read.0 read.1)
row_in words (Compute operation) four =
    map_ok (three (register_of (part_of four.second)) (register_of (part_of four.third)) (operand_of (right_limit operation) (part_of four.fourth)))
    (λ read. row.Compute operation read.0 read.1 read.2)
row_in words Load four = map_ok (access_in words four) (λ read. row.Load read.0 read.1 read.2)
row_in words Store four = map_ok (access_in words four) (λ read. row.Store read.0 read.1 read.2)
row_in words (Branch test) four =
    map_ok (three (register_of (part_of four.second)) (operand_of max32 (part_of four.third)) (constant_of max32 (part_of four.fourth)))
    (λ read. row.Branch test read.0 read.1 read.2)
row_in words Jump four =
    map_ok (three (constant_of max32 (part_of four.second)) (unused_of (part_of four.third)) (unused_of (part_of four.fourth)))
    (λ read. row.Jump read.0)
row_in words Fence four = map_ok (none_in four) (λ read. row.Fence)
row_in words Halt four = map_ok (none_in four) (λ read. row.Halt)
