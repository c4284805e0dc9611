-- What a row computes. A register holds 32 bits: whatever it takes is cut to them.
use Rattle.std.specs.Prelude.{ℕ, ◌+◌, ◌-◌, ◌*◌, ◌/◌, ◌%◌, ◌^◌, Bool, cond, List, ◌==◌, bit_and, bit_or, bit_xor, nat_lt, slice_index, slice_set}
use Rattle.routine.specs.declared.rows.Operand.{Operand}
use Rattle.routine.specs.declared.rows.Operand.TheVariants.{Register, Constant}
use Rattle.routine.specs.declared.rows.Operation.{Operation}
use Rattle.routine.specs.declared.rows.Operation.TheVariants as op
use Rattle.routine.specs.declared.rows.Test.{Test}
use Rattle.routine.specs.declared.rows.Test.TheVariants as test

-- the value of an operand, given the registers
abbrev pub operand : List ℕ → Operand → ℕ
operand registers (Register r) = slice_index registers r
operand registers (Constant k) = k

-- the result of a computing word before it is cut to 32 bits
abbrev pub computed : Operation → ℕ → ℕ → ℕ
computed op.Add a b = a + b
computed op.Sub a b = a + (2 ^ 32 - b)
computed op.Mul a b = a * b
computed op.And a b = bit_and a b
computed op.Or a b = bit_or a b
computed op.Xor a b = bit_xor a b
computed op.ShiftLeft a b = a * 2 ^ (b % 32)
computed op.ShiftRight a b = a / 2 ^ (b % 32)
computed op.Less a b = cond (nat_lt a b) 1 0
computed op.Equal a b = cond (a == b) 1 0

-- whether a branch goes to its target
abbrev pub outcome : Test → ℕ → ℕ → Bool
outcome test.Less a b = nat_lt a b
outcome test.Equal a b = a == b

-- the registers once one of them took a value
abbrev pub takes : List ℕ → ℕ → ℕ → List ℕ
takes registers to value = slice_set registers to (value % 2 ^ 32)
