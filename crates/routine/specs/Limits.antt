-- The limits that a routine meets where it is taken, and what each refusal says of one that is declined.
use Rattle.std.specs.Prelude.{◌≡◌, ℕ, suc, ◌+◌, ◌-◌, ◌<◌, Bool, true, false, not, ◌&&◌, ◌||◌, List, [], ◌∷◌, length, ◌==◌, nat_le, nat_lt, slice_index_or}
use Rattle.refusals.specs.declared.Refusal.{Refusal}
use Rattle.refusals.specs.declared.Refusal.TheVariants.{RowCount, WordCount, RowField, Target, Ending, WorkTable, GradeRange}
use Rattle.routine.specs.declared.rows.Operand.{Operand}
use Rattle.routine.specs.declared.rows.Operand.TheVariants.{Register, Constant}
use Rattle.routine.specs.declared.rows.Operation.{Operation}
use Rattle.routine.specs.declared.rows.Operation.TheVariants as op
use Rattle.routine.specs.declared.rows.Row.{Row}
use Rattle.routine.specs.declared.rows.Row.TheVariants.{Set, Copy, Compute, Load, Store, Branch, Jump, Fence, Halt}

-- there are 1 to 256 rows
abbrev pub row_count_fits : List Row → Bool
row_count_fits rows = nat_le 1 (length rows) && nat_le (length rows) 256

-- there are 1 to 4,096 words, and as many labels
abbrev pub word_count_fits : ℕ → ℕ → Bool
word_count_fits words labels = nat_le 1 words && nat_le words 4096 && labels == words

-- a number that names a register
abbrev pub is_register : ℕ → Bool
is_register r = nat_le r 15

-- an operand that is a constant or names a register
abbrev pub operand_fits : Operand → Bool
operand_fits (Register r) = is_register r
operand_fits (Constant k) = true

-- a computing word that shifts
abbrev pub is_shift : Operation → Bool
is_shift op.Add = false
is_shift op.Sub = false
is_shift op.Mul = false
is_shift op.And = false
is_shift op.Or = false
is_shift op.Xor = false
is_shift op.ShiftLeft = true
is_shift op.ShiftRight = true
is_shift op.Less = false
is_shift op.Equal = false

-- a right operand that fits its computing word: no shift is by a constant above 31
abbrev pub right_fits : Operation → Operand → Bool
right_fits operation (Register r) = is_register r
right_fits operation (Constant k) = not (is_shift operation) || nat_le k 31

-- each register that the row names is one, and its base is one of the words
abbrev pub fields_fit : ℕ → Row → Bool
fields_fit words (Set to value) = is_register to
fields_fit words (Copy to from) = is_register to && is_register from
fields_fit words (Compute operation to left right) = is_register to && is_register left && right_fits operation right
fields_fit words (Load to base index) = is_register to && nat_lt base words && is_register index
fields_fit words (Store from base index) = is_register from && nat_lt base words && is_register index
fields_fit words (Branch test left right target) = is_register left && operand_fits right
fields_fit words (Jump target) = true
fields_fit words Fence = true
fields_fit words Halt = true

-- row i of that many rows goes on at one of them, and its branch is not to the next row, where it goes anyway
abbrev pub target_fits : ℕ → ℕ → Row → Bool
target_fits rows i (Set to value) = true
target_fits rows i (Copy to from) = true
target_fits rows i (Compute operation to left right) = true
target_fits rows i (Load to base index) = true
target_fits rows i (Store from base index) = true
target_fits rows i (Branch test left right target) = nat_lt target rows && not (target == i + 1)
target_fits rows i (Jump target) = nat_lt target rows
target_fits rows i Fence = true
target_fits rows i Halt = true

-- a row after which no next row runs
abbrev pub ends : Row → Bool
ends (Set to value) = false
ends (Copy to from) = false
ends (Compute operation to left right) = false
ends (Load to base index) = false
ends (Store from base index) = false
ends (Branch test left right target) = false
ends (Jump target) = true
ends Fence = false
ends Halt = true

-- the test passes at each row with its number, where the first is row i
unfoldable pub every : (ℕ → Row → Bool) → ℕ → List Row → Bool
every test i [] = true
every test i (row ∷ rows) = test i row && every test (suc i) rows

-- the fields of every row fit
abbrev pub every_field_fits : List Row → ℕ → Bool
every_field_fits rows words = every (λ _ row. fields_fit words row) 0 rows

-- the target of every row fits
abbrev pub every_target_fits : List Row → Bool
every_target_fits rows = every (target_fits (length rows)) 0 rows

-- no row runs past the last one
abbrev pub last_ends : List Row → Bool
last_ends rows = ends (slice_index_or rows (length rows - 1) Halt)

-- the limits together: a routine of these rows, with that many words and labels, can be taken
unfoldable pub within : List Row → ℕ → ℕ → Bool
within rows words labels =
    row_count_fits rows && word_count_fits words labels && every_field_fits rows words && every_target_fits rows && last_ends rows

-- i is the first row at which the test fails
pub record FirstFailing (test : ℕ → Row → Bool) (rows : List Row) (i : ℕ) : Type 0 where
  pub here : i < length rows
  pub fails : test i (slice_index_or rows i Halt) ≡ false
  pub before : (j : ℕ) → j < i → test j (slice_index_or rows j Halt) ≡ true

-- why a routine is declined: the first limit in this order that it does not meet, at the first row that does not
abbrev pub DeclinedBy : List Row → ℕ → ℕ → Refusal → Type 0
DeclinedBy rows words labels RowCount = row_count_fits rows ≡ false
DeclinedBy rows words labels WordCount = (row_count_fits rows ≡ true) × (word_count_fits words labels ≡ false)
DeclinedBy rows words labels (RowField i) =
    (row_count_fits rows ≡ true) × (word_count_fits words labels ≡ true) × FirstFailing (λ _ row. fields_fit words row) rows i
DeclinedBy rows words labels (Target i) =
    (row_count_fits rows ≡ true) × (word_count_fits words labels ≡ true) × (every_field_fits rows words ≡ true)
    × FirstFailing (target_fits (length rows)) rows i
DeclinedBy rows words labels (Ending i) =
    (row_count_fits rows ≡ true) × (word_count_fits words labels ≡ true) × (every_field_fits rows words ≡ true)
    × (every_target_fits rows ≡ true) × (i ≡ length rows - 1) × (last_ends rows ≡ false)
DeclinedBy rows words labels WorkTable = ⊥
DeclinedBy rows words labels GradeRange = ⊥
