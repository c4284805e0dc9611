-- The words that rows begin with.
use Rattle.std.specs.Prelude.{ℕ, List, [], ◌∷◌, None, codes, Option}
use Rattle.std.specs.List.{find}
use Rattle.std.specs.Str.{bytes_eq}
use Rattle.routine.specs.declared.rows.Operation.{Operation}
use Rattle.routine.specs.declared.rows.Operation.TheVariants as op
use Rattle.routine.specs.declared.rows.Test.{Test}
use Rattle.routine.specs.declared.rows.Test.TheVariants as test
use Rattle.cards.specs.declared.words.Word.{Word}
use Rattle.cards.specs.declared.words.Word.TheVariants.{Set, Copy, Compute, Load, Store, Branch, Jump, Fence, Halt}
use Rattle.cards.specs.Fields.{Part, register, constant, dash, word}

-- how each word is written
abbrev pub operation_name : Operation → List ℕ
operation_name op.Add = codes "add"
operation_name op.Sub = codes "sub"
operation_name op.Mul = codes "mul"
operation_name op.And = codes "and"
operation_name op.Or = codes "ior"
operation_name op.Xor = codes "xor"
operation_name op.ShiftLeft = codes "shl"
operation_name op.ShiftRight = codes "shr"
operation_name op.Less = codes "ltu"
operation_name op.Equal = codes "equ"

abbrev pub test_name : Test → List ℕ
test_name test.Less = codes "blt"
test_name test.Equal = codes "beq"

abbrev pub name_of : Word → List ℕ
name_of Set = codes "set"
name_of Copy = codes "cpy"
name_of (Compute operation) = operation_name operation
name_of Load = codes "lod"
name_of Store = codes "sto"
name_of (Branch test) = test_name test
name_of Jump = codes "jmp"
name_of Fence = codes "fen"
name_of Halt = codes "hlt"

-- all words, in the order of the instruction table
abbrev pub all_words : List Word
all_words =
    Set ∷ Copy ∷ Compute op.Add ∷ Compute op.Sub ∷ Compute op.Mul ∷ Compute op.And ∷ Compute op.Or ∷ Compute op.Xor
    ∷ Compute op.ShiftLeft ∷ Compute op.ShiftRight ∷ Compute op.Less ∷ Compute op.Equal ∷ Load ∷ Store ∷ Branch test.Less
    ∷ Branch test.Equal ∷ Jump ∷ Fence ∷ Halt ∷ []

-- the word of a name, among some words
unfoldable pub named : List ℕ → List Word → Option Word
named name words = find (λ w. bytes_eq name (name_of w)) words

-- the word in a field
abbrev pub word_of : Part → Option Word
word_of (register digits) = None
word_of (constant digits) = None
word_of dash = None
word_of (word text) = named text all_words
