-- A card, how it is written as bytes, and which cards are well formed.
use Rattle.std.specs.Prelude.{◌≡◌, ℕ, ◌+◌, ◌≤◌, Bool, true, cond, ◌&&◌, List, [], ◌∷◌, ◌++◌, map, length, codes, decimal, nat_le, nat_lt}
use Rattle.std.specs.List.{range_with_len, flat_map, fold, AllByRecursion}
use Rattle.routine.specs.declared.rows.Operand.{Operand}
use Rattle.routine.specs.declared.rows.Operand.TheVariants as operand
use Rattle.routine.specs.declared.rows.Row.{Row}
use Rattle.routine.specs.declared.rows.Row.TheVariants as row
use Rattle.routine.specs.Limits.{within}
use Rattle.cards.specs.declared.heads.Head.{Head}
use Rattle.cards.specs.declared.heads.Lab.{Lab}
use Rattle.cards.specs.declared.words.Word.TheVariants as word
use Rattle.cards.specs.Text.{Four}
use Rattle.cards.specs.Fields.{max32}
use Rattle.cards.specs.Words.{name_of}
use Rattle.cards.specs.Heads.{kind_name, label_limit}

-- what a card says: its head, its `lab` lines and its rows
pub record Card : Type 0 where
  pub head : Head
  pub labs : List Lab
  pub rows : List Row

-- whether a `lab` line gives a label to word i
abbrev pub covers : Lab → ℕ → Bool
covers lab i = nat_le lab.from i && nat_lt i (lab.from + lab.count)

-- the label of word i: the one that a `lab` line gives it, else the lowest, 0; no two lines cover the same word
abbrev pub label_at : List Lab → ℕ → ℕ
label_at labs i = fold (λ label lab. cond (covers lab i) lab.label label) 0 labs

-- the labels of all words, as numbers
abbrev pub labels_of : Card → List ℕ
labels_of card = map (label_at card.labs) (range_with_len 0 card.head.words)

-- four fields
abbrev pub texts : List ℕ → List ℕ → List ℕ → List ℕ → Four
texts a b c d = record { first = a; second = b; third = c; fourth = d }

-- a line: four fields between commas, ended by byte 10
abbrev pub line_text : Four → List ℕ
line_text four = four.first ++ 44 ∷ (four.second ++ 44 ∷ (four.third ++ 44 ∷ (four.fourth ++ 10 ∷ [])))

-- a register, a constant or target, an operand and an unused field, as they are written
abbrev pub register_text : ℕ → List ℕ
register_text r = 114 ∷ decimal r

abbrev pub constant_text : ℕ → List ℕ
constant_text k = 35 ∷ decimal k

abbrev pub operand_text : Operand → List ℕ
operand_text (operand.Register r) = register_text r
operand_text (operand.Constant k) = constant_text k

abbrev pub unused_text : List ℕ
unused_text = 45 ∷ []

-- the head, a `lab` line and a row, by their four fields
abbrev pub head_text : Head → Four
head_text head = texts (codes "card") (kind_name head.kind) (decimal head.reader) (decimal head.words)

abbrev pub lab_text : Lab → Four
lab_text lab = texts (codes "lab") (decimal lab.from) (decimal lab.count) (decimal lab.label)

abbrev pub row_text : Row → Four
row_text (row.Set to value) = texts (name_of word.Set) (register_text to) (constant_text value) unused_text
row_text (row.Copy to from) = texts (name_of word.Copy) (register_text to) (register_text from) unused_text
row_text (row.Compute operation to left right) =
    texts (name_of (word.Compute operation)) (register_text to) (register_text left) (operand_text right)
row_text (row.Load to base index) = texts (name_of word.Load) (register_text to) (constant_text base) (register_text index)
row_text (row.Store from base index) = texts (name_of word.Store) (register_text from) (constant_text base) (register_text index)
row_text (row.Branch test left right target) =
    texts (name_of (word.Branch test)) (register_text left) (operand_text right) (constant_text target)
row_text (row.Jump target) = texts (name_of word.Jump) (constant_text target) unused_text unused_text
row_text row.Fence = texts (name_of word.Fence) unused_text unused_text unused_text
row_text row.Halt = texts (name_of word.Halt) unused_text unused_text unused_text

-- a card as bytes: its head, its `lab` lines and its rows, line by line
unfoldable pub written : Card → List ℕ
written card =
    line_text (head_text card.head) ++ (flat_map (λ lab. line_text (lab_text lab)) card.labs ++ flat_map (λ row. line_text (row_text row)) card.rows)

-- a `lab` line begins no sooner than the ones before it end, covers one word at least, stays inside the words, and has a label of the kind
abbrev pub lab_fits : Head → ℕ → Lab → Bool
lab_fits head covered lab =
    nat_le covered lab.from && nat_le 1 lab.count && nat_le (lab.from + lab.count) head.words && nat_le lab.label (label_limit head.kind)

unfoldable pub labs_fit : Head → ℕ → List Lab → Bool
labs_fit head covered [] = true
labs_fit head covered (lab ∷ labs) = lab_fits head covered lab && labs_fit head (lab.from + lab.count) labs

-- an operand's constant has 32 bits
abbrev pub operand_is32 : Operand → Bool
operand_is32 (operand.Register r) = true
operand_is32 (operand.Constant k) = nat_le k max32

-- the constants and targets of a row have 32 bits
abbrev pub is32 : Row → Bool
is32 (row.Set to value) = nat_le value max32
is32 (row.Copy to from) = true
is32 (row.Compute operation to left right) = operand_is32 right
is32 (row.Load to base index) = true
is32 (row.Store from base index) = true
is32 (row.Branch test left right target) = operand_is32 right && nat_le target max32
is32 (row.Jump target) = nat_le target max32
is32 row.Fence = true
is32 row.Halt = true

-- a card that says something of sense, and is not too long to be one: its routine can be taken with its words
pub record WellFormed (card : Card) : Type 0 where
  pub reader : card.head.reader ≤ label_limit card.head.kind
  pub labs : labs_fit card.head 0 card.labs ≡ true
  pub constants : AllByRecursion (λ row. is32 row ≡ true) card.rows
  pub routine : within card.rows card.head.words card.head.words ≡ true
  pub short : length (written card) ≤ 32768
