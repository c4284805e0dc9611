-- A text as its lines, and a line as its fields.
use Rattle.std.specs.Prelude.{ℕ, cond, List, [], ◌∷◌, drop, Some, None, Option, ◌==◌, ◌≢◌}
use Rattle.cards.specs.declared.reader.Reader.{Reader}
use Rattle.std.specs.List.{AllByRecursion}
use Rattle.cards.specs.declared.lines.Fields.{Fields}

-- a byte put in front of the first part
abbrev pub onto : ℕ → List (List ℕ) → List (List ℕ)
onto x [] = (x ∷ []) ∷ []
onto x (part ∷ parts) = (x ∷ part) ∷ parts

-- the parts of a text that bytes b end, and after the last of these bytes whatever `last` says
unfoldable pub split : ℕ → List (List ℕ) → List ℕ → List (List ℕ)
split b last [] = last
split b last (x ∷ xs) = cond (x == b) ([] ∷ split b last xs) (onto x (split b last xs))

-- a text without the byte
abbrev pub Lacks : ℕ → List ℕ → Type 0
Lacks b text = AllByRecursion (λ x. x ≢ b) text

-- the lines of a text, each ended by byte 10
abbrev pub lines_of : List ℕ → List (List ℕ)
lines_of text = split 10 [] text

-- the fields of a line, between commas: one more than there are commas
abbrev pub fields_of : List ℕ → List (List ℕ)
fields_of line = split 44 ([] ∷ []) line

-- a line's four fields
pub record Four : Type 0 where
  pub first : List ℕ
  pub second : List ℕ
  pub third : List ℕ
  pub fourth : List ℕ

-- four fields, if there are exactly four
abbrev pub four_of : List (List ℕ) → Option Four
four_of [] = None
four_of (a ∷ []) = None
four_of (a ∷ b ∷ []) = None
four_of (a ∷ b ∷ c ∷ []) = None
four_of (a ∷ b ∷ c ∷ d ∷ []) = Some (record { first = a; second = b; third = c; fourth = d })
four_of (a ∷ b ∷ c ∷ d ∷ e ∷ more) = None

-- the texts of the four fields that the code found
abbrev pub four_texts : Fields → Four
four_texts fields = record { first = fields.first.now; second = fields.second.now; third = fields.third.now; fourth = fields.fourth.now }

-- what a reader has still to read
abbrev pub left_in : Reader → List ℕ
left_in reader = drop reader.at reader.card.now
