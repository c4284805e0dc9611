-- A card's head and its `lab` lines.
use Rattle.std.specs.Prelude.{ℕ, ◌-◌, cond, List, Some, None, Ok, Err, codes, Option, Result}
use Rattle.std.specs.Option.{ok_or}
use Rattle.std.specs.Str.{bytes_eq}
use Rattle.refusals.specs.declared.cards.CardRefusal.{CardRefusal}
use Rattle.refusals.specs.declared.cards.CardRefusal.TheVariants as refusal
use Rattle.cards.specs.declared.heads.LabelKind.{LabelKind}
use Rattle.cards.specs.declared.heads.LabelKind.TheVariants.{Makers, Grades}
use Rattle.cards.specs.declared.heads.Head.{Head}
use Rattle.cards.specs.declared.heads.Lab.{Lab}
use Rattle.cards.specs.Text.{Four}
use Rattle.cards.specs.Numbers.{plain_in}

-- how each kind is written
abbrev pub kind_name : LabelKind → List ℕ
kind_name Makers = codes "makers"
kind_name Grades = codes "grade"

-- the kind of a name
abbrev pub kind_named : List ℕ → Option LabelKind
kind_named name = cond (bytes_eq name (kind_name Makers)) (Some Makers) (cond (bytes_eq name (kind_name Grades)) (Some Grades) None)

-- the largest number that a label of a kind is written as
abbrev pub label_limit : LabelKind → ℕ
label_limit Makers = 65535
label_limit Grades = 15

-- the next step, if there is no refusal yet
abbrev pub and_then : {A B E : Type 0} → Result A E → (A → Result B E) → Result B E
and_then (Ok a) next = next a
and_then (Err e) next = Err e

-- the head that four fields write, or the first wrong field: `card`, the kind, the reader, the number of words
abbrev pub head_in : Four → Result Head CardRefusal
head_in four =
    cond (bytes_eq four.first (codes "card"))
    (and_then (ok_or (kind_named four.second) (refusal.Head 2)) (λ kind.
    and_then (ok_or (plain_in 0 (label_limit kind) four.third) (refusal.Head 3)) (λ reader.
    and_then (ok_or (plain_in 1 4096 four.fourth) (refusal.Head 4)) (λ words.
    Ok (record { kind = kind; reader = reader; words = words })))))
    (Err (refusal.Head 1))

-- the `lab` line that the four fields of line n write, or the first wrong field: from where, how many words, their label. It begins
-- no sooner than the `lab` lines before it end, at `covered`, and stays inside the words
abbrev pub lab_in : Head → ℕ → ℕ → Four → Result Lab CardRefusal
lab_in head covered n four =
    and_then (ok_or (plain_in covered (head.words - 1) four.second) (refusal.Lab n 2)) (λ from.
    and_then (ok_or (plain_in 1 (head.words - from) four.third) (refusal.Lab n 3)) (λ count.
    and_then (ok_or (plain_in 0 (label_limit head.kind) four.fourth) (refusal.Lab n 4)) (λ label.
    Ok (record { from = from; count = count; label = label }))))
