-- What each refusal of a card tells: its number, its line and field, its layer, and the cause where a field of a row is wrong.
use Rattle.std.specs.Prelude.{ℕ, Some, None}
use Rattle.refusals.specs.declared.Layer.{Layer}
use Rattle.refusals.specs.declared.Layer.TheVariants as layer
use Rattle.refusals.specs.declared.cards.Cause.{Cause}
use Rattle.refusals.specs.declared.cards.Cause.TheVariants.{Form, LeadingZero, BeyondLimit}
use Rattle.refusals.specs.declared.cards.CardTold.{CardTold}
use Rattle.refusals.specs.declared.cards.CardRefusal.{CardRefusal}
use Rattle.refusals.specs.declared.cards.CardRefusal.TheVariants.{Extent, FieldCount, Head, Lab, UnknownWord, ExtraRow, RowField, NoRow, Target, Ending, ShortTable}

-- the order in which causes are looked for
abbrev pub cause_number : Cause → ℕ
cause_number Form = 1
cause_number LeadingZero = 2
cause_number BeyondLimit = 3

-- a refusal with no cause, by its number, line, field and layer
abbrev pub blames : ℕ → ℕ → ℕ → Layer → CardTold
blames number line field layer = record { number = number; line = line; field = field; layer = layer; cause = None }

abbrev pub told_of : CardRefusal → CardTold
told_of Extent = blames 10 0 0 layer.Card
told_of (FieldCount line) = blames 11 line 0 layer.Line
told_of (Head field) = blames 12 1 field layer.Line
told_of (Lab line field) = blames 13 line field layer.Line
told_of (UnknownWord line) = blames 14 line 1 layer.Line
told_of (ExtraRow line) = blames 15 line 0 layer.Line
told_of (RowField line field cause) = record { number = 16; line = line; field = field; layer = layer.Field; cause = Some cause }
told_of NoRow = blames 1 0 0 layer.Table
told_of (Target line) = blames 4 line 1 layer.Table
told_of (Ending line) = blames 5 line 1 layer.Table
told_of ShortTable = blames 17 0 0 layer.Card
