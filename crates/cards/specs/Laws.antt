-- What reading has to do with writing, and which fault it tells.
use Rattle.std.specs.Prelude.{◌≡◌, ℕ, Bool, true, false, List, take, Ok, Err}
use Rattle.refusals.specs.declared.Layer.{Layer}
use Rattle.refusals.specs.declared.Layer.TheVariants as layer
use Rattle.refusals.specs.declared.cards.CardRefusal.{CardRefusal}
use Rattle.refusals.specs.ToldOfCards.{told_of}
use Rattle.cards.specs.Text.{lines_of}
use Rattle.cards.specs.Cards.{Card, WellFormed, written}
use Rattle.cards.specs.Reading.{extent_fits, read_card}

-- a fault that lies in one line
abbrev pub of_line : Layer → Bool
of_line layer.Card = false
of_line layer.Line = true
of_line layer.Field = true
of_line layer.Table = false

pub record ReadingLaws : Type 0 where
  -- what is accepted is the written form of a well-formed card, and it is read as that card
  pub sound : (text : List ℕ) (card : Card) → read_card text ≡ Ok card → WellFormed card × (text ≡ written card)
  -- the written form of every well-formed card is accepted, and read as that card
  pub complete : (card : Card) → WellFormed card → read_card (written card) ≡ Ok card
  -- a fault of a line is told whatever follows that line; so of lines that begin a well-formed card none is told
  pub first : (text : List ℕ) (e : CardRefusal) → read_card text ≡ Err e → of_line (told_of e).layer ≡ true
      → (other : List ℕ) → extent_fits other ≡ true → take (told_of e).line (lines_of other) ≡ take (told_of e).line (lines_of text)
      → read_card other ≡ Err e
