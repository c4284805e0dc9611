-- What reading a card does to the tables handed in, and what it answers.
use Rattle.std.specs.Prelude.{◌≡◌, ℕ, Bool, true, false, ◌&&◌, List, ◌++◌, length, drop, Ok, Err, Result, ◌≢◌, nat_le}
use Rattle.refusals.specs.declared.cards.CardRefusal.{CardRefusal}
use Rattle.refusals.specs.declared.cards.CardRefusal.TheVariants as refusal
use Rattle.routine.specs.declared.rows.Row.{Row}
use Rattle.cards.specs.declared.accepted.Accepted.{Accepted}
use Rattle.cards.specs.Cards.{Card, WellFormed, written, labels_of}
use Rattle.cards.specs.Reading.{read_card}

-- a table with a list written over its beginning, and as before beyond it
abbrev pub overlaid : {X : Type 0} → List X → List X → List X
overlaid xs table = xs ++ drop (length xs) table

-- what is told of an accepted card
abbrev pub accepted_of : Card → Accepted
accepted_of card = record { kind = card.head.kind; reader = card.head.reader; words = card.head.words; rows = length card.rows }

-- the tables have room for the card's rows and labels
abbrev pub has_room : Card → List Row → List ℕ → Bool
has_room card rows labels = nat_le (length card.rows) (length rows) && nat_le card.head.words (length labels)

module _ (text : List ℕ) (rows : List Row) (labels : List ℕ) where
  -- declined: both tables are as they were
  pub record Declines (e : CardRefusal) (r : Result Accepted CardRefusal) (rows' : List Row) (labels' : List ℕ) : Type 0 where
    pub told : r ≡ Err e
    pub rows_kept : rows' ≡ rows
    pub labels_kept : labels' ≡ labels

  -- accepted as the card: its rows and labels are written, and nothing beyond them
  pub record Accepts (card : Card) (r : Result Accepted CardRefusal) (rows' : List Row) (labels' : List ℕ) : Type 0 where
    pub told : r ≡ Ok (accepted_of card)
    pub rows_written : rows' ≡ overlaid card.rows rows
    pub labels_written : labels' ≡ overlaid (labels_of card) labels

  -- exactly the written forms of well-formed cards are accepted
  pub record Reads (r : Result Accepted CardRefusal) (rows' : List Row) (labels' : List ℕ) : Type 0 where
    -- such a text is accepted as its card
    pub accepts : (card : Card) → WellFormed card → text ≡ written card → has_room card rows labels ≡ true → Accepts card r rows' labels'
    -- unless a table handed in is too short for it
    pub lacks_room : (card : Card) → WellFormed card → text ≡ written card → has_room card rows labels ≡ false → Declines refusal.ShortTable r rows' labels'
    -- every other text is declined by its first fault
    pub declines : ((card : Card) → WellFormed card → text ≢ written card) → (e : CardRefusal) × (read_card text ≡ Err e) × Declines e r rows' labels'
    -- so what was accepted is such a text
    pub only : (a : Accepted) → r ≡ Ok a → (card : Card) × WellFormed card × (text ≡ written card) × Accepts card r rows' labels'

  -- the same by what the rules make of the text
  abbrev pub Ends : Result Card CardRefusal → Result Accepted CardRefusal → List Row → List ℕ → Type 0
  Ends (Ok card) r rows' labels' =
      (has_room card rows labels ≡ true → Accepts card r rows' labels') × (has_room card rows labels ≡ false → Declines refusal.ShortTable r rows' labels')
  Ends (Err e) r rows' labels' = Declines e r rows' labels'
