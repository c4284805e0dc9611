-- The code's draft of a card, by the card that it stands for.
use Rattle.std.specs.Prelude.{◌≡◌, ℕ, ◌<◌, length, Ok, Err, Result, slice_index}
use Rattle.refusals.specs.declared.cards.CardRefusal.{CardRefusal}
use Rattle.cards.specs.declared.draft.Draft.{Draft}
use Rattle.cards.specs.Cards.{Card, label_at}
use Rattle.cards.specs.Reading.{covered_by}

pub record Drafts (draft : Draft) (card : Card) : Type 0 where
  pub head : draft.head ≡ card.head
  pub labs : draft.labs ≡ length card.labs
  pub covered : draft.covered ≡ covered_by card.labs
  pub labels : (i : ℕ) → i < 4096 → slice_index draft.labels i ≡ label_at card.labs i
  pub rows : draft.rows.items ≡ card.rows

-- a step of reading: the draft is of the next card, or the refusal is told
abbrev pub Steps : Result Card CardRefusal → Draft → Result (Unit {0}) CardRefusal → Type 0
Steps (Ok next) draft r = (r ≡ Ok tt) × Drafts draft next
Steps (Err refusal) draft r = r ≡ Err refusal

-- what a step of reading makes of the draft of any card, by what the rules make of that card
abbrev pub Takes : (Card → Result Card CardRefusal) → Draft → Draft → Result (Unit {0}) CardRefusal → Type 0
Takes step before after r = (card : Card) → Drafts before card → Steps (step card) after r

-- what reading a whole text gathers: the draft of the card that it writes, or the refusal
abbrev pub Gathers : Result Card CardRefusal → Result Draft CardRefusal → Type 0
Gathers (Ok card) (Ok draft) = Drafts draft card
Gathers (Ok card) (Err other) = ⊥
Gathers (Err refusal) (Ok draft) = ⊥
Gathers (Err refusal) (Err other) = other ≡ refusal
