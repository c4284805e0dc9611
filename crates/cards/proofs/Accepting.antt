-- From what the rules make of a text to what reading promises of it.
use Rattle.std.proofs.Common.{◌≡◌, ℕ, true, false, List, Ok, Err, Result, sym, refl, ap, ◌∙◌, subst, ⊎_elim}
use Rattle.std.proofs.lemmas.Bool.{cases_Bool}
use Rattle.refusals.specs.declared.cards.CardRefusal.{CardRefusal}
use Rattle.refusals.specs.declared.cards.CardRefusal.TheVariants as refusal
use Rattle.routine.specs.declared.rows.Row.{Row}
use Rattle.cards.specs.declared.accepted.Accepted.{Accepted}
use Rattle.cards.specs.Cards.{Card, WellFormed, written}
use Rattle.cards.specs.Reading.{read_card}
use Rattle.cards.specs.Laws.{ReadingLaws}
use Rattle.cards.proofs.Outcomes.{never_ok}
use Rattle.cards.specs.Reads.{has_room, Accepts, Declines, Reads, Ends}

module _ (laws : ReadingLaws) (text : List ℕ) (rows rows' : List Row) (labels labels' : List ℕ) (r : Result Accepted CardRefusal)
    (ends : Ends text rows labels (read_card text) r rows' labels') where
  -- the rules accept the written form of a well-formed card
  read_as : (card : Card) → WellFormed card → text ≡ written card → read_card text ≡ Ok card
  read_as card fits is = ap read_card is ∙ laws.complete card fits

  as_card : (card : Card) → read_card text ≡ Ok card
      → (has_room card rows labels ≡ true → Accepts text rows labels card r rows' labels')
      × (has_room card rows labels ≡ false → Declines text rows labels refusal.ShortTable r rows' labels')
  as_card card is = subst (λ read. Ends text rows labels read r rows' labels') is ends

  declined_as : (read : Result Card CardRefusal) → read_card text ≡ read → ((card : Card) → WellFormed card → text ≡ written card → ⊥)
      → (e : CardRefusal) × (read_card text ≡ Err e) × Declines text rows labels e r rows' labels'
  declined_as (Err e) is none = (e, is, subst (λ read. Ends text rows labels read r rows' labels') is ends)
  declined_as (Ok card) is none = let (fits, same) = laws.sound text card is in absurd (none card fits same)

  accepted_as : (read : Result Card CardRefusal) → read_card text ≡ read → (a : Accepted) → r ≡ Ok a
      → (card : Card) × WellFormed card × (text ≡ written card) × Accepts text rows labels card r rows' labels'
  accepted_as (Err e) is a ok = never_ok _ _ _ (sym (subst (λ read. Ends text rows labels read r rows' labels') is ends).told ∙ ok)
  accepted_as (Ok card) is a ok =
      let (fits, same) = laws.sound text card is in (
        card,
        fits,
        same,
        ⊎_elim (as_card card is).0 (λ no_room. never_ok _ _ _ (sym ((as_card card is).1 no_room).told ∙ ok)) (cases_Bool (has_room card rows labels)),
      )

  pub reads : Reads text rows labels r rows' labels'
  reads = record {
    accepts = λ card fits is. (as_card card (read_as card fits is)).0;
    lacks_room = λ card fits is. (as_card card (read_as card fits is)).1;
    declines = declined_as (read_card text) refl;
    only = accepted_as (read_card text) refl;
  }
