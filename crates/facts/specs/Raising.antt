-- How a fact rises.
use Rattle.std.specs.Prelude.{◌≡◌, ℕ, ◌+◌, ◌-◌, ◌*◌, ◌<◌, ◌≤◌, true, false, List, [], ◌∷◌, Some, None, Option}
use Rattle.labels.specs.Kind.{Kind}
use Rattle.facts.specs.declared.types.Known.{Known}
use Rattle.facts.specs.Order.{Fact, below_fact}

module _ {L : Type 0} (K : Kind L) where
  -- how often a register's fact can still rise, at most: a width is kept in eight bits
  abbrev pub room_known : Known L → ℕ
  room_known k = (K.greatest - K.rank k.label) + (255 - k.width)

  abbrev pub room_all : List (Known L) → ℕ
  room_all [] = 0
  room_all (k ∷ ks) = room_known k + room_all ks

  -- how often a fact can still rise, at most
  abbrev pub room : Fact L → ℕ
  room None = 16 * (K.greatest + 255) + 1
  room (Some ks) = room_all ks

  -- each label's rank is at most the greatest, and each width fits its eight bits
  abbrev pub Bounded : List (Known L) → Type 0
  Bounded [] = Unit {0}
  Bounded (k ∷ ks) = (K.rank k.label ≤ K.greatest) × (k.width ≤ 255) × Bounded ks

  -- a fact rises to the least that is at or above it and what is handed to it, and has less room left to rise
  pub record RisenTo (fact : Fact L) (ks new : List (Known L)) : Type 0 where
    pub higher : below_fact K (Some ks) fact ≡ false
    pub above : below_fact K fact (Some new) ≡ true
    pub admits : below_fact K (Some ks) (Some new) ≡ true
    pub least : (u : Fact L) → below_fact K fact u ≡ true → below_fact K (Some ks) u ≡ true → below_fact K (Some new) u ≡ true
    pub less_room : room (Some new) < room fact

  -- what a fact does about what is handed to it: it stays where it is at or above that, else it rises
  abbrev pub Raised : Fact L → List (Known L) → Option (List (Known L)) → Type 0
  Raised fact ks None = below_fact K (Some ks) fact ≡ true
  Raised fact ks (Some new) = RisenTo fact ks new
