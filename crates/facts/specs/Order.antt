-- Facts and their order.
use Rattle.std.specs.Prelude.{ℕ, max, Bool, true, false, ◌&&◌, List, [], ◌∷◌, replicate, Some, None, Option, nat_le, slice_index_or}
use Rattle.labels.specs.Kind.{Kind}
use Rattle.facts.specs.declared.types.Known.{Known}

-- what is known at a row in a mode: none where it is unreached, else something of every register
abbrev pub Fact : Type 0 → Type 0
Fact L = Option (List (Known L))

-- a label and a width
abbrev pub knows : {L : Type 0} → L → ℕ → Known L
knows l w = record { label = l; width = w }

module _ {L : Type 0} (K : Kind L) where
  -- what is known of every register at the start: it is 0, and depends on nothing
  abbrev pub start : List (Known L)
  start = replicate 16 (knows K.lowest 0)

  -- what is known of a register
  abbrev pub known_at : List (Known L) → ℕ → Known L
  known_at ks r = slice_index_or ks r (knows K.lowest 0)

  -- at or below: the label is, and the width is
  abbrev pub below_known : Known L → Known L → Bool
  below_known a b = K.below a.label b.label && nat_le a.width b.width

  -- at or below, register by register
  abbrev pub below_all : List (Known L) → List (Known L) → Bool
  below_all [] bs = true
  below_all (a ∷ rest) [] = false
  below_all (a ∷ rest) (b ∷ bs) = below_known a b && below_all rest bs

  -- a fact is at or below another if it is unreached, or both are reached and every register is
  abbrev pub below_fact : Fact L → Fact L → Bool
  below_fact None g = true
  below_fact (Some ks) None = false
  below_fact (Some ks) (Some bs) = below_all ks bs

  -- the least at or above both
  abbrev pub join_known : Known L → Known L → Known L
  join_known a b = knows (K.join a.label b.label) (max a.width b.width)

  abbrev pub join_all : List (Known L) → List (Known L) → List (Known L)
  join_all [] bs = []
  join_all (a ∷ rest) [] = []
  join_all (a ∷ rest) (b ∷ bs) = join_known a b ∷ join_all rest bs
