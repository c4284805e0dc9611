-- A kind of label: its operations, and the laws that they keep.
use Rattle.std.specs.Prelude.{◌≡◌, ℕ, ◌<◌, Bool, true, ◌≢◌}

pub record Kind (L : Type 0) : Type 0 where
  -- the order: the first is at or below the second
  pub below : L → L → Bool
  -- the least label at or above both
  pub join : L → L → L
  -- at or below every label
  pub lowest : L
  -- how high a label stands, a number up to the greatest
  pub rank : L → ℕ
  pub greatest : ℕ

pub record Lawful {L : Type 0} (K : Kind L) : Type 0 where
  pub reflexive : (a : L) → K.below a a ≡ true
  pub transitive : (a b c : L) → K.below a b ≡ true → K.below b c ≡ true → K.below a c ≡ true
  pub antisymmetric : (a b : L) → K.below a b ≡ true → K.below b a ≡ true → a ≡ b
  pub join_left : (a b : L) → K.below a (K.join a b) ≡ true
  pub join_right : (a b : L) → K.below b (K.join a b) ≡ true
  pub join_least : (a b c : L) → K.below a c ≡ true → K.below b c ≡ true → K.below (K.join a b) c ≡ true
  pub lowest_below : (a : L) → K.below K.lowest a ≡ true
  pub rank_grows : (a b : L) → K.below a b ≡ true → (a ≢ b) → K.rank a < K.rank b
