-- What is left to do, and how it falls.
use Rattle.std.proofs.Common.{◌≡◌, ℕ, zero, suc, ◌+◌, ◌<◌, ◌≤◌, Bool, true, false, List, [], ◌∷◌, length, get_or, set, arith, None}
use Rattle.std.proofs.lemmas.Bool.{false≢true}
use Rattle.labels.specs.Kind.{Kind}
use Rattle.facts.specs.Raising.{room}
use Rattle.judging.specs.Steps.{stale_count, rooms}
use Rattle.facts.specs.Order.{Fact}

-- a slot marked stale counts once at most
pub mark_stale : (bs : List Bool) (s : ℕ) → stale_count (set bs s true) ≤ stale_count bs + 1
mark_stale [] s = omega arith
mark_stale (true ∷ bs) zero = omega arith
mark_stale (false ∷ bs) zero = omega arith
mark_stale (b ∷ bs) (suc s) = omega (arith, mark_stale bs s)

-- a stale slot that is cleared counts no more
pub clear_stale : (bs : List Bool) (s : ℕ) → get_or bs s false ≡ true → stale_count (set bs s false) + 1 ≡ stale_count bs
clear_stale [] s h = absurd (false≢true h)
clear_stale (true ∷ bs) zero h = omega arith
clear_stale (false ∷ bs) zero h = absurd (false≢true h)
clear_stale (b ∷ bs) (suc s) h = omega (arith, clear_stale bs s h)

module _ {L : Type 0} (K : Kind L) where
  -- a fact with less room leaves less room in the table
  pub rooms_fall : (fs : List (Fact L)) (s : ℕ) (f : Fact L) → s < length fs → room K f < room K (get_or fs s None) → rooms K (set fs s f) < rooms K fs
  rooms_fall [] s f inside less = absurd (omega arith)
  rooms_fall (g ∷ fs) zero f inside less = omega arith
  rooms_fall (g ∷ fs) (suc s) f inside less = omega (arith, rooms_fall fs s f (omega arith) less)
