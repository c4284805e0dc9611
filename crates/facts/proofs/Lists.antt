-- The order and the join of registers' facts, place by place.
use Rattle.std.proofs.Common.{◌≡◌, ℕ, zero, suc, ◌<◌, ◌≤◌, ◌&&◌, List, [], ◌∷◌, length, get_or, refl, ap, arith}
use Rattle.std.specs.List.{list_all, zip}
use Rattle.labels.specs.Kind.{Kind}
use Rattle.facts.specs.declared.types.Known.{Known}
use Rattle.facts.specs.Order.{below_known, below_all, join_known, join_all}
use Rattle.facts.specs.Raising.{Bounded}

module _ {L : Type 0} (K : Kind L) where
  -- registers compared two by two
  pub below_zipped : (xs ys : List (Known L)) → length xs ≤ length ys → list_all (λ p. below_known K p.0 p.1) (zip xs ys) ≡ below_all K xs ys
  below_zipped [] ys h = refl
  below_zipped (x ∷ xs) [] h = absurd (omega arith)
  below_zipped (x ∷ xs) (y ∷ ys) h = ap (λ b. below_known K x y && b) (below_zipped xs ys (omega arith))

  pub joined_length : (xs ys : List (Known L)) → length xs ≤ length ys → length (join_all K xs ys) ≡ length xs
  joined_length [] ys h = refl
  joined_length (x ∷ xs) [] h = absurd (omega arith)
  joined_length (x ∷ xs) (y ∷ ys) h = ap suc (joined_length xs ys (omega arith))

  pub joined_at : (xs ys : List (Known L)) (k : ℕ) (d : Known L) → k < length xs → k < length ys
      → get_or (join_all K xs ys) k d ≡ join_known K (get_or xs k d) (get_or ys k d)
  joined_at [] ys k d h i = absurd (omega arith)
  joined_at (x ∷ xs) [] k d h i = absurd (omega arith)
  joined_at (x ∷ xs) (y ∷ ys) zero d h i = refl
  joined_at (x ∷ xs) (y ∷ ys) (suc k) d h i = joined_at xs ys k d (omega arith) (omega arith)

  -- bounded, from each place
  pub bounded_from : (ks : List (Known L)) (d : Known L)
      → ((k : ℕ) → k < length ks → (K.rank (get_or ks k d).label ≤ K.greatest) × ((get_or ks k d).width ≤ 255)) → Bounded K ks
  bounded_from [] d each = tt
  bounded_from (x ∷ ks) d each = ((each 0 (omega arith)).0, (each 0 (omega arith)).1, bounded_from ks d (λ k h. each (suc k) (omega arith)))
