-- A fact that rises has less room left.
use Rattle.std.proofs.Common.{◌≡◌, ◌+◌, ◌*◌, ◌<◌, ◌≤◌, true, false, leb, List, [], ◌∷◌, length, Some, sym, refl, ap, subst, ⊎_elim, suc-mul, arith, None}
use Rattle.std.proofs.lemmas.Bool.{cases_Bool, and_cases, leb-false, both_ways}
use Rattle.labels.specs.Kind.{Kind, Lawful}
use Rattle.facts.specs.declared.types.Known.{Known}
use Rattle.facts.specs.Order.{Fact, below_known, below_all, below_fact, join_known, join_all}
use Rattle.facts.specs.Raising.{room, room_known, room_all, Bounded, Raised, RisenTo}
use Rattle.facts.proofs.Orders.{all_refl, all_above, all_admits, all_least}

module _ {L : Type 0} (K : Kind L) (laws : Lawful K) where
  -- a label that does not change keeps its rank, and one that rises has a larger one
  rank_rises : (a b : L) → K.below b a ≡ false → K.rank a < K.rank (K.join a b)
  rank_rises a b no-below =
      laws.rank_grows a (K.join a b) (laws.join_left a b)
      (λ same. both_ways (K.below b a) no-below (subst (λ x. K.below b x ≡ true) (sym same) (laws.join_right a b)))

  rank_stays : (a b : L) → K.below b a ≡ true → K.join a b ≡ a
  rank_stays a b below = laws.antisymmetric (K.join a b) a (laws.join_least a b a (laws.reflexive a) below) (laws.join_left a b)

  rank_mono : (a b : L) → K.rank a ≤ K.rank (K.join a b)
  rank_mono a b =
      ⊎_elim (λ below. omega (arith, ap K.rank (rank_stays a b below))) (λ above. omega (arith, rank_rises a b above)) (cases_Bool (K.below b a))

  known_shrinks : (a b : Known L) → room_known K (join_known K a b) ≤ room_known K a
  known_shrinks a b = omega (arith, rank_mono a.label b.label)

  known_falls : (a b : Known L) → below_known K b a ≡ false → K.rank (join_known K a b).label ≤ K.greatest → (join_known K a b).width ≤ 255
      → room_known K (join_known K a b) < room_known K a
  known_falls a b above ranked wide =
      ⊎_elim (λ label. omega (arith, rank_rises a.label b.label label)) (λ width. omega (arith, leb-false b.width a.width width, rank_mono a.label b.label))
      (and_cases (K.below b.label a.label) (leb b.width a.width) above)

  all_shrinks : (xs ys : List (Known L)) → room_all K (join_all K xs ys) ≤ room_all K xs
  all_shrinks [] ys = omega arith
  all_shrinks (x ∷ xs) [] = omega arith
  all_shrinks (x ∷ xs) (y ∷ ys) = omega (arith, known_shrinks x y, all_shrinks xs ys)

  all_falls : (xs ys : List (Known L)) → length ys ≤ length xs → below_all K ys xs ≡ false → Bounded K (join_all K xs ys)
      → room_all K (join_all K xs ys) < room_all K xs
  all_falls xs [] long above bounded = absurd (both_ways true above refl)
  all_falls [] (y ∷ ys) long above bounded = absurd (omega arith)
  all_falls (x ∷ xs) (y ∷ ys) long above bounded =
      ⊎_elim (λ here. omega (arith, known_falls x y here bounded.0 bounded.1, all_shrinks xs ys))
      (λ later. omega (arith, known_shrinks x y, all_falls xs ys (omega arith) later bounded.2))
      (and_cases (below_known K y x) (below_all K ys xs) above)

  room_of : (xs : List (Known L)) → room_all K xs ≤ length xs * (K.greatest + 255)
  room_of [] = omega arith
  room_of (x ∷ xs) = omega (arith, room_of xs, suc-mul (length xs) (K.greatest + 255))

  least_join : (old ks : List (Known L)) (u : Fact L) → below_fact K (Some old) u ≡ true → below_fact K (Some ks) u ≡ true
      → below_fact K (Some (join_all K old ks)) u ≡ true
  least_join old ks None p q = p
  least_join old ks (Some bs) p q = all_least K laws old ks bs p q

  -- an unreached fact rises to what is handed to it
  pub reached_first : (fact : Fact L) (ks new : List (Known L)) → fact ≡ None → new ≡ ks → length ks ≡ 16 → Raised K fact ks (Some new)
  reached_first fact ks new is same long =
      let falls : room_all K new < room K None =
      omega (arith, ap (room_all K) same, room_of ks, ap (λ n. n * (K.greatest + 255)) long) in
      let upper : below_all K ks new ≡ true = subst (λ n. below_all K ks n ≡ true) (sym same) (all_refl K laws ks) in
      subst (λ f. RisenTo K f ks new) (sym is) (record {
        higher = refl;
        above = refl;
        admits = upper;
        least = λ u h k. subst (λ n. below_fact K (Some n) u ≡ true) (sym same) k;
        less_room = falls;
      })

  -- a reached fact that is not at or above what is handed to it rises to the join
  pub reached_higher : (fact : Fact L) (old ks new : List (Known L)) → fact ≡ Some old → new ≡ join_all K old ks → below_all K ks old ≡ false
      → Bounded K new → length old ≡ length ks → Raised K fact ks (Some new)
  reached_higher fact old ks new is same above bounded long =
      let falls : room_all K (join_all K old ks) < room_all K old = all_falls old ks (omega arith) above (subst (Bounded K) same bounded) in
      subst (λ f. RisenTo K f ks new) (sym is) (subst (λ n. RisenTo K (Some old) ks n) (sym same) (record {
        higher = above;
        above = all_above K laws old ks (omega arith);
        admits = all_admits K laws old ks (omega arith);
        least = least_join old ks;
        less_room = falls;
      }))
