-- The order of facts is one, and registers keep it.
use Rattle.std.proofs.Common.{◌≡◌, ℕ, zero, suc, ◌≤◌, true, List, [], ◌∷◌, length, set, refl, arith, Some, None}
use Rattle.std.proofs.lemmas.Bool.{and_parts, and_from, le-leb, leb-true, false≢true}
use Rattle.labels.specs.Kind.{Kind, Lawful}
use Rattle.facts.specs.declared.types.Known.{Known}
use Rattle.facts.specs.Order.{Fact, known_at, below_known, below_all, below_fact, join_known, join_all}

module _ {L : Type 0} (K : Kind L) where
  -- at or below is two facts
  pub parts : (a b : Known L) → below_known K a b ≡ true → (K.below a.label b.label ≡ true) × (a.width ≤ b.width)
  parts a b h = let (l, w) = and_parts _ _ h in (l, leb-true _ _ w)

  pub from_parts : (a b : Known L) → K.below a.label b.label ≡ true → a.width ≤ b.width → below_known K a b ≡ true
  from_parts a b l w = and_from _ _ l (le-leb _ _ w)

module _ {L : Type 0} (K : Kind L) (laws : Lawful K) where
  known_refl : (a : Known L) → below_known K a a ≡ true
  known_refl a = from_parts K a a (laws.reflexive _) (omega arith)

  known_trans : (a b c : Known L) → below_known K a b ≡ true → below_known K b c ≡ true → below_known K a c ≡ true
  known_trans a b c p q =
      let (l, w) = parts K a b p in
      let (m, v) = parts K b c q in
      from_parts K a c (laws.transitive _ _ _ l m) (omega arith)

  pub all_refl : (xs : List (Known L)) → below_all K xs xs ≡ true
  all_refl [] = refl
  all_refl (x ∷ xs) = and_from _ _ (known_refl x) (all_refl xs)

  pub all_trans : (xs ys zs : List (Known L)) → below_all K xs ys ≡ true → below_all K ys zs ≡ true → below_all K xs zs ≡ true
  all_trans [] ys zs p q = refl
  all_trans (x ∷ xs) [] zs p q = absurd (false≢true p)
  all_trans (x ∷ xs) (y ∷ ys) [] p q = absurd (false≢true q)
  all_trans (x ∷ xs) (y ∷ ys) (z ∷ zs) p q =
      let (a, b) = and_parts _ _ p in
      let (c, d) = and_parts _ _ q in
      and_from _ _ (known_trans x y z a c) (all_trans xs ys zs b d)

  pub fact_refl : (f : Fact L) → below_fact K f f ≡ true
  fact_refl None = refl
  fact_refl (Some ks) = all_refl ks

  pub fact_trans : (f g h : Fact L) → below_fact K f g ≡ true → below_fact K g h ≡ true → below_fact K f h ≡ true
  fact_trans None g h p q = refl
  fact_trans (Some xs) None h p q = absurd (false≢true p)
  fact_trans (Some xs) (Some ys) None p q = absurd (false≢true q)
  fact_trans (Some xs) (Some ys) (Some zs) p q = all_trans xs ys zs p q

  -- a register of the lower is lower; one that there is not is lowest
  pub at_mono : (xs ys : List (Known L)) (r : ℕ) → below_all K xs ys ≡ true → below_known K (known_at K xs r) (known_at K ys r) ≡ true
  at_mono [] ys r h = from_parts K _ (known_at K ys r) (laws.lowest_below _) (omega arith)
  at_mono (x ∷ xs) [] r h = absurd (false≢true h)
  at_mono (x ∷ xs) (y ∷ ys) zero h = (and_parts _ _ h).0
  at_mono (x ∷ xs) (y ∷ ys) (suc r) h = at_mono xs ys r (and_parts _ _ h).1

  pub set_mono : (xs ys : List (Known L)) (r : ℕ) (a b : Known L) → below_all K xs ys ≡ true → below_known K a b ≡ true
      → below_all K (set xs r a) (set ys r b) ≡ true
  set_mono [] ys r a b h k = refl
  set_mono (x ∷ xs) [] r a b h k = absurd (false≢true h)
  set_mono (x ∷ xs) (y ∷ ys) zero a b h k = and_from _ _ k (and_parts _ _ h).1
  set_mono (x ∷ xs) (y ∷ ys) (suc r) a b h k = let (here, rest) = and_parts _ _ h in and_from _ _ here (set_mono xs ys r a b rest k)

  -- the join is the least at or above both
  known_above : (a b : Known L) → below_known K a (join_known K a b) ≡ true
  known_above a b = from_parts K a (join_known K a b) (laws.join_left _ _) (omega arith)

  known_admits : (a b : Known L) → below_known K b (join_known K a b) ≡ true
  known_admits a b = from_parts K b (join_known K a b) (laws.join_right _ _) (omega arith)

  known_least : (a b c : Known L) → below_known K a c ≡ true → below_known K b c ≡ true → below_known K (join_known K a b) c ≡ true
  known_least a b c p q =
      let (l, w) = parts K a c p in
      let (m, v) = parts K b c q in
      from_parts K (join_known K a b) c (laws.join_least _ _ _ l m) (omega arith)

  pub all_above : (xs ys : List (Known L)) → length xs ≤ length ys → below_all K xs (join_all K xs ys) ≡ true
  all_above [] ys h = refl
  all_above (x ∷ xs) [] h = absurd (omega arith)
  all_above (x ∷ xs) (y ∷ ys) h = and_from _ _ (known_above x y) (all_above xs ys (omega arith))

  pub all_admits : (xs ys : List (Known L)) → length ys ≤ length xs → below_all K ys (join_all K xs ys) ≡ true
  all_admits xs [] h = refl
  all_admits [] (y ∷ ys) h = absurd (omega arith)
  all_admits (x ∷ xs) (y ∷ ys) h = and_from _ _ (known_admits x y) (all_admits xs ys (omega arith))

  pub all_least : (xs ys zs : List (Known L)) → below_all K xs zs ≡ true → below_all K ys zs ≡ true → below_all K (join_all K xs ys) zs ≡ true
  all_least [] ys zs p q = refl
  all_least (x ∷ xs) [] zs p q = refl
  all_least (x ∷ xs) (y ∷ ys) [] p q = absurd (false≢true p)
  all_least (x ∷ xs) (y ∷ ys) (z ∷ zs) p q =
      let (a, b) = and_parts _ _ p in
      let (c, d) = and_parts _ _ q in
      and_from _ _ (known_least x y z a c) (all_least xs ys zs b d)
