-- Every rule keeps the order: from lower facts, lower facts are handed on, and whatever leaks also leaks under higher ones.
use Rattle.std.proofs.Common.{◌≡◌, ℕ, ◌+◌, ◌≤◌, min, Bool, true, false, cond, not, ◌&&◌, List, [], ◌∷◌, length, refl, ⊎_elim, arith, Some, None}
use Rattle.std.proofs.lemmas.Bool.{and_parts, and_from, or_cases, or_left, or_right, cases_Bool, not-true, not_from_false, both_ways, false≢true}
use Rattle.labels.specs.Kind.{Kind, Lawful}
use Rattle.routine.specs.Address.{in_window}
use Rattle.routine.proofs.Address.{window_wider}
use Rattle.routine.specs.declared.rows.Operand.{Operand}
use Rattle.routine.specs.declared.rows.Operand.TheVariants.{Register, Constant}
use Rattle.routine.specs.declared.rows.Operation.{Operation}
use Rattle.routine.specs.declared.rows.Operation.TheVariants as op
use Rattle.routine.specs.declared.rows.Test.{Test}
use Rattle.routine.specs.declared.rows.Test.TheVariants as test
use Rattle.routine.specs.declared.rows.Row.{Row}
use Rattle.routine.specs.declared.rows.Row.TheVariants as row
use Rattle.facts.specs.declared.types.Mode.{Mode}
use Rattle.facts.specs.declared.types.Mode.TheVariants.{Settled, Guessed}
use Rattle.facts.specs.declared.types.Reason.{Reason}
use Rattle.facts.specs.declared.types.Reason.TheVariants as reason
use Rattle.facts.specs.declared.types.Known.{Known}
use Rattle.facts.specs.Order.{Fact, knows, known_at, below_known, below_all, below_fact}
use Rattle.facts.specs.Rules.{bits_of, width_after, of_operand, join_from, result_of, after, narrowed, at_target, at_next, Handed, hand, onward, hands}
use Rattle.facts.specs.Leaks.{hidden, hidden_operand, spills_from, leaks}
use Rattle.facts.specs.Tables.{fact_at, admits, hands_fact, leaks_fact}
use Rattle.facts.proofs.Orders.{parts, from_parts, at_mono, set_mono, fact_trans}

-- the width after a computing word, at most 32
width_mono : (o : Operation) (right : Operand) (a b v w : ℕ) → a ≤ b → v ≤ w → min 32 (width_after o a right v) ≤ min 32 (width_after o b right w)
width_mono op.Add right a b v w h k = omega arith
width_mono op.Sub right a b v w h k = omega arith
width_mono op.Mul right a b v w h k = omega arith
width_mono op.And right a b v w h k = omega arith
width_mono op.Or right a b v w h k = omega arith
width_mono op.Xor right a b v w h k = omega arith
width_mono op.ShiftLeft (Register r) a b v w h k = omega arith
width_mono op.ShiftLeft (Constant n) a b v w h k = omega arith
width_mono op.ShiftRight (Register r) a b v w h k = omega arith
width_mono op.ShiftRight (Constant n) a b v w h k = omega arith
width_mono op.Less right a b v w h k = omega arith
width_mono op.Equal right a b v w h k = omega arith

module _ {L : Type 0} (K : Kind L) (laws : Lawful K) where
  join_mono : (a b c d : L) → K.below a b ≡ true → K.below c d ≡ true → K.below (K.join a c) (K.join b d) ≡ true
  join_mono a b c d h k =
      laws.join_least a c (K.join b d) (laws.transitive a b (K.join b d) h (laws.join_left b d)) (laws.transitive c d (K.join b d) k (laws.join_right b d))

  -- one word more of a window: the wider window has it too
  word_mono : (narrow wide : Bool) (l m x : L) → (narrow ≡ true → wide ≡ true) → K.below l m ≡ true
      → K.below (cond narrow (K.join l x) l) (cond wide (K.join m x) m) ≡ true
  word_mono true true l m x wider h = join_mono l m x x h (laws.reflexive x)
  word_mono true false l m x wider h = absurd (false≢true (wider refl))
  word_mono false true l m x wider h = laws.transitive l m (K.join m x) h (laws.join_left m x)
  word_mono false false l m x wider h = h

  join_from_mono : (n base v w i : ℕ) (labels : List L) (l m : L) → v ≤ w → K.below l m ≡ true
      → K.below (join_from K n base v i labels l) (join_from K n base w i labels m) ≡ true
  join_from_mono n base v w i [] l m h k = k
  join_from_mono n base v w i (x ∷ labels) l m h k =
      join_from_mono n base v w (i + 1) labels _ _ h (word_mono (in_window n base v i) (in_window n base w i) l m x (window_wider n base v w i h) k)

  module _ (ks gs : List (Known L)) (lower : below_all K ks gs ≡ true) where
    label_mono : (r : ℕ) → K.below (known_at K ks r).label (known_at K gs r).label ≡ true
    label_mono r = (parts K _ _ (at_mono K laws ks gs r lower)).0

    at_width : (r : ℕ) → (known_at K ks r).width ≤ (known_at K gs r).width
    at_width r = (parts K _ _ (at_mono K laws ks gs r lower)).1

    operand_mono : (o : Operand) → below_known K (of_operand K ks o) (of_operand K gs o) ≡ true
    operand_mono (Register r) = at_mono K laws ks gs r lower
    operand_mono (Constant k) = from_parts K _ _ (laws.reflexive K.lowest) (omega arith)

    result_mono : (o : Operation) (left : ℕ) (right : Operand)
        → below_known K (result_of K o (known_at K ks left) right (of_operand K ks right)) (result_of K o (known_at K gs left) right (of_operand K gs right)) ≡ true
    result_mono o left right =
        let (l, w) = parts K (of_operand K ks right) (of_operand K gs right) (operand_mono right) in
        from_parts K _ _ (join_mono _ _ _ _ (label_mono left) l) (width_mono o right _ _ _ _ (at_width left) w)

    after_mono : (labels : List L) (x : Row) → below_all K (after K labels x ks) (after K labels x gs) ≡ true
    after_mono labels (row.Set to value) = set_mono K laws ks gs to _ _ lower (from_parts K (knows _ (bits_of value)) (knows _ (bits_of value)) (laws.reflexive K.lowest) (omega arith))
    after_mono labels (row.Copy to from) = set_mono K laws ks gs to _ _ lower (at_mono K laws ks gs from lower)
    after_mono labels (row.Compute o to left right) = set_mono K laws ks gs to _ _ lower (result_mono o left right)
    after_mono labels (row.Load to base index) =
        set_mono K laws ks gs to _ _ lower
        (from_parts K (knows _ 32) (knows _ 32) (join_from_mono (length labels) base _ _ 0 labels _ _ (at_width index) (label_mono index)) (omega arith))
    after_mono labels (row.Store from base index) = lower
    after_mono labels (row.Branch t left right target) = lower
    after_mono labels (row.Jump target) = lower
    after_mono labels row.Fence = lower
    after_mono labels row.Halt = lower

    narrow_mono : (r v w : ℕ) → v ≤ w → below_all K (narrowed K ks r v) (narrowed K gs r w) ≡ true
    narrow_mono r v w h = set_mono K laws ks gs r _ _ lower (from_parts K _ _ (label_mono r) (omega (arith, at_width r)))

  module _ (ks gs : List (Known L)) (lower : below_all K ks gs ≡ true) where
    target_mono : (t : Test) (a : ℕ) (right : Operand) → below_all K (at_target K t a right ks) (at_target K t a right gs) ≡ true
    target_mono test.Less a (Register b) = narrow_mono ks gs lower a _ _ (at_width ks gs lower b)
    target_mono test.Less a (Constant k) = narrow_mono ks gs lower a _ _ (omega arith)
    target_mono test.Equal a (Register b) =
        narrow_mono _ _ (narrow_mono ks gs lower a _ _ (at_width ks gs lower b)) b _ _ (at_width ks gs lower a)
    target_mono test.Equal a (Constant k) = narrow_mono ks gs lower a _ _ (omega arith)

    next_mono : (t : Test) (a : ℕ) (right : Operand) → below_all K (at_next K t a right ks) (at_next K t a right gs) ≡ true
    next_mono test.Less a (Register b) = narrow_mono ks gs lower b _ _ (at_width ks gs lower a)
    next_mono test.Less a (Constant k) = lower
    next_mono test.Equal a right = lower

    -- a table that admits all that is handed on from the higher facts admits what is handed on from the lower
    module _ (table : List (Fact L)) where
      more : (r : ℕ) (m : Mode) (xs ys : List (Known L)) (low high : List (Handed L)) → below_all K xs ys ≡ true
          → (admits K table high ≡ true → admits K table low ≡ true)
          → admits K table (hand r m ys ∷ high) ≡ true → admits K table (hand r m xs ∷ low) ≡ true
      more r m xs ys low high lower rest h =
          let (here, later) = and_parts _ _ h in
          and_from _ _ (fact_trans K laws (Some xs) (Some ys) (fact_at table r m) lower here) (rest later)

      one : (r : ℕ) (m : Mode) (xs ys : List (Known L)) → below_all K xs ys ≡ true
          → admits K table (hand r m ys ∷ []) ≡ true → admits K table (hand r m xs ∷ []) ≡ true
      one r m xs ys lower h = more r m xs ys [] [] lower (λ e. e) h

      plain : (labels : List L) (x : Row) (i : ℕ) (m : Mode) → admits K table (onward K labels x i m gs) ≡ true → admits K table (onward K labels x i m ks) ≡ true
      plain labels x i m h = one (i + 1) m (after K labels x ks) (after K labels x gs) (after_mono ks gs lower labels x) h

      guessed : (target i : ℕ) (low high : List (Handed L)) → (admits K table high ≡ true → admits K table low ≡ true)
          → admits K table (hand target Guessed gs ∷ hand (i + 1) Guessed gs ∷ high) ≡ true
          → admits K table (hand target Guessed ks ∷ hand (i + 1) Guessed ks ∷ low) ≡ true
      guessed target i low high rest h =
          more target Guessed ks gs (hand (i + 1) Guessed ks ∷ low) (hand (i + 1) Guessed gs ∷ high) lower (more (i + 1) Guessed ks gs low high lower rest) h

      pub hands_admitted : (labels : List L) (x : Row) (i : ℕ) (m : Mode)
          → admits K table (hands K labels x i m gs) ≡ true → admits K table (hands K labels x i m ks) ≡ true
      hands_admitted labels (row.Set to value) i m h = plain labels (row.Set to value) i m h
      hands_admitted labels (row.Copy to from) i m h = plain labels (row.Copy to from) i m h
      hands_admitted labels (row.Compute o to a b) i m h = plain labels (row.Compute o to a b) i m h
      hands_admitted labels (row.Load to k a) i m h = plain labels (row.Load to k a) i m h
      hands_admitted labels (row.Store v k a) i m h = plain labels (row.Store v k a) i m h
      hands_admitted labels (row.Branch t a b target) i Settled h =
          guessed target i (hand target Settled (at_target K t a b ks) ∷ hand (i + 1) Settled (at_next K t a b ks) ∷ [])
          (hand target Settled (at_target K t a b gs) ∷ hand (i + 1) Settled (at_next K t a b gs) ∷ [])
          (more target Settled (at_target K t a b ks) (at_target K t a b gs) (hand (i + 1) Settled (at_next K t a b ks) ∷ []) (hand (i + 1) Settled (at_next K t a b gs) ∷ [])
          (target_mono t a b) (one (i + 1) Settled (at_next K t a b ks) (at_next K t a b gs) (next_mono t a b))) h
      hands_admitted labels (row.Branch t a b target) i Guessed h = guessed target i [] [] (λ e. e) h
      hands_admitted labels (row.Jump target) i m h = one target m ks gs lower h
      hands_admitted labels row.Fence i Settled h = one (i + 1) Settled ks gs lower h
      hands_admitted labels row.Fence i Guessed h = refl
      hands_admitted labels row.Halt i m h = refl

  -- what a fact leaks, every higher one leaks
  hidden_mono : (reader l m : L) → K.below l m ≡ true → not (K.below l reader) ≡ true → not (K.below m reader) ≡ true
  hidden_mono reader l m low h =
      ⊎_elim (λ yes'. absurd (both_ways (K.below l reader) (not-true _ h) (laws.transitive l m reader low yes'))) (λ no'. not_from_false _ no') (cases_Bool (K.below m reader))

  spill_mono : (n base v w i : ℕ) (l m : L) (labels : List L) → v ≤ w → K.below l m ≡ true
      → spills_from K n base v i l labels ≡ true → spills_from K n base w i m labels ≡ true
  spill_mono n base v w i l m [] h low s = s
  spill_mono n base v w i l m (x ∷ labels) h low s =
      ⊎_elim
      (λ here. let (reached, above) = and_parts _ _ here in or_left _ _ (and_from _ _ (window_wider n base v w i h reached) (hidden_mono x l m low above)))
      (λ later. or_right _ _ (spill_mono n base v w (i + 1) l m labels h low later))
      (or_cases (in_window n base v i && not (K.below l x)) (spills_from K n base v (i + 1) l labels) s)

  module _ (ks gs : List (Known L)) (lower : below_all K ks gs ≡ true) (reader : L) where
    register_mono : (r : ℕ) → hidden K reader ks r ≡ true → hidden K reader gs r ≡ true
    register_mono r = hidden_mono reader _ _ (label_mono ks gs lower r)

    shown_mono : (o : Operand) → hidden_operand K reader ks o ≡ true → hidden_operand K reader gs o ≡ true
    shown_mono (Register r) h = register_mono r h
    shown_mono (Constant k) h = h

    pub leaks_mono : (labels : List L) (x : Row) (why : Reason) → leaks K labels reader x ks why ≡ true → leaks K labels reader x gs why ≡ true
    leaks_mono labels (row.Set to value) why h = h
    leaks_mono labels (row.Copy to from) why h = h
    leaks_mono labels (row.Compute o to a b) why h = h
    leaks_mono labels (row.Load to k a) reason.Address h = register_mono a h
    leaks_mono labels (row.Load to k a) reason.Branch h = h
    leaks_mono labels (row.Load to k a) reason.Spill h = h
    leaks_mono labels (row.Store v k a) reason.Address h = register_mono a h
    leaks_mono labels (row.Store v k a) reason.Branch h = h
    leaks_mono labels (row.Store v k a) reason.Spill h =
        spill_mono (length labels) k _ _ 0 _ _ labels (at_width ks gs lower a) (label_mono ks gs lower v) h
    leaks_mono labels (row.Branch t a b target) reason.Address h = h
    leaks_mono labels (row.Branch t a b target) reason.Branch h =
        ⊎_elim (λ left. or_left _ _ (register_mono a left)) (λ right. or_right _ _ (shown_mono b right)) (or_cases (hidden K reader ks a) (hidden_operand K reader ks b) h)
    leaks_mono labels (row.Branch t a b target) reason.Spill h = h
    leaks_mono labels (row.Jump target) why h = h
    leaks_mono labels row.Fence why h = h
    leaks_mono labels row.Halt why h = h

  -- the same of facts, reached or not
  pub facts_admitted : (f g : Fact L) → below_fact K f g ≡ true → (table : List (Fact L)) (labels : List L) (x : Row) (i : ℕ) (m : Mode)
      → admits K table (hands_fact K labels x i m g) ≡ true → admits K table (hands_fact K labels x i m f) ≡ true
  facts_admitted None g low table labels x i m h = refl
  facts_admitted (Some ks) None low table labels x i m h = absurd (false≢true low)
  facts_admitted (Some ks) (Some gs) low table labels x i m h = hands_admitted ks gs low table labels x i m h

  pub facts_leak : (f g : Fact L) → below_fact K f g ≡ true → (labels : List L) (reader : L) (x : Row) (why : Reason)
      → leaks_fact K labels reader x why f ≡ true → leaks_fact K labels reader x why g ≡ true
  facts_leak None g low labels reader x why h = absurd (false≢true h)
  facts_leak (Some ks) None low labels reader x why h = absurd (false≢true low)
  facts_leak (Some ks) (Some gs) low labels reader x why h = leaks_mono ks gs low reader labels x why h
