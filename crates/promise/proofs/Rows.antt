-- What each row does to two machines' registers, under what is known before and after it.
use Rattle.std.proofs.Common.{◌≡◌, ℕ, zero, suc, ◌+◌, ◌-◌, ◌%◌, ◌^◌, ◌<◌, ◌≤◌, Bool, true, false, cond, List, [], ◌∷◌, length, get_or, sym, refl, ap, ◌∙◌, subst, ap₂, ⊎_elim, arith}
use Rattle.std.proofs.lemmas.List.{get_or_past}
use Rattle.std.proofs.lemmas.Bool.{cases_lt, and_parts, leb-true, ltb-true, ltb-false, eqb-true}
use Rattle.labels.specs.Kind.{Kind, Lawful}
use Rattle.routine.specs.Address.{address, in_window}
use Rattle.routine.proofs.Address.{window_reached}
use Rattle.routine.specs.Effects.{operand, computed, outcome}
use Rattle.routine.specs.Limits.{is_register, operand_fits, right_fits, fields_fit}
use Rattle.routine.specs.declared.rows.Operand.{Operand}
use Rattle.routine.specs.declared.rows.Operand.TheVariants.{Register, Constant}
use Rattle.routine.specs.declared.rows.Operation.{Operation}
use Rattle.routine.specs.declared.rows.Test.{Test}
use Rattle.routine.specs.declared.rows.Test.TheVariants as test
use Rattle.routine.specs.declared.rows.Row.{Row}
use Rattle.routine.specs.declared.rows.Row.TheVariants as row
use Rattle.facts.specs.declared.types.Known.{Known}
use Rattle.facts.specs.Order.{known_at}
use Rattle.facts.specs.Rules.{bits_of, of_operand, join_from, join_window, result_of, after, at_target, at_next}
use Rattle.promise.specs.Moves.{move}
use Rattle.promise.specs.Promise.{Agree}
use Rattle.promise.specs.Relation.{Pairs}
use Rattle.promise.proofs.Pairs.{mod_le, pairs_take, pairs_narrow}
use Rattle.promise.proofs.Widths.{bits_hold, bits_below, computed_register, computed_constant}

-- a number that names a register is below sixteen
register : (r : ℕ) → is_register r ≡ true → r < 16
register r h = omega (arith, leb-true r 15 h)

module _ {L : Type 0} (K : Kind L) (laws : Lawful K) (reader : L) where
  -- a join that the reader may read is of labels that it may read
  join_left_read : (a b : L) → K.below (K.join a b) reader ≡ true → K.below a reader ≡ true
  join_left_read a b h = laws.transitive a (K.join a b) reader (laws.join_left a b) h

  join_right_read : (a b : L) → K.below (K.join a b) reader ≡ true → K.below b reader ≡ true
  join_right_read a b h = laws.transitive b (K.join a b) reader (laws.join_right a b) h

  word_base_read : (b : Bool) (l x : L) → K.below (cond b (K.join l x) l) reader ≡ true → K.below l reader ≡ true
  word_base_read true l x h = join_left_read l x h
  word_base_read false l x h = h

  window_base_read : (n base width i : ℕ) (labels : List L) (l : L) → K.below (join_from K n base width i labels l) reader ≡ true → K.below l reader ≡ true
  window_base_read n base width i [] l h = h
  window_base_read n base width i (x ∷ labels) l h =
      word_base_read (in_window n base width i) l x (window_base_read n base width (i + 1) labels (cond (in_window n base width i) (K.join l x) l) h)

  -- where the reader may read the join over a window, it may read every word of the window
  window_read : (n base width i : ℕ) (labels : List L) (l : L) (j : ℕ) → K.below (join_from K n base width i labels l) reader ≡ true
      → j < length labels → in_window n base width (i + j) ≡ true → K.below (get_or labels j K.lowest) reader ≡ true
  window_read n base width i [] l j h inside w = absurd (omega arith)
  window_read n base width i (x ∷ labels) l zero h inside w =
      let here : in_window n base width i ≡ true = subst (λ k. in_window n base width k ≡ true) (omega arith) w in
      join_right_read l x (subst (λ b. K.below (cond b (K.join l x) l) reader ≡ true) here (window_base_read n base width (i + 1) labels (cond (in_window n base width i) (K.join l x) l) h))
  window_read n base width i (x ∷ labels) l (suc j) h inside w =
      let next : i + suc j ≡ (i + 1) + j = omega arith in
      window_read n base width (i + 1) labels (cond (in_window n base width i) (K.join l x) l) j h (omega arith) (subst (λ k. in_window n base width k ≡ true) next w)

module _ {L : Type 0} (K : Kind L) (laws : Lawful K) (labels : List L) (reader : L) (few : length labels ≤ 4096)
    (ks : List (Known L)) (rs qs : List ℕ) (p : Pairs K labels reader ks rs qs) where
  -- the operand of a computing word or a branch
  operand_equal : (o : Operand) → K.below (of_operand K ks o).label reader ≡ true → operand rs o ≡ operand qs o
  operand_equal (Register r) h = p.equal r h
  operand_equal (Constant k) h = refl

  result_holds : (o : Operation) (a : ℕ) (right : Operand) (xs : List ℕ) → ((r : ℕ) → get_or xs r 0 < 2 ^ (known_at K ks r).width) → right_fits o right ≡ true
      → computed o (get_or xs a 0) (operand xs right) % 2 ^ 32 < 2 ^ (result_of K o (known_at K ks a) right (of_operand K ks right)).width
  result_holds o a (Register r) xs holds fits = computed_register o r (get_or xs a 0) (get_or xs r 0) _ _ (holds a) (holds r)
  result_holds o a (Constant k) xs holds fits = computed_constant o k (get_or xs a 0) _ (holds a) fits

  -- a word that is read, where the reader may read the join of the window
  word_equal : (ws vs : List ℕ) → length ws ≡ length labels → Agree K labels reader ws vs → (base index : ℕ) → base < length labels
      → K.below (join_window K labels base (known_at K ks index).width (known_at K ks index).label) reader ≡ true
      → address (length ws) base (get_or rs index 0) ≡ address (length vs) base (get_or qs index 0)
      → get_or ws (address (length ws) base (get_or rs index 0)) 0 ≡ get_or vs (address (length vs) base (get_or qs index 0)) 0
  word_equal ws vs size agree base index inside h same =
      let a = address (length ws) base (get_or rs index 0) in
      let read : get_or ws a 0 ≡ get_or vs a 0 =
      ⊎_elim
      (λ word. agree.readable a word
      (window_read K laws reader (length labels) base (known_at K ks index).width 0 labels (known_at K ks index).label a h word
      (subst (λ n. in_window (length labels) base (known_at K ks index).width n ≡ true) (omega arith)
      (subst (λ n. in_window n base (known_at K ks index).width a ≡ true) size
      (window_reached (length ws) base (known_at K ks index).width (get_or rs index 0) (omega (arith, inside, size)) (omega (arith, few, size)) (p.left_holds index) (p.left_cut index)
      (omega (arith, word, size)))))))
      (λ past. get_or_past ws a 0 (omega (arith, past, size)) ∙ sym (get_or_past vs a 0 (omega (arith, past, size, agree.same_size))))
      (cases_lt a (length labels)) in
      read ∙ ap (λ n. get_or vs n 0) same

  -- the registers after a row that writes one, or none
  pub after_pairs : (x : Row) (here : ℕ) (ws vs : List ℕ) → fields_fit (length labels) x ≡ true → length ws ≡ length labels → Agree K labels reader ws vs
      → (move x here rs ws).number ≡ (move x here qs vs).number
      → Pairs K labels reader (after K labels x ks) (move x here rs ws).registers (move x here qs vs).registers
  after_pairs (row.Set to value) here ws vs fits size agree shown =
      pairs_take K laws labels reader ks rs qs p to (register to fits) K.lowest (bits_of value) value value (bits_hold value) (bits_hold value) (λ h. refl)
  after_pairs (row.Copy to from) here ws vs fits size agree shown =
      pairs_take K laws labels reader ks rs qs p to (register to (and_parts _ _ fits).0) (known_at K ks from).label (known_at K ks from).width (get_or rs from 0) (get_or qs from 0)
      (mod_le _ _ (p.left_holds from)) (mod_le _ _ (p.right_holds from)) (p.equal from)
  after_pairs (row.Compute o to a b) here ws vs fits size agree shown =
      let (registers, right) = and_parts _ _ fits in
      pairs_take K laws labels reader ks rs qs p to (register to (and_parts _ _ registers).0) (K.join (known_at K ks a).label (of_operand K ks b).label) _ _ _
      (result_holds o a b rs p.left_holds right) (result_holds o a b qs p.right_holds right)
      (λ h. ap₂ (computed o) (p.equal a (join_left_read K laws reader _ _ h)) (operand_equal b (join_right_read K laws reader _ _ h)))
  after_pairs (row.Load to base index) here ws vs fits size agree shown =
      let (front, last) = and_parts _ _ fits in
      let (first, inside) = and_parts _ _ front in
      pairs_take K laws labels reader ks rs qs p to (register to first) (join_window K labels base (known_at K ks index).width (known_at K ks index).label) 32 _ _
      (omega arith) (omega arith) (λ h. word_equal ws vs size agree base index (ltb-true base (length labels) inside) h shown)
  after_pairs (row.Store from base index) here ws vs fits size agree shown = p
  after_pairs (row.Branch t a b target) here ws vs fits size agree shown = p
  after_pairs (row.Jump target) here ws vs fits size agree shown = p
  after_pairs row.Fence here ws vs fits size agree shown = p
  after_pairs row.Halt here ws vs fits size agree shown = p

  -- what the outcome of a branch tells
  pub target_pairs : (t : Test) (a : ℕ) (b : Operand) → is_register a ≡ true → operand_fits b ≡ true
      → outcome t (get_or rs a 0) (operand rs b) ≡ true → outcome t (get_or qs a 0) (operand qs b) ≡ true
      → Pairs K labels reader (at_target K t a b ks) rs qs
  target_pairs test.Less a (Register b) ra rb left right =
      pairs_narrow K laws labels reader ks rs qs p a (register a ra) _ (omega (arith, ltb-true _ _ left, p.left_holds b)) (omega (arith, ltb-true _ _ right, p.right_holds b))
  target_pairs test.Less a (Constant k) ra rb left right =
      pairs_narrow K laws labels reader ks rs qs p a (register a ra) _
      (bits_below (k - 1) (get_or rs a 0) (omega (arith, ltb-true _ _ left)) (p.left_cut a)) (bits_below (k - 1) (get_or qs a 0) (omega (arith, ltb-true _ _ right)) (p.right_cut a))
  target_pairs test.Equal a (Register b) ra rb left right =
      let one = pairs_narrow K laws labels reader ks rs qs p a (register a ra) (known_at K ks b).width
      (omega (arith, eqb-true _ _ left, p.left_holds b)) (omega (arith, eqb-true _ _ right, p.right_holds b)) in
      pairs_narrow K laws labels reader _ rs qs one b (register b rb) (known_at K ks a).width
      (omega (arith, eqb-true _ _ left, p.left_holds a)) (omega (arith, eqb-true _ _ right, p.right_holds a))
  target_pairs test.Equal a (Constant k) ra rb left right =
      pairs_narrow K laws labels reader ks rs qs p a (register a ra) _
      (bits_below k (get_or rs a 0) (omega (arith, eqb-true _ _ left)) (p.left_cut a)) (bits_below k (get_or qs a 0) (omega (arith, eqb-true _ _ right)) (p.right_cut a))

  pub next_pairs : (t : Test) (a : ℕ) (b : Operand) → is_register a ≡ true → operand_fits b ≡ true
      → outcome t (get_or rs a 0) (operand rs b) ≡ false → outcome t (get_or qs a 0) (operand qs b) ≡ false
      → Pairs K labels reader (at_next K t a b ks) rs qs
  next_pairs test.Less a (Register b) ra rb left right =
      pairs_narrow K laws labels reader ks rs qs p b (register b rb) _ (omega (arith, ltb-false _ _ left, p.left_holds a)) (omega (arith, ltb-false _ _ right, p.right_holds a))
  next_pairs test.Less a (Constant k) ra rb left right = p
  next_pairs test.Equal a b ra rb left right = p
