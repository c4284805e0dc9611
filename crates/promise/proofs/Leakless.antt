-- Where nothing leaks, a row shows and stores alike.
use Rattle.std.proofs.Common.{◌≡◌, ℕ, zero, suc, ◌+◌, ◌<◌, ◌≤◌, true, false, not, List, [], ◌∷◌, length, get_or, refl, ap, subst, ap₂, ⊎_elim, arith}
use Rattle.std.proofs.lemmas.Bool.{and_parts, or_parts, both_ways, not-false, ltb-true, and_from, cases_Bool}
use Rattle.labels.specs.Kind.{Kind, Lawful}
use Rattle.routine.specs.Address.{address, in_window}
use Rattle.routine.proofs.Address.{window_reached}
use Rattle.routine.specs.Effects.{operand, outcome}
use Rattle.routine.specs.Limits.{fields_fit}
use Rattle.routine.specs.declared.rows.Operand.{Operand}
use Rattle.routine.specs.declared.rows.Operand.TheVariants.{Register, Constant}
use Rattle.routine.specs.declared.rows.Row.{Row}
use Rattle.routine.specs.declared.rows.Row.TheVariants as row
use Rattle.facts.specs.declared.types.Reason.TheVariants as reason
use Rattle.facts.specs.declared.types.Known.{Known}
use Rattle.facts.specs.Order.{known_at}
use Rattle.facts.specs.Leaks.{hidden, hidden_operand, spills_from, leaks}
use Rattle.promise.specs.Moves.{move, side}
use Rattle.promise.specs.Relation.{Pairs, Stores}

module _ {L : Type 0} (K : Kind L) (laws : Lawful K) where
  -- where nothing spills, the value may come to every word of the window
  no_spill : (n base width i : ℕ) (l : L) (labels : List L) (j : ℕ) → spills_from K n base width i l labels ≡ false → j < length labels
      → in_window n base width (i + j) ≡ true → K.below l (get_or labels j K.lowest) ≡ true
  no_spill n base width i l [] j h inside w = absurd (omega arith)
  no_spill n base width i l (x ∷ labels) zero h inside w =
      let here : in_window n base width i ≡ true = subst (λ k. in_window n base width k ≡ true) (omega arith) w in
      ⊎_elim (λ yes'. yes') (λ no'. absurd (both_ways _ (or_parts _ _ h).0 (and_from _ _ here (ap not no')))) (cases_Bool (K.below l x))
  no_spill n base width i l (x ∷ labels) (suc j) h inside w =
      let next : i + suc j ≡ (i + 1) + j = omega arith in
      no_spill n base width (i + 1) l labels j (or_parts _ _ h).1 (omega arith) (subst (λ k. in_window n base width k ≡ true) next w)

module _ {L : Type 0} (K : Kind L) (laws : Lawful K) (labels : List L) (reader : L) (few : length labels ≤ 4096)
    (ks : List (Known L)) (rs qs : List ℕ) (p : Pairs K labels reader ks rs qs) where
  register_shown : (r : ℕ) → hidden K reader ks r ≡ false → get_or rs r 0 ≡ get_or qs r 0
  register_shown r h = p.equal r (not-false _ h)

  operand_shown : (o : Operand) → hidden_operand K reader ks o ≡ false → operand rs o ≡ operand qs o
  operand_shown (Register r) h = register_shown r h
  operand_shown (Constant k) h = refl

  -- no address and no branch leak: what is shown is one
  pub shown_alike : (x : Row) (here : ℕ) (ws vs : List ℕ) → length ws ≡ length vs → leaks K labels reader x ks reason.Address ≡ false
      → leaks K labels reader x ks reason.Branch ≡ false → (move x here rs ws).number ≡ (move x here qs vs).number
  shown_alike (row.Set to value) here ws vs size a b = refl
  shown_alike (row.Copy to from) here ws vs size a b = refl
  shown_alike (row.Compute o to x y) here ws vs size a b = refl
  shown_alike (row.Load to base index) here ws vs size a b = ap₂ (λ n i. address n base i) size (register_shown index a)
  shown_alike (row.Store from base index) here ws vs size a b = ap₂ (λ n i. address n base i) size (register_shown index a)
  shown_alike (row.Branch t x y target) here ws vs size a b =
      let (left, right) = or_parts _ _ b in
      ap₂ (λ u v. side (outcome t u v) target here) (register_shown x left) (operand_shown y right)
  shown_alike (row.Jump target) here ws vs size a b = refl
  shown_alike row.Fence here ws vs size a b = refl
  shown_alike row.Halt here ws vs size a b = refl

  -- no spill: what is stored at a word that the reader may read is one
  pub stored_alike : (x : Row) (here : ℕ) (ws vs : List ℕ) → fields_fit (length labels) x ≡ true → length ws ≡ length labels
      → leaks K labels reader x ks reason.Spill ≡ false → (move x here rs ws).number ≡ (move x here qs vs).number
      → Stores K labels reader (move x here rs ws).writes (move x here qs vs).writes
  stored_alike (row.Set to value) here ws vs fits size s shown = tt
  stored_alike (row.Copy to from) here ws vs fits size s shown = tt
  stored_alike (row.Compute o to x y) here ws vs fits size s shown = tt
  stored_alike (row.Load to base index) here ws vs fits size s shown = tt
  stored_alike (row.Store from base index) here ws vs fits size s shown =
      let a = address (length ws) base (get_or rs index 0) in
      let (front, last) = and_parts _ _ fits in
      let inside = ltb-true base (length labels) (and_parts _ _ front).1 in (
        record {
          same_address = shown;
          equal = λ word read.
              p.equal from (laws.transitive (known_at K ks from).label (get_or labels a K.lowest) reader
              (no_spill K laws (length labels) base (known_at K ks index).width 0 (known_at K ks from).label labels a s word
              (subst (λ n. in_window (length labels) base (known_at K ks index).width n ≡ true) (omega arith)
              (subst (λ n. in_window n base (known_at K ks index).width a ≡ true) size
              (window_reached (length ws) base (known_at K ks index).width (get_or rs index 0) (omega (arith, inside, size)) (omega (arith, few, size))
              (p.left_holds index) (p.left_cut index) (omega (arith, word, size)))))) read);
        },
        tt,
      )
  stored_alike (row.Branch t x y target) here ws vs fits size s shown = tt
  stored_alike (row.Jump target) here ws vs fits size s shown = tt
  stored_alike row.Fence here ws vs fits size s shown = tt
  stored_alike row.Halt here ws vs fits size s shown = tt
