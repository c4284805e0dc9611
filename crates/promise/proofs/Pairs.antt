-- What a row does to two machines' registers, under what is known of them.
use Rattle.std.proofs.Common.{◌≡◌, ℕ, ◌%◌, ◌^◌, ◌<◌, ◌≤◌, min, true, List, [], ◌∷◌, length, get_or, set, sym, ap, ◌∙◌, subst, ⊎_elim, arith, length-set, pow_mono}
use Rattle.std.proofs.lemmas.List.{get_or-set_same, get_or-set_other}
use Rattle.std.proofs.lemmas.Bool.{cases_eq, cases_lt, and_parts, false≢true}
use Rattle.labels.specs.Kind.{Kind, Lawful}
use Rattle.routine.specs.Effects.{takes}
use Rattle.facts.specs.declared.types.Known.{Known}
use Rattle.facts.specs.Order.{knows, known_at, below_all}
use Rattle.facts.specs.Rules.{narrowed}
use Rattle.facts.proofs.Orders.{parts, at_mono}
use Rattle.promise.specs.Relation.{Pairs}

pub pow_min : (x a b : ℕ) → x < 2 ^ a → x < 2 ^ b → x < 2 ^ min a b
pow_min x a b p q =
    ⊎_elim (λ h. let e : min a b ≡ a = omega arith in subst (λ n. x < 2 ^ n) (sym e) p) (λ h. let e : min a b ≡ b = omega arith in subst (λ n. x < 2 ^ n) (sym e) q) (cases_lt a b)

below_wider : (x a b : ℕ) → x < 2 ^ a → a ≤ b → x < 2 ^ b
below_wider x a b p h = omega (arith, p, pow_mono {j = b} h)

pub mod_le : (x n : ℕ) → x < n → x % 2 ^ 32 < n
mod_le x n h = omega (arith, h)

cut : (x : ℕ) → x % 2 ^ 32 < 2 ^ 32
cut x = omega arith

module _ {L : Type 0} (K : Kind L) (laws : Lawful K) (labels : List L) (reader : L) where
  below_length : (xs ys : List (Known L)) → below_all K xs ys ≡ true → length xs ≤ length ys
  below_length [] ys h = omega arith
  below_length (x ∷ xs) [] h = absurd (false≢true h)
  below_length (x ∷ xs) (y ∷ ys) h = omega (arith, below_length xs ys (and_parts _ _ h).1)

  -- what holds under lower facts holds under higher ones
  pub pairs_higher : (ks gs : List (Known L)) (rs qs : List ℕ) → below_all K ks gs ≡ true → Pairs K labels reader ks rs qs → Pairs K labels reader gs rs qs
  pairs_higher ks gs rs qs low p = record {
    long = omega (arith, below_length ks gs low, p.long);
    left_long = p.left_long;
    right_long = p.right_long;
    left_cut = p.left_cut;
    right_cut = p.right_cut;
    left_holds = λ r. below_wider _ _ (known_at K gs r).width (p.left_holds r) (parts K _ _ (at_mono K laws ks gs r low)).1;
    right_holds = λ r. below_wider _ _ (known_at K gs r).width (p.right_holds r) (parts K _ _ (at_mono K laws ks gs r low)).1;
    equal = λ r h. p.equal r (laws.transitive _ _ _ (parts K _ _ (at_mono K laws ks gs r low)).0 h);
  }

  -- a register takes a value in both
  module _ (ks : List (Known L)) (rs qs : List ℕ) (p : Pairs K labels reader ks rs qs) (to : ℕ) (inside : to < 16) where
    -- what holds of the register written and of each other one holds of every register
    each : (P : Known L → ℕ → ℕ → Type 0) (k : Known L) (v u : ℕ) → P k v u → ((r : ℕ) → P (known_at K ks r) (get_or rs r 0) (get_or qs r 0))
        → (r : ℕ) → P (known_at K (set ks to k) r) (get_or (set rs to v) r 0) (get_or (set qs to u) r 0)
    each P k v u here others r =
        ⊎_elim
        (λ same. subst (λ n. P (known_at K (set ks to k) n) (get_or (set rs to v) n 0) (get_or (set qs to u) n 0)) (sym same)
        (subst (λ x. P x (get_or (set rs to v) to 0) (get_or (set qs to u) to 0)) (sym (get_or-set_same ks to k (knows K.lowest 0) (omega (arith, inside, p.long))))
        (subst (λ x. P k x (get_or (set qs to u) to 0)) (sym (get_or-set_same rs to v 0 (omega (arith, inside, p.left_long))))
        (subst (λ x. P k v x) (sym (get_or-set_same qs to u 0 (omega (arith, inside, p.right_long)))) here))))
        (λ apart.
        subst (λ x. P x (get_or (set rs to v) r 0) (get_or (set qs to u) r 0)) (sym (get_or-set_other ks to r k (knows K.lowest 0) apart))
        (subst (λ x. P (known_at K ks r) x (get_or (set qs to u) r 0)) (sym (get_or-set_other rs to r v 0 apart))
        (subst (λ x. P (known_at K ks r) (get_or rs r 0) x) (sym (get_or-set_other qs to r u 0 apart)) (others r))))
        (cases_eq r to)

    pub pairs_take : (l : L) (w v u : ℕ) → v % 2 ^ 32 < 2 ^ w → u % 2 ^ 32 < 2 ^ w → (K.below l reader ≡ true → v ≡ u)
        → Pairs K labels reader (set ks to (knows l w)) (takes rs to v) (takes qs to u)
    pairs_take l w v u left right same = record {
      long = omega (arith, length-set ks to (knows l w), p.long);
      left_long = length-set rs to _ ∙ p.left_long;
      right_long = length-set qs to _ ∙ p.right_long;
      left_cut = each (λ k x y. x < 2 ^ 32) (knows l w) (v % 2 ^ 32) (u % 2 ^ 32) (cut v) p.left_cut;
      right_cut = each (λ k x y. y < 2 ^ 32) (knows l w) (v % 2 ^ 32) (u % 2 ^ 32) (cut u) p.right_cut;
      left_holds = each (λ k x y. x < 2 ^ k.width) (knows l w) (v % 2 ^ 32) (u % 2 ^ 32) left p.left_holds;
      right_holds = each (λ k x y. y < 2 ^ k.width) (knows l w) (v % 2 ^ 32) (u % 2 ^ 32) right p.right_holds;
      equal = each (λ k x y. K.below k.label reader ≡ true → x ≡ y) (knows l w) (v % 2 ^ 32) (u % 2 ^ 32) (λ h. ap (λ n. n % 2 ^ 32) (same h)) p.equal;
    }

    -- a register's width is replaced by the smaller of two that both hold
    pub pairs_narrow : (w : ℕ) → get_or rs to 0 < 2 ^ w → get_or qs to 0 < 2 ^ w → Pairs K labels reader (narrowed K ks to w) rs qs
    pairs_narrow w left right = record {
      long = omega (arith, length-set ks to (knows (known_at K ks to).label (min (known_at K ks to).width w)), p.long);
      left_long = p.left_long;
      right_long = p.right_long;
      left_cut = p.left_cut;
      right_cut = p.right_cut;
      left_holds = λ r. kept (λ k x y. x < 2 ^ k.width) (pow_min _ _ _ (p.left_holds to) left) p.left_holds r;
      right_holds = λ r. kept (λ k x y. y < 2 ^ k.width) (pow_min _ _ _ (p.right_holds to) right) p.right_holds r;
      equal = λ r. kept (λ k x y. K.below k.label reader ≡ true → x ≡ y) (p.equal to) p.equal r;
    }
      where
        kept : (P : Known L → ℕ → ℕ → Type 0) → P (knows (known_at K ks to).label (min (known_at K ks to).width w)) (get_or rs to 0) (get_or qs to 0)
            → ((r : ℕ) → P (known_at K ks r) (get_or rs r 0) (get_or qs r 0)) → (r : ℕ) → P (known_at K (narrowed K ks to w) r) (get_or rs r 0) (get_or qs r 0)
        kept P here others r =
            ⊎_elim
            (λ same. subst (λ n. P (known_at K (narrowed K ks to w) n) (get_or rs n 0) (get_or qs n 0)) (sym same)
            (subst (λ x. P x (get_or rs to 0) (get_or qs to 0)) (sym (get_or-set_same ks to _ (knows K.lowest 0) (omega (arith, inside, p.long)))) here))
            (λ apart. subst (λ x. P x (get_or rs r 0) (get_or qs r 0)) (sym (get_or-set_other ks to r _ (knows K.lowest 0) apart)) (others r))
            (cases_eq r to)
