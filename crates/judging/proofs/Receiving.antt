-- What receiving facts does to a table, one fact after another.
use Rattle.std.proofs.Common.{◌≡◌, ℕ, ◌<◌, ◌≤◌, Bool, true, false, List, [], ◌∷◌, ◌++◌, length, get_or, set, sym, refl, ap, ◌∙◌, subst, ⊎_elim, arith, length-set, Some, None}
use Rattle.std.proofs.lemmas.List.{get_or-set_same, get_or-set_other}
use Rattle.std.proofs.lemmas.Bool.{cases_eq, and_parts, and_from, false≢true}
use Rattle.labels.specs.Kind.{Kind, Lawful}
use Rattle.facts.specs.declared.types.Known.{Known}
use Rattle.facts.specs.Rules.{Handed}
use Rattle.facts.specs.Order.{Fact, below_fact}
use Rattle.facts.specs.Raising.{RisenTo}
use Rattle.facts.specs.Tables.{slot, fact_at, admits}
use Rattle.facts.proofs.Orders.{fact_refl, fact_trans}
use Rattle.judging.specs.Steps.{Under, Received}
use Rattle.judging.proofs.Weights.{mark_stale, rooms_fall}

module _ {L : Type 0} (K : Kind L) (laws : Lawful K) where
  -- what a table admits, a higher table admits
  pub admits_higher : (table other : List (Fact L)) (hs : List (Handed L)) → Under K table other → admits K table hs ≡ true → admits K other hs ≡ true
  admits_higher table other [] up h = refl
  admits_higher table other (x ∷ hs) up h =
      let (here, later) = and_parts _ _ h in
      and_from _ _ (fact_trans K laws (Some x.known) (fact_at table x.row x.mode) (fact_at other x.row x.mode) here (up (slot x.row x.mode)))
      (admits_higher table other hs up later)

  admits_both : (table : List (Fact L)) (hs gs : List (Handed L)) → admits K table hs ≡ true → admits K table gs ≡ true → admits K table (hs ++ gs) ≡ true
  admits_both table [] gs p q = q
  admits_both table (h ∷ hs) gs p q = let (here, later) = and_parts _ _ p in and_from _ _ here (admits_both table hs gs later q)

  admits_parts : (table : List (Fact L)) (hs gs : List (Handed L)) → admits K table (hs ++ gs) ≡ true → (admits K table hs ≡ true) × (admits K table gs ≡ true)
  admits_parts table [] gs p = (refl, p)
  admits_parts table (h ∷ hs) gs p =
      let (here, later) = and_parts _ _ p in
      let (first, second) = admits_parts table hs gs later in
      (and_from _ _ here first, second)

  -- nothing received
  pub received_none : (table : List (Fact L)) (stale : List Bool) → Received K [] table table stale stale
  received_none table stale = record {
    table_long = refl;
    grown = λ s. fact_refl K laws (get_or table s None);
    calm = λ s h. (h, refl);
    admitted = refl;
    least = λ other up h. up;
    lighter = omega arith;
  }

  pub received_nothing : (hs : List (Handed L)) (table : List (Fact L)) (stale : List Bool) → hs ≡ [] → Received K hs table table stale stale
  received_nothing hs table stale none = subst (λ hs. Received K hs table table stale stale) (sym none) (received_none table stale)

  -- a fact that is admitted changes nothing
  pub received_kept : (h : Handed L) (table : List (Fact L)) (stale : List Bool) → below_fact K (Some h.known) (fact_at table h.row h.mode) ≡ true
      → Received K (h ∷ []) table table stale stale
  received_kept h table stale below = record {
    table_long = refl;
    grown = λ s. fact_refl K laws (get_or table s None);
    calm = λ s e. (e, refl);
    admitted = and_from _ _ below refl;
    least = λ other up e. up;
    lighter = omega arith;
  }

  -- a fact that is raised
  module _ (h : Handed L) (table : List (Fact L)) (stale : List Bool) (new : List (Known L))
      (inside : slot h.row h.mode < length table) (long : length table ≤ length stale)
      (risen : RisenTo K (fact_at table h.row h.mode) h.known new) where
    here : get_or (set table (slot h.row h.mode) (Some new)) (slot h.row h.mode) None ≡ Some new
    here = get_or-set_same table (slot h.row h.mode) (Some new) None inside

    raised_grown : Under K table (set table (slot h.row h.mode) (Some new))
    raised_grown s =
        ⊎_elim
        (λ same. subst (λ x. below_fact K (get_or table x None) (get_or (set table (slot h.row h.mode) (Some new)) x None) ≡ true) (sym same)
        (subst (λ f. below_fact K (fact_at table h.row h.mode) f ≡ true) (sym here) risen.above))
        (λ apart. subst (λ f. below_fact K (get_or table s None) f ≡ true) (sym (get_or-set_other table (slot h.row h.mode) s (Some new) None apart)) (fact_refl K laws (get_or table s None)))
        (cases_eq s (slot h.row h.mode))

    raised_calm : (s : ℕ) → get_or (set stale (slot h.row h.mode) true) s false ≡ false
        → (get_or stale s false ≡ false) × (get_or (set table (slot h.row h.mode) (Some new)) s None ≡ get_or table s None)
    raised_calm s calm =
        ⊎_elim
        (λ same. absurd (false≢true (sym calm ∙ ap (λ x. get_or (set stale (slot h.row h.mode) true) x false) same
        ∙ get_or-set_same stale (slot h.row h.mode) true false (omega (arith, inside, long)))))
        (λ apart. (sym (get_or-set_other stale (slot h.row h.mode) s true false apart) ∙ calm, get_or-set_other table (slot h.row h.mode) s (Some new) None apart))
        (cases_eq s (slot h.row h.mode))

    raised_least : (other : List (Fact L)) → Under K table other → admits K other (h ∷ []) ≡ true → Under K (set table (slot h.row h.mode) (Some new)) other
    raised_least other up admitted s =
        ⊎_elim
        (λ same. subst (λ x. below_fact K (get_or (set table (slot h.row h.mode) (Some new)) x None) (get_or other x None) ≡ true) (sym same)
        (subst (λ f. below_fact K f (fact_at other h.row h.mode) ≡ true) (sym here)
        (risen.least (fact_at other h.row h.mode) (up (slot h.row h.mode)) (and_parts _ _ admitted).0)))
        (λ apart. subst (λ f. below_fact K f (get_or other s None) ≡ true) (sym (get_or-set_other table (slot h.row h.mode) s (Some new) None apart)) (up s))
        (cases_eq s (slot h.row h.mode))

    pub received_raised : Received K (h ∷ []) table (set table (slot h.row h.mode) (Some new)) stale (set stale (slot h.row h.mode) true)
    received_raised = record {
      table_long = length-set _ _ _;
      grown = raised_grown;
      calm = raised_calm;
      admitted = and_from _ _ (subst (λ f. below_fact K (Some h.known) f ≡ true) (sym here) risen.admits) refl;
      least = raised_least;
      lighter = omega (arith, mark_stale stale (slot h.row h.mode), rooms_fall K table (slot h.row h.mode) (Some new) inside risen.less_room);
    }

  -- some facts, and then more
  pub received_both : (hs gs : List (Handed L)) (t₁ t₂ t₃ : List (Fact L)) (s₁ s₂ s₃ : List Bool)
      → Received K hs t₁ t₂ s₁ s₂ → Received K gs t₂ t₃ s₂ s₃ → Received K (hs ++ gs) t₁ t₃ s₁ s₃
  received_both hs gs t₁ t₂ t₃ s₁ s₂ s₃ a b = record {
    table_long = b.table_long ∙ a.table_long;
    grown = λ s. fact_trans K laws (get_or t₁ s None) (get_or t₂ s None) (get_or t₃ s None) (a.grown s) (b.grown s);
    calm = λ s e. let (f, same) = b.calm s e in let (g, same') = a.calm s f in (g, same ∙ same');
    admitted = admits_both t₃ hs gs (admits_higher t₂ t₃ hs b.grown a.admitted) b.admitted;
    least = λ other up e. let (first, second) = admits_parts other hs gs e in b.least other (a.least other up first) second;
    lighter = omega (arith, a.lighter, b.lighter);
  }
