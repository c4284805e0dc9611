-- Where two levels arrive after a row: at a row that is reached, with registers and stores as the relation asks.
use Rattle.std.proofs.Common.{◌≡◌, ℕ, ◌+◌, ◌*◌, ◌<◌, ◌≤◌, Bool, true, false, ◌≢◌, List, [], ◌∷◌, ◌++◌, length, get_or, set, sym, refl, ◌∙◌, subst, ⊎_elim, arith, length-set, Some, None}
use Rattle.std.proofs.lemmas.List.{get_or-set_same, get_or-set_other}
use Rattle.std.proofs.lemmas.Bool.{cases_eq, and_parts, eqb-false, not-true, false≢true, true≢false}
use Rattle.labels.specs.Kind.{Kind, Lawful}
use Rattle.routine.specs.Effects.{operand, outcome}
use Rattle.routine.specs.Limits.{fields_fit, target_fits}
use Rattle.routine.proofs.Limits.{few_words}
use Rattle.routine.specs.declared.rows.Operand.{Operand}
use Rattle.routine.specs.declared.rows.Test.{Test}
use Rattle.routine.specs.declared.rows.Row.{Row}
use Rattle.routine.specs.declared.rows.Row.TheVariants as row
use Rattle.facts.specs.declared.types.Mode.{Mode}
use Rattle.facts.specs.declared.types.Mode.TheVariants.{Settled, Guessed}
use Rattle.facts.specs.declared.types.Known.{Known}
use Rattle.facts.specs.Order.{Fact, below_all, below_fact}
use Rattle.facts.specs.Rules.{Handed, hand, hands, after, at_target, at_next}
use Rattle.facts.specs.Tables.{slot, fact_at, hands_fact, admits, Closed}
use Rattle.judging.specs.Steps.{Fitting, Valid}
use Rattle.judging.proofs.Fits.{hands_fit}
use Rattle.promise.specs.Moves.{Write, move, side, laid}
use Rattle.promise.specs.Guessing.{Level, level, barred}
use Rattle.promise.specs.Promise.{Agree}
use Rattle.promise.specs.Relation.{Pairs, OneStore, Stores, Twins}
use Rattle.promise.proofs.Pairs.{pairs_higher}
use Rattle.promise.proofs.Rows.{after_pairs, target_pairs, next_pairs}

-- a branch whose target is not its next row shows its outcome by the side that it follows
pub side_tells : (b c : Bool) (target here : ℕ) → target ≢ here + 1 → side b target here ≡ side c target here → b ≡ c
side_tells true true target here apart e = refl
side_tells true false target here apart e = absurd (apart e)
side_tells false true target here apart e = absurd (apart (sym e))
side_tells false false target here apart e = refl

-- stores change no size
pub laid_length : (ss : List Write) (ws : List ℕ) → length (laid ss ws) ≡ length ws
laid_length [] ws = refl
laid_length (w ∷ ss) ws = laid_length ss (set ws w.address w.value) ∙ length-set ws w.address w.value

module _ {L : Type 0} (K : Kind L) (laws : Lawful K) (labels : List L) (reader : L) where
  -- stores laid over words that agree leave words that agree
  store_agree : (ws vs : List ℕ) (w v : Write) → length ws ≡ length labels → Agree K labels reader ws vs → OneStore K labels reader w v
      → Agree K labels reader (set ws w.address w.value) (set vs v.address v.value)
  store_agree ws vs w v size agree one = record {
    same_size = length-set ws w.address w.value ∙ agree.same_size ∙ sym (length-set vs v.address v.value);
    readable = λ i inside read.
        subst (λ a. get_or (set ws w.address w.value) i 0 ≡ get_or (set vs a v.value) i 0) one.same_address
        (⊎_elim
        (λ here.
        let word : w.address < length labels = omega (arith, here, inside) in
        subst (λ n. get_or (set ws w.address w.value) n 0 ≡ get_or (set vs w.address v.value) n 0) (sym here)
        (get_or-set_same ws w.address w.value 0 (omega (arith, word, size))
        ∙ one.equal word (subst (λ n. K.below (get_or labels n K.lowest) reader ≡ true) here read)
        ∙ sym (get_or-set_same vs w.address v.value 0 (omega (arith, word, size, agree.same_size)))))
        (λ apart. get_or-set_other ws w.address i w.value 0 apart ∙ agree.readable i inside read ∙ sym (get_or-set_other vs w.address i v.value 0 apart))
        (cases_eq i w.address));
  }

  pub laid_agree : (ss ts : List Write) (ws vs : List ℕ) → length ws ≡ length labels → Agree K labels reader ws vs → Stores K labels reader ss ts
      → Agree K labels reader (laid ss ws) (laid ts vs)
  laid_agree [] [] ws vs size agree h = agree
  laid_agree [] (t ∷ ts) ws vs size agree h = absurd h
  laid_agree (s ∷ ss) [] ws vs size agree h = absurd h
  laid_agree (s ∷ ss) (t ∷ ts) ws vs size agree h =
      laid_agree ss ts (set ws s.address s.value) (set vs t.address t.value) (length-set ws s.address s.value ∙ size) (store_agree ws vs s t size agree h.0) h.1

  pub stores_both : (ss ts us vs : List Write) → Stores K labels reader ss ts → Stores K labels reader us vs → Stores K labels reader (ss ++ us) (ts ++ vs)
  stores_both [] [] us vs p q = q
  stores_both [] (t ∷ ts) us vs p q = absurd p
  stores_both (s ∷ ss) [] us vs p q = absurd p
  stores_both (s ∷ ss) (t ∷ ts) us vs p q = (p.0, stores_both ss ts us vs p.1 q)

  pub stores_same : (ss : List Write) → Stores K labels reader ss ss
  stores_same [] = tt
  stores_same (s ∷ ss) = (record { same_address = refl; equal = λ h k. refl }, stores_same ss)

  pub stores_count : (ss ts : List Write) → Stores K labels reader ss ts → length ss ≡ length ts
  stores_count [] [] h = refl
  stores_count [] (t ∷ ts) h = absurd h
  stores_count (s ∷ ss) [] h = absurd h
  stores_count (s ∷ ss) (t ∷ ts) h = omega (arith, stores_count ss ts h.1)

  module _ (rows : List Row) (valid : Valid rows labels) (table : List (Fact L)) (closed : Closed K labels rows table) where
    -- where something is handed to, the table knows of it
    abbrev pub Goes : Handed L → Type 0
    Goes h = (gs : List (Known L)) × (fact_at table h.row h.mode ≡ Some gs) × (below_all K h.known gs ≡ true) × (h.row < length rows)

    abbrev pub AllGo : List (Handed L) → Type 0
    AllGo [] = Unit {0}
    AllGo (h ∷ hs) = Goes h × AllGo hs

    pub above : (f : Fact L) (ks : List (Known L)) → below_fact K (Some ks) f ≡ true → (gs : List (Known L)) × (f ≡ Some gs) × (below_all K ks gs ≡ true)
    above None ks h = absurd (false≢true h)
    above (Some gs) ks h = (gs, refl, h)

    row_inside : (r : ℕ) (m : Mode) → slot r m < 2 * length rows → r < length rows
    row_inside r Settled h = omega arith
    row_inside r Guessed h = omega arith

    all_go : (hs : List (Handed L)) → admits K table hs ≡ true → Fitting (2 * length rows) hs → AllGo hs
    all_go [] h fit = tt
    all_go (x ∷ hs) h fit =
        let (here, later) = and_parts _ _ h in
        let (gs, is, low) = above (fact_at table x.row x.mode) x.known here in
        ((gs, is, low, row_inside x.row x.mode fit.0), all_go hs later fit.1)

    pub hands_go : (r : ℕ) (m : Mode) (ks : List (Known L)) → r < length rows → fact_at table r m ≡ Some ks → AllGo (hands K labels (get_or rows r row.Halt) r m ks)
    hands_go r m ks inside is =
        all_go (hands K labels (get_or rows r row.Halt) r m ks)
        (subst (λ f. admits K table (hands_fact K labels (get_or rows r row.Halt) r m f) ≡ true) is (closed.admitted r m inside))
        (hands_fit K labels rows valid r m (Some ks) inside)

    abbrev pub Two : Mode → Level → Level → Type 0
    Two m f g = Twins K labels reader rows table m f g

    arrive : (r : ℕ) (m : Mode) (ks : List (Known L)) → Goes (hand r m ks) → (rs qs : List ℕ) → Pairs K labels reader ks rs qs → (ss ts : List Write)
        → Stores K labels reader ss ts → Two m (level r rs ss) (level r qs ts)
    arrive r m ks go rs qs p ss ts st = record {
      same_row = refl;
      inside = go.3;
      known = go.0;
      reached = go.1;
      pairs = pairs_higher K laws labels reader ks go.0 rs qs go.2 p;
      stores = st;
    }

    module _ (r : ℕ) (m : Mode) (ks : List (Known L)) (rs qs : List ℕ) (p : Pairs K labels reader ks rs qs) (ws vs : List ℕ)
        (size : length ws ≡ length labels) (agree : Agree K labels reader ws vs) (ss ts : List Write) (st : Stores K labels reader ss ts) where
      few : length labels ≤ 4096
      few = few_words rows (length labels) (length labels) valid

      -- the levels after a move
      abbrev pub Moved : Row → Type 0
      Moved x = Two m (level (move x r rs ws).to (move x r rs ws).registers ss) (level (move x r qs vs).to (move x r qs vs).registers ts)

      plain : (x : Row) → fields_fit (length labels) x ≡ true → (move x r rs ws).number ≡ (move x r qs vs).number → Goes (hand (r + 1) m (after K labels x ks))
          → Two m (level (r + 1) (move x r rs ws).registers ss) (level (r + 1) (move x r qs vs).registers ts)
      plain x fits shown go =
          arrive (r + 1) m (after K labels x ks) go _ _ (after_pairs K laws labels reader few ks rs qs p x r ws vs fits size agree shown) ss ts st

      -- both sides of a branch in guessed mode, the fact as it is
      pub either_side : (target : ℕ) (out : Bool) → Goes (hand target Guessed ks) → Goes (hand (r + 1) Guessed ks) → (us xs : List Write) → Stores K labels reader us xs
          → Two Guessed (level (side out target r) rs us) (level (side out target r) qs xs)
      either_side target true here next us xs h = arrive target Guessed ks here rs qs p us xs h
      either_side target false here next us xs h = arrive (r + 1) Guessed ks next rs qs p us xs h

      -- a settled branch: its outcome's side in settled mode, narrowed
      settled_side : (t : Test) (a : ℕ) (b : Operand) (target : ℕ) → fields_fit (length labels) (row.Branch t a b target) ≡ true → (out : Bool)
          → outcome t (get_or rs a 0) (operand rs b) ≡ out → outcome t (get_or qs a 0) (operand qs b) ≡ out
          → Goes (hand target Settled (at_target K t a b ks)) → Goes (hand (r + 1) Settled (at_next K t a b ks))
          → Two Settled (level (side out target r) rs ss) (level (side out target r) qs ts)
      settled_side t a b target fits true left right here next =
          let (ra, rb) = and_parts _ _ fits in
          arrive target Settled (at_target K t a b ks) here rs qs (target_pairs K laws labels reader few ks rs qs p t a b ra rb left right) ss ts st
      settled_side t a b target fits false left right here next =
          let (ra, rb) = and_parts _ _ fits in
          arrive (r + 1) Settled (at_next K t a b ks) next rs qs (next_pairs K laws labels reader few ks rs qs p t a b ra rb left right) ss ts st

      -- the two outcomes of a branch are one
      pub outcomes : (t : Test) (a : ℕ) (b : Operand) (target : ℕ) → target_fits (length rows) r (row.Branch t a b target) ≡ true
          → (move (row.Branch t a b target) r rs ws).number ≡ (move (row.Branch t a b target) r qs vs).number
          → outcome t (get_or rs a 0) (operand rs b) ≡ outcome t (get_or qs a 0) (operand qs b)
      outcomes t a b target fits shown =
          side_tells _ _ target r (eqb-false target (r + 1) (not-true _ (and_parts _ _ fits).1)) shown

    -- the level after a settled row, and after a guessed row that is not barred; a halt stays where it is
    module _ (r : ℕ) (ks : List (Known L)) (rs qs : List ℕ) (p : Pairs K labels reader ks rs qs) (ws vs : List ℕ)
        (size : length ws ≡ length labels) (agree : Agree K labels reader ws vs) (ss ts : List Write) (st : Stores K labels reader ss ts) where
      pub settled_branch : (t : Test) (a : ℕ) (b : Operand) (target : ℕ) → fields_fit (length labels) (row.Branch t a b target) ≡ true
          → (out : Bool) → outcome t (get_or rs a 0) (operand rs b) ≡ out → outcome t (get_or qs a 0) (operand qs b) ≡ out
          → AllGo (hands K labels (row.Branch t a b target) r Settled ks) → Two Settled (level (side out target r) rs ss) (level (side out target r) qs ts)
      settled_branch t a b target fits out left right go =
          settled_side r Settled ks rs qs p ws vs size agree ss ts st t a b target fits out left right go.1.1.0 go.1.1.1.0

      pub settled_moved : (x : Row) → fields_fit (length labels) x ≡ true → target_fits (length rows) r x ≡ true
          → (move x r rs ws).number ≡ (move x r qs vs).number → Two Settled (level r rs ss) (level r qs ts) → AllGo (hands K labels x r Settled ks)
          → Moved r Settled ks rs qs p ws vs size agree ss ts st x
      settled_moved (row.Set to value) fits target shown old go = plain r Settled ks rs qs p ws vs size agree ss ts st (row.Set to value) fits shown go.0
      settled_moved (row.Copy to from) fits target shown old go = plain r Settled ks rs qs p ws vs size agree ss ts st (row.Copy to from) fits shown go.0
      settled_moved (row.Compute o to a b) fits target shown old go = plain r Settled ks rs qs p ws vs size agree ss ts st (row.Compute o to a b) fits shown go.0
      settled_moved (row.Load to k a) fits target shown old go = plain r Settled ks rs qs p ws vs size agree ss ts st (row.Load to k a) fits shown go.0
      settled_moved (row.Store v k a) fits target shown old go = plain r Settled ks rs qs p ws vs size agree ss ts st (row.Store v k a) fits shown go.0
      settled_moved (row.Branch t a b to) fits target shown old go =
          let outs = outcomes r Settled ks rs qs p ws vs size agree ss ts st t a b to target shown in
          subst (λ o. Two Settled (level (side (outcome t (get_or rs a 0) (operand rs b)) to r) rs ss) (level (side o to r) qs ts)) outs
          (settled_branch t a b to fits (outcome t (get_or rs a 0) (operand rs b)) refl (sym outs) go)
      settled_moved (row.Jump to) fits target shown old go = arrive to Settled ks go.0 rs qs p ss ts st
      settled_moved row.Fence fits target shown old go = plain r Settled ks rs qs p ws vs size agree ss ts st row.Fence fits shown go.0
      settled_moved row.Halt fits target shown old go = old

      pub guessed_moved : (x : Row) (n : ℕ) → barred x n ≡ false → fields_fit (length labels) x ≡ true → target_fits (length rows) r x ≡ true
          → (move x r rs ws).number ≡ (move x r qs vs).number → AllGo (hands K labels x r Guessed ks)
          → Moved r Guessed ks rs qs p ws vs size agree ss ts st x
      guessed_moved (row.Set to value) n open' fits target shown go = plain r Guessed ks rs qs p ws vs size agree ss ts st (row.Set to value) fits shown go.0
      guessed_moved (row.Copy to from) n open' fits target shown go = plain r Guessed ks rs qs p ws vs size agree ss ts st (row.Copy to from) fits shown go.0
      guessed_moved (row.Compute o to a b) n open' fits target shown go = plain r Guessed ks rs qs p ws vs size agree ss ts st (row.Compute o to a b) fits shown go.0
      guessed_moved (row.Load to k a) n open' fits target shown go = plain r Guessed ks rs qs p ws vs size agree ss ts st (row.Load to k a) fits shown go.0
      guessed_moved (row.Store v k a) n open' fits target shown go = plain r Guessed ks rs qs p ws vs size agree ss ts st (row.Store v k a) fits shown go.0
      guessed_moved (row.Branch t a b to) n open' fits target shown go =
          subst (λ o. Two Guessed (level (side (outcome t (get_or rs a 0) (operand rs b)) to r) rs ss) (level (side o to r) qs ts))
          (outcomes r Guessed ks rs qs p ws vs size agree ss ts st t a b to target shown)
          (either_side r Guessed ks rs qs p ws vs size agree ss ts st to (outcome t (get_or rs a 0) (operand rs b)) go.0 go.1.0 ss ts st)
      guessed_moved (row.Jump to) n open' fits target shown go = arrive to Guessed ks go.0 rs qs p ss ts st
      guessed_moved row.Fence n open' fits target shown go = absurd (true≢false open')
      guessed_moved row.Halt n open' fits target shown go = absurd (true≢false open')
