-- The relation holds at the start and is kept by every step; so runs are alike.
use Rattle.std.proofs.Common.{◌≡◌, ℕ, zero, suc, ◌-◌, ◌^◌, ◌<◌, ◌≤◌, Bool, false, List, [], ◌∷◌, ◌++◌, length, get_or, drop, replicate, sym, refl, ap, ◌∙◌, subst, ap₂, arith}
use Rattle.std.proofs.lemmas.List.{append_cancel_left, append_assoc, append-nil}
use Rattle.std.proofs.lemmas.Nat.{pow_pos}
use Rattle.labels.specs.Kind.{Kind, Lawful}
use Rattle.routine.proofs.Limits.{fields_fit_lem, few_words, some_rows}
use Rattle.routine.specs.declared.rows.Row.{Row}
use Rattle.routine.specs.declared.rows.Row.TheVariants as row
use Rattle.facts.specs.declared.types.Mode.{Mode}
use Rattle.facts.specs.declared.types.Mode.TheVariants.{Settled, Guessed}
use Rattle.facts.specs.declared.types.Reason.{Reason}
use Rattle.facts.specs.declared.types.Reason.TheVariants as reason
use Rattle.facts.specs.declared.types.Sought.TheVariants.{AnyLeak, SpillOrGuessed}
use Rattle.facts.specs.Order as order
use Rattle.facts.specs.Order.{Fact, knows, known_at, below_all}
use Rattle.facts.specs.Leaks.{leaks}
use Rattle.facts.specs.Tables.{fact_at, leaks_fact, leaks_at, Closed}
use Rattle.judging.specs.Verdicts.{NoLeak}
use Rattle.judging.specs.Steps.{Valid}
use Rattle.promise.specs.declared.events.Event.{Event}
use Rattle.promise.specs.Moves.{move, laid}
use Rattle.promise.specs.Plain.{Plain, plain_start, plain_event, plain_next, plain_after, plain_run}
use Rattle.promise.specs.Guessing.{Build, Level, State, levels, seen, bottom, height, words_at, step, answers, after, start}
use Rattle.promise.specs.Invisible.{level_zero}
use Rattle.promise.specs.Promise.{Agree, Alike, PlainAlike}
use Rattle.promise.specs.Relation.{Pairs, Stores, Twins, Stacks, Related}
use Rattle.promise.specs.Truth.{AllHold}
use Rattle.promise.proofs.Pairs.{pairs_higher}
use Rattle.promise.proofs.Arrivals.{above, stores_same}
use Rattle.promise.proofs.Stepping.{seen_length, stack_heights, stack_seen, Alikewise, stepped}
use Rattle.promise.proofs.Leakless.{shown_alike, stored_alike}
use Rattle.promise.proofs.Invisible.{settled_step, guessed_step, bottom_clean}

zeros : (n r : ℕ) → ◌≡◌ {A = ℕ} (get_or (replicate n 0) r 0) 0
zeros zero r = refl
zeros (suc n) zero = refl
zeros (suc n) (suc r) = zeros n r

-- a plain run, one step more at its end
after_more : (rows : List Row) (k : ℕ) (s : Plain) → plain_after rows (suc k) s ≡ plain_next rows (plain_after rows k s)
after_more rows zero s = refl
after_more rows (suc k) s = after_more rows k (plain_next rows s)

run_more : (rows : List Row) (k : ℕ) (s : Plain) → plain_run rows (suc k) s ≡ plain_run rows k s ++ plain_event rows (plain_after rows k s)
run_more rows zero s = append-nil (plain_event rows s)
run_more rows (suc k) s =
    ap (λ es. plain_event rows s ++ es) (run_more rows k (plain_next rows s)) ∙ sym (append_assoc (plain_event rows s) (plain_run rows k (plain_next rows s)) (plain_event rows (plain_after rows k (plain_next rows s))))

abbrev number_of : List Event → ℕ
number_of [] = 0
number_of (e ∷ es) = e.number

-- plain runs that are alike at every length show alike at every step
event_alike : (rows : List Row) (s t : Plain) → ((n : ℕ) → plain_run rows n s ≡ plain_run rows n t) → (k : ℕ)
    → plain_event rows (plain_after rows k s) ≡ plain_event rows (plain_after rows k t)
event_alike rows s t alike k =
    append_cancel_left (plain_run rows k s) _ _
    (sym (run_more rows k s) ∙ alike (suc k) ∙ run_more rows k t ∙ ap (λ es. es ++ plain_event rows (plain_after rows k t)) (sym (alike k)))

-- level 0 of a machine
abbrev zero_of : Level → List Level → List ℕ → Bool → Plain
zero_of f fs ws fin = record { row = (bottom f fs).row; registers = (bottom f fs).registers; words = ws; finished = fin }

-- the number that level 0 shows is the plain machine's
settled_number : (rows : List Row) (f g : Level) (ws vs : List ℕ) (fin fin' : Bool) → fin ≡ false → fin' ≡ false → f.row ≡ g.row → f.stores ≡ [] → g.stores ≡ []
    → plain_event rows (zero_of f [] ws fin) ≡ plain_event rows (zero_of g [] vs fin')
    → (move (get_or rows f.row row.Halt) f.row f.registers (laid f.stores ws)).number ≡ (move (get_or rows f.row row.Halt) f.row g.registers (laid g.stores vs)).number
settled_number rows f g ws vs fin fin' going going' same none none' events =
    let numbers : (move (get_or rows f.row row.Halt) f.row f.registers ws).number ≡ (move (get_or rows g.row row.Halt) g.row g.registers vs).number =
    ap number_of (sym (ap (λ b. plain_event rows (zero_of f [] ws b)) going) ∙ events ∙ ap (λ b. plain_event rows (zero_of g [] vs b)) going') in
    ap (λ ss. (move (get_or rows f.row row.Halt) f.row f.registers (laid ss ws)).number) none
    ∙ numbers
    ∙ ap (λ r. (move (get_or rows r row.Halt) r g.registers vs).number) (sym same)
    ∙ sym (ap (λ ss. (move (get_or rows f.row row.Halt) f.row g.registers (laid ss vs)).number) none')

module _ {L : Type 0} (K : Kind L) (laws : Lawful K) (labels : List L) (reader : L) (rows : List Row) (valid : Valid rows labels)
    (table : List (Fact L)) (closed : Closed K labels rows table) where
  abbrev Rel : State → State → Type 0
  Rel s t = Related K labels reader rows table s t

  abbrev Stack : Level → List Level → Level → List Level → Type 0
  Stack f fs g gs = Stacks K labels reader rows table f fs g gs

  abbrev Next : State → State → Type 0
  Next s t = Alikewise K laws labels reader rows valid table closed s t

  few : length labels ≤ 4096
  few = few_words rows (length labels) (length labels) valid

  start_pairs : Pairs K labels reader (order.start K) (replicate 16 0) (replicate 16 0)
  start_pairs =
      let small : (w r : ℕ) → get_or (replicate 16 0) r 0 < 2 ^ w = λ w r. subst (λ n. n < 2 ^ w) (sym (zeros 16 r)) (pow_pos w) in
      record {
        long = omega arith;
        left_long = refl;
        right_long = refl;
        left_cut = small 32;
        right_cut = small 32;
        left_holds = λ r. small _ r;
        right_holds = λ r. small _ r;
        equal = λ r h. refl;
      }

  -- at the start
  pub starts : (ws vs p q : List ℕ) → length ws ≡ length labels → Agree K labels reader ws vs → Rel (start ws p q) (start vs p q)
  starts ws vs p q size agree =
      let (gs, is, low) = above K laws labels reader rows valid table closed (fact_at table 0 Settled) (order.start K) closed.entered in
      record {
        stacks = record {
          same_row = refl;
          inside = omega (arith, some_rows rows (length labels) (length labels) valid);
          known = gs;
          reached = is;
          pairs = pairs_higher K laws labels reader (order.start K) gs _ _ low start_pairs;
          stores = tt;
        };
        finished = refl;
        predictor = refl;
        settler = refl;
        size = size;
        words = agree;
      }

  -- the words at any level
  words_from : (k : ℕ) (f : Level) (fs : List Level) (g : Level) (gs : List Level) (ws vs : List ℕ) → length ws ≡ length labels → Agree K labels reader ws vs
      → Stack f fs g gs → k ≤ length fs → Agree K labels reader (seen (drop k (f ∷ fs)) ws) (seen (drop k (g ∷ gs)) vs)
  words_from zero f fs g gs ws vs size agree h low = stack_seen K laws labels reader rows valid table closed f fs g gs ws vs size agree h
  words_from (suc k) f [] g gs ws vs size agree h low = absurd (omega arith)
  words_from (suc k) f (f' ∷ fs) g [] ws vs size agree h low = absurd h
  words_from (suc k) f (f' ∷ fs) g (g' ∷ gs) ws vs size agree h low = words_from k f' fs g' gs ws vs size agree h.1 (omega arith)

  heights : (s t : State) → Rel s t → height s ≡ height t
  heights s t rel = stack_heights K laws labels reader rows valid table closed s.top s.waiting t.top t.waiting rel.stacks

  words_alike : (s t : State) (l : ℕ) → Rel s t → l ≤ height s → Agree K labels reader (words_at l s) (words_at l t)
  words_alike s t l rel low =
      subst (λ h. Agree K labels reader (words_at l s) (seen (drop (h - l) (levels t)) t.words)) (heights s t rel)
      (words_from (height s - l) s.top s.waiting t.top t.waiting s.words t.words rel.size rel.words rel.stacks (omega arith))

  -- whatever is related, shows alike and goes on so, is alike throughout
  module _ (B : Build) (Inv : State → State → Type 0) (related : (s t : State) → Inv s t → Rel s t) (alike : (s t : State) → Inv s t → Next s t)
      (goes_on : (s t : State) → Inv s t → Rel (step B rows s).1 (step B rows t).1 → Inv (step B rows s).1 (step B rows t).1) where
    next : (s t : State) → Inv s t → ((step B rows s).0 ≡ (step B rows t).0) × Inv (step B rows s).1 (step B rows t).1
    next s t h =
        let (answer, rel) = stepped K laws labels reader rows valid table closed B s t (related s t h) (alike s t h) in
        (answer, goes_on s t h rel)

    pub kept : (n : ℕ) (s t : State) → Inv s t → Inv (after B rows n s) (after B rows n t)
    kept zero s t h = h
    kept (suc n) s t h = kept n (step B rows s).1 (step B rows t).1 (next s t h).1

    answered : (n : ℕ) (s t : State) → Inv s t → answers B rows n s ≡ answers B rows n t
    answered zero s t h = refl
    answered (suc n) s t h = ap₂ (λ a rest. a ∷ rest) (next s t h).0 (answered n (step B rows s).1 (step B rows t).1 (next s t h).1)

    pub runs_alike : (s t : State) → Inv s t → Alike K labels reader B rows s t
    runs_alike s t h = record {
      same_answers = λ n. answered n s t h;
      same_levels = λ n. heights _ _ (related _ _ (kept n s t h));
      same_words = λ n l low. words_alike _ _ l (related _ _ (kept n s t h)) low;
    }

  -- a level that has no leak shows alike, and stores alike
  module _ (m : Mode) (f g : Level) (twins : Twins K labels reader rows table m f g) (ws vs : List ℕ) (size : length ws ≡ length labels) (same : length ws ≡ length vs) where
    no_leak : (why : Reason) → leaks_at K labels reader rows table f.row m why ≡ false → leaks K labels reader (get_or rows f.row row.Halt) twins.known why ≡ false
    no_leak why h = subst (λ fact. leaks_fact K labels reader (get_or rows f.row row.Halt) why fact ≡ false) twins.reached h

    level_shows : leaks_at K labels reader rows table f.row m reason.Address ≡ false → leaks_at K labels reader rows table f.row m reason.Branch ≡ false
        → (move (get_or rows f.row row.Halt) f.row f.registers ws).number ≡ (move (get_or rows f.row row.Halt) f.row g.registers vs).number
    level_shows a b =
        shown_alike K laws labels reader few twins.known f.registers g.registers twins.pairs (get_or rows f.row row.Halt) f.row ws vs same (no_leak reason.Address a) (no_leak reason.Branch b)

    level_stores : leaks_at K labels reader rows table f.row m reason.Spill ≡ false
        → (move (get_or rows f.row row.Halt) f.row f.registers ws).number ≡ (move (get_or rows f.row row.Halt) f.row g.registers vs).number
        → Stores K labels reader (move (get_or rows f.row row.Halt) f.row f.registers ws).writes (move (get_or rows f.row row.Halt) f.row g.registers vs).writes
    level_stores s shown =
        stored_alike K laws labels reader few twins.known f.registers g.registers twins.pairs (get_or rows f.row row.Halt) f.row ws vs
        (fields_fit_lem rows (length labels) (length labels) valid f.row twins.inside) size (no_leak reason.Spill s) shown

  same_seen : (fs gs : List Level) (ws vs : List ℕ) → Agree K labels reader ws vs → length (seen fs ws) ≡ length (seen gs vs)
  same_seen fs gs ws vs agree = seen_length fs ws ∙ agree.same_size ∙ sym (seen_length gs vs)

  -- what is shown and stored by a row at the top of two stacks
  abbrev Tops : Level → List Level → Level → List Level → List ℕ → List ℕ → Type 0
  Tops f fs g gs ws vs =
      ((move (get_or rows f.row row.Halt) f.row f.registers (seen (f ∷ fs) ws)).number ≡ (move (get_or rows f.row row.Halt) f.row g.registers (seen (g ∷ gs) vs)).number)
      × Stores K labels reader (move (get_or rows f.row row.Halt) f.row f.registers (seen (f ∷ fs) ws)).writes (move (get_or rows f.row row.Halt) f.row g.registers (seen (g ∷ gs) vs)).writes

  -- a top level that has no leak of any kind
  quiet_tops : (m : Mode) (f : Level) (fs : List Level) (g : Level) (gs : List Level) (ws vs : List ℕ) → length ws ≡ length labels → Agree K labels reader ws vs
      → Twins K labels reader rows table m f g → ((why : Reason) → leaks_at K labels reader rows table f.row m why ≡ false) → Tops f fs g gs ws vs
  quiet_tops m f fs g gs ws vs size agree twins none =
      let long = seen_length (f ∷ fs) ws ∙ size in
      let same = same_seen (f ∷ fs) (g ∷ gs) ws vs agree in
      let shown = level_shows m f g twins (seen (f ∷ fs) ws) (seen (g ∷ gs) vs) long same (none reason.Address) (none reason.Branch) in
      (shown, level_stores m f g twins (seen (f ∷ fs) ws) (seen (g ∷ gs) vs) long same (none reason.Spill) shown)

  -- under a table with no leak
  clear_tops : NoLeak K labels rows reader AnyLeak table → (f : Level) (fs : List Level) (g : Level) (gs : List Level) (ws vs : List ℕ) → length ws ≡ length labels
      → Agree K labels reader ws vs → Stack f fs g gs → Tops f fs g gs ws vs
  clear_tops none f [] g [] ws vs size agree h = quiet_tops Settled f [] g [] ws vs size agree h (λ why. none f.row Settled why h.inside refl)
  clear_tops none f [] g (g' ∷ gs) ws vs size agree h = absurd h
  clear_tops none f (f' ∷ fs) g [] ws vs size agree h = absurd h
  clear_tops none f (f' ∷ fs) g (g' ∷ gs) ws vs size agree h =
      quiet_tops Guessed f (f' ∷ fs) g (g' ∷ gs) ws vs size agree h.0 (λ why. none f.row Guessed why h.0.inside refl)

  pub clear_runs : NoLeak K labels rows reader AnyLeak table → (B : Build) (ws vs p q : List ℕ) → length ws ≡ length labels → Agree K labels reader ws vs
      → Alike K labels reader B rows (start ws p q) (start vs p q)
  clear_runs none B ws vs p q size agree =
      runs_alike B Rel (λ s t h. h)
      (λ s t h open'. clear_tops none s.top s.waiting t.top t.waiting s.words t.words h.size h.words h.stacks)
      (λ s t h rel. rel) (start ws p q) (start vs p q) (starts ws vs p q size agree)

  -- a machine beside itself
  pub one_runs : (B : Build) (ws p q : List ℕ) → length ws ≡ length labels → (n : ℕ) → Rel (after B rows n (start ws p q)) (after B rows n (start ws p q))
  one_runs B ws p q size n =
      let Inv : State → State → Type 0 = λ s t. Rel s t × (s ≡ t) in
      (kept B Inv (λ s t h. h.0)
      (λ s t h open'. subst (λ u. Tops s.top s.waiting u.top u.waiting s.words u.words) h.1 (refl, stores_same K laws labels reader _))
      (λ s t h rel. (rel, ap (λ u. (step B rows u).1) h.1))
      n (start ws p q) (start ws p q) (starts ws ws p q size (record { same_size = refl; readable = λ i inside h. refl }), refl)).0

  pub all_hold : (f : Level) (fs : List Level) (g : Level) (gs : List Level) → Stack f fs g gs → AllHold K table f fs
  all_hold f [] g [] h = record { known = h.known; reached = h.reached; below = h.pairs.left_holds }
  all_hold f [] g (g' ∷ gs) h = absurd h
  all_hold f (f' ∷ fs) g [] h = absurd h
  all_hold f (f' ∷ fs) g (g' ∷ gs) h = (record { known = h.0.known; reached = h.0.reached; below = h.0.pairs.left_holds }, all_hold f' fs g' gs h.1)

  -- under a table with no spill and no guessed leak, where plain runs are alike
  module _ (none : NoLeak K labels rows reader SpillOrGuessed table) (ws₀ vs₀ : List ℕ) (plain : PlainAlike rows ws₀ vs₀) where
    -- level 0 of both is the plain machine after so many steps, and has no stores pending
    record Linked (s t : State) : Type 0 where
      rel : Rel s t
      left_clean : (bottom s.top s.waiting).stores ≡ []
      right_clean : (bottom t.top t.waiting).stores ≡ []
      steps : ℕ
      left : level_zero s ≡ plain_after rows steps (plain_start ws₀)
      right : level_zero t ≡ plain_after rows steps (plain_start vs₀)

    guarded_tops : (f : Level) (fs : List Level) (g : Level) (gs : List Level) (ws vs : List ℕ) (fin fin' : Bool) → length ws ≡ length labels → Agree K labels reader ws vs
        → Stack f fs g gs → fin ≡ false → fin' ≡ false → (bottom f fs).stores ≡ [] → (bottom g gs).stores ≡ []
        → plain_event rows (zero_of f fs ws fin) ≡ plain_event rows (zero_of g gs vs fin') → Tops f fs g gs ws vs
    guarded_tops f [] g [] ws vs fin fin' size agree h going going' clean clean' events =
        let shown = settled_number rows f g ws vs fin fin' going going' h.same_row clean clean' events in (
          shown,
          level_stores Settled f g h (seen (f ∷ []) ws) (seen (g ∷ []) vs) (seen_length (f ∷ []) ws ∙ size) (same_seen (f ∷ []) (g ∷ []) ws vs agree)
              (none f.row Settled reason.Spill h.inside refl) shown,
        )
    guarded_tops f [] g (g' ∷ gs) ws vs fin fin' size agree h going going' clean clean' events = absurd h
    guarded_tops f (f' ∷ fs) g [] ws vs fin fin' size agree h going going' clean clean' events = absurd h
    guarded_tops f (f' ∷ fs) g (g' ∷ gs) ws vs fin fin' size agree h going going' clean clean' events =
        quiet_tops Guessed f (f' ∷ fs) g (g' ∷ gs) ws vs size agree h.0 (λ why. none f.row Guessed why h.0.inside refl)

    linked_next : (s t : State) → Linked s t → Next s t
    linked_next s t h going =
        guarded_tops s.top s.waiting t.top t.waiting s.words t.words s.finished t.finished h.rel.size h.rel.words h.rel.stacks
        going (sym h.rel.finished ∙ going) h.left_clean h.right_clean
        (ap (plain_event rows) h.left ∙ event_alike rows (plain_start ws₀) (plain_start vs₀) plain h.steps ∙ sym (ap (plain_event rows) h.right))

    linked_on : (B : Build) (s t : State) → Linked s t → Rel (step B rows s).1 (step B rows t).1 → Linked (step B rows s).1 (step B rows t).1
    linked_on B s t h rel = go s.waiting t.waiting refl refl
      where
        -- one step more of level 0, in both or in neither
        go : (fs gs : List Level) → s.waiting ≡ fs → t.waiting ≡ gs → Linked (step B rows s).1 (step B rows t).1
        go [] [] e e' = record {
          rel = rel;
          left_clean = bottom_clean B rows s h.left_clean;
          right_clean = bottom_clean B rows t h.right_clean;
          steps = suc h.steps;
          left = settled_step B rows s e (subst (λ fs. (bottom s.top fs).stores ≡ []) e h.left_clean) ∙ ap (plain_next rows) h.left ∙ sym (after_more rows h.steps (plain_start ws₀));
          right = settled_step B rows t e' (subst (λ fs. (bottom t.top fs).stores ≡ []) e' h.right_clean) ∙ ap (plain_next rows) h.right ∙ sym (after_more rows h.steps (plain_start vs₀));
        }
        go [] (g ∷ gs) e e' = absurd (omega (arith, ap length e, ap length e', heights s t h.rel))
        go (f ∷ fs) [] e e' = absurd (omega (arith, ap length e, ap length e', heights s t h.rel))
        go (f ∷ fs) (g ∷ gs) e e' = record {
          rel = rel;
          left_clean = bottom_clean B rows s h.left_clean;
          right_clean = bottom_clean B rows t h.right_clean;
          steps = h.steps;
          left = guessed_step B rows s f fs e ∙ h.left;
          right = guessed_step B rows t g gs e' ∙ h.right;
        }

    pub guarded_runs : (B : Build) (p q : List ℕ) → length ws₀ ≡ length labels → Agree K labels reader ws₀ vs₀ → Alike K labels reader B rows (start ws₀ p q) (start vs₀ p q)
    guarded_runs B p q size agree =
        runs_alike B Linked (λ s t h. h.rel) linked_next (linked_on B) (start ws₀ p q) (start vs₀ p q)
        (record { rel = starts ws₀ vs₀ p q size agree; left_clean = refl; right_clean = refl; steps = 0; left = refl; right = refl })
