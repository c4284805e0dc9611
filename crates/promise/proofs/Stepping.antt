-- Every step keeps the relation, and both machines answer alike, where what the step shows and stores is alike.
use Rattle.std.proofs.Common.{◌≡◌, ℕ, ◌+◌, Bool, true, false, cond, ◌||◌, leb, List, [], ◌∷◌, ◌++◌, length, get_or, sym, refl, ap, ◌∙◌, subst, ap₂, arith}
use Rattle.std.proofs.lemmas.Bool.{false≢true, true≢false}
use Rattle.labels.specs.Kind.{Kind, Lawful}
use Rattle.routine.specs.Effects.{operand, outcome}
use Rattle.routine.specs.Limits.{fields_fit, target_fits}
use Rattle.routine.proofs.Limits.{fields_fit_lem, target_fits_lem}
use Rattle.routine.specs.declared.rows.Operand.{Operand}
use Rattle.routine.specs.declared.rows.Test.{Test}
use Rattle.routine.specs.declared.rows.Row.{Row}
use Rattle.routine.specs.declared.rows.Row.TheVariants as row
use Rattle.facts.specs.declared.types.Mode.{Mode}
use Rattle.facts.specs.declared.types.Mode.TheVariants.{Settled, Guessed}
use Rattle.facts.specs.Rules.{hands}
use Rattle.facts.specs.Tables.{Closed}
use Rattle.judging.specs.Steps.{Valid}
use Rattle.promise.specs.declared.events.Letter.TheVariants as letter
use Rattle.promise.specs.Moves.{Write, move, side, laid, halts}
use Rattle.promise.specs.Guessing.{Build, Level, State, Answer, level, levels, seen, pending, bottom, barred, carried, misled, branched, obeyed, asked, step, shows, same}
use Rattle.promise.specs.Promise.{Agree}
use Rattle.promise.specs.Relation.{Stores, Twins, Stacks, Related}
use Rattle.promise.proofs.Arrivals.{laid_length, laid_agree, stores_both, stores_count, outcomes, hands_go, AllGo, either_side, settled_branch, settled_moved, guessed_moved}
use Rattle.facts.specs.Order.{Fact}

abbrev mk : Level → List Level → Bool → List ℕ → List ℕ → List ℕ → State
mk f fs fin ws p q = record { top = f; waiting = fs; finished = fin; words = ws; predictor = p; settler = q }

-- the letter of a move is its row's
same_letter : (x : Row) (here : ℕ) (rs qs ws vs : List ℕ) → (move x here rs ws).letter ≡ (move x here qs vs).letter
same_letter (row.Set to value) here rs qs ws vs = refl
same_letter (row.Copy to from) here rs qs ws vs = refl
same_letter (row.Compute o to a b) here rs qs ws vs = refl
same_letter (row.Load to k a) here rs qs ws vs = refl
same_letter (row.Store v k a) here rs qs ws vs = refl
same_letter (row.Branch t a b to) here rs qs ws vs = refl
same_letter (row.Jump to) here rs qs ws vs = refl
same_letter row.Fence here rs qs ws vs = refl
same_letter row.Halt here rs qs ws vs = refl

pub seen_length : (fs : List Level) (ws : List ℕ) → length (seen fs ws) ≡ length ws
seen_length [] ws = refl
seen_length (f ∷ fs) ws = laid_length f.stores (seen fs ws) ∙ seen_length fs ws

module _ {L : Type 0} (K : Kind L) (laws : Lawful K) (labels : List L) (reader : L) (rows : List Row) (valid : Valid rows labels)
    (table : List (Fact L)) (closed : Closed K labels rows table) where
  abbrev Rel : State → State → Type 0
  Rel s t = Related K labels reader rows table s t

  abbrev Stack : Level → List Level → Level → List Level → Type 0
  Stack f fs g gs = Stacks K labels reader rows table f fs g gs

  abbrev Two : Mode → Level → Level → Type 0
  Two m f g = Twins K labels reader rows table m f g

  pub stack_heights : (f : Level) (fs : List Level) (g : Level) (gs : List Level) → Stack f fs g gs → length fs ≡ length gs
  stack_heights f [] g [] h = refl
  stack_heights f [] g (g' ∷ gs) h = absurd h
  stack_heights f (f' ∷ fs) g [] h = absurd h
  stack_heights f (f' ∷ fs) g (g' ∷ gs) h = omega (arith, stack_heights f' fs g' gs h.1)

  stack_pending : (f : Level) (fs : List Level) (g : Level) (gs : List Level) → Stack f fs g gs → pending (f ∷ fs) ≡ pending (g ∷ gs)
  stack_pending f [] g [] h = ap (λ n. n + 0) (stores_count K laws labels reader f.stores g.stores h.stores)
  stack_pending f [] g (g' ∷ gs) h = absurd h
  stack_pending f (f' ∷ fs) g [] h = absurd h
  stack_pending f (f' ∷ fs) g (g' ∷ gs) h =
      ap₂ (λ n m. n + m) (stores_count K laws labels reader f.stores g.stores h.0.stores) (stack_pending f' fs g' gs h.1)

  pub stack_seen : (f : Level) (fs : List Level) (g : Level) (gs : List Level) (ws vs : List ℕ) → length ws ≡ length labels → Agree K labels reader ws vs
      → Stack f fs g gs → Agree K labels reader (seen (f ∷ fs) ws) (seen (g ∷ gs) vs)
  stack_seen f [] g [] ws vs size agree h = laid_agree K laws labels reader f.stores g.stores ws vs size agree h.stores
  stack_seen f [] g (g' ∷ gs) ws vs size agree h = absurd h
  stack_seen f (f' ∷ fs) g [] ws vs size agree h = absurd h
  stack_seen f (f' ∷ fs) g (g' ∷ gs) ws vs size agree h =
      laid_agree K laws labels reader f.stores g.stores (seen (f' ∷ fs) ws) (seen (g' ∷ gs) vs) (seen_length (f' ∷ fs) ws ∙ size)
      (stack_seen f' fs g' gs ws vs size agree h.1) h.0.stores

  stack_bottom : (f : Level) (fs : List Level) (g : Level) (gs : List Level) → Stack f fs g gs → Two Settled (bottom f fs) (bottom g gs)
  stack_bottom f [] g [] h = h
  stack_bottom f [] g (g' ∷ gs) h = absurd h
  stack_bottom f (f' ∷ fs) g [] h = absurd h
  stack_bottom f (f' ∷ fs) g (g' ∷ gs) h = stack_bottom f' fs g' gs h.1

  -- the same answer, and related machines after it
  abbrev Same : Answer × State → Answer × State → Type 0
  Same a b = (a.0 ≡ b.0) × Rel a.1 b.1

  same_cond : (b c : Bool) (x x' y y' : Answer × State) → b ≡ c → (b ≡ true → Same x x') → (b ≡ false → Same y y') → Same (cond b x y) (cond c x' y')
  same_cond true true x x' y y' e p q = p refl
  same_cond true false x x' y y' e p q = absurd (true≢false e)
  same_cond false true x x' y y' e p q = absurd (false≢true e)
  same_cond false false x x' y y' e p q = q refl

  -- what a row would show and store is alike
  abbrev Shown : Row → ℕ → List ℕ → List ℕ → List ℕ → List ℕ → Type 0
  Shown x r rs qs ws vs = ((move x r rs ws).number ≡ (move x r qs vs).number) × Stores K labels reader (move x r rs ws).writes (move x r qs vs).writes

  module _ (r : ℕ) (rs qs : List ℕ) (ss ts : List Write) (ws vs p q : List ℕ) (size : length ws ≡ length labels) (agree : Agree K labels reader ws vs) where
    related : (f : Level) (fs : List Level) (g : Level) (gs : List Level) (fin : Bool) (xs ys p' q' : List ℕ) → length xs ≡ length labels → Agree K labels reader xs ys → Stack f fs g gs
        → Rel (mk f fs fin xs p' q') (mk g gs fin ys p' q')
    related f fs g gs fin xs ys p' q' n a h = record { stacks = h; finished = refl; predictor = refl; settler = refl; size = n; words = a }

    -- at level 0
    module _ (twins : Two Settled (level r rs ss) (level r qs ts)) where
      zero_seen : Agree K labels reader (laid ss ws) (laid ts vs)
      zero_seen = laid_agree K laws labels reader ss ts ws vs size agree twins.stores

      zero_carried : (x : Row) (p' : List ℕ) → x ≡ get_or rows r row.Halt → Shown x r rs qs (laid ss ws) (laid ts vs)
          → Same (carried (mk (level r rs ss) [] false ws p' q) x) (carried (mk (level r qs ts) [] false vs p' q) x)
      zero_carried x p' is shown = (
        ap₂ (λ l n. shows l r 0 n) (same_letter x r rs qs (laid ss ws) (laid ts vs)) shown.0,
        related _ [] _ [] (halts x) _ _ p' q (laid_length (move x r rs (laid ss ws)).writes ws ∙ size)
            (laid_agree K laws labels reader (move x r rs (laid ss ws)).writes (move x r qs (laid ts vs)).writes ws vs size agree shown.1)
            (settled_moved K laws labels reader rows valid table closed r twins.known rs qs twins.pairs (laid ss ws) (laid ts vs)
            (laid_length ss ws ∙ size) zero_seen ss ts twins.stores x
            (subst (λ y. fields_fit (length labels) y ≡ true) (sym is) (fields_fit_lem rows (length labels) (length labels) valid r twins.inside))
            (subst (λ y. target_fits (length rows) r y ≡ true) (sym is) (target_fits_lem rows (length labels) (length labels) valid r twins.inside))
            shown.0 twins
            (subst (λ y. AllGo K laws labels reader rows valid table closed (hands K labels y r Settled twins.known)) (sym is) (hands_go K laws labels reader rows valid table closed r Settled twins.known twins.inside twins.reached))),
      )

      zero_misled : (t : Test) (a : ℕ) (b : Operand) (target : ℕ) (p' : List ℕ) (guess : Bool) → row.Branch t a b target ≡ get_or rows r row.Halt
          → (out : Bool) → outcome t (get_or rs a 0) (operand rs b) ≡ out → outcome t (get_or qs a 0) (operand qs b) ≡ out
          → Same (misled (mk (level r rs ss) [] false ws p' q) (side out target r) (side guess target r)) (misled (mk (level r qs ts) [] false vs p' q) (side out target r) (side guess target r))
      zero_misled t a b target p' guess is out left right =
          let go = subst (λ y. AllGo K laws labels reader rows valid table closed (hands K labels y r Settled twins.known)) (sym is)
          (hands_go K laws labels reader rows valid table closed r Settled twins.known twins.inside twins.reached) in
          let fits = subst (λ y. fields_fit (length labels) y ≡ true) (sym is) (fields_fit_lem rows (length labels) (length labels) valid r twins.inside) in (
            refl,
            related _ (level (side out target r) rs ss ∷ []) _ (level (side out target r) qs ts ∷ []) false ws vs p' q size agree (
              either_side K laws labels reader rows valid table closed r Settled twins.known rs qs twins.pairs (laid ss ws) (laid ts vs)
                  (laid_length ss ws ∙ size) zero_seen ss ts twins.stores target guess go.0 go.1.0 [] [] tt,
              settled_branch K laws labels reader rows valid table closed r twins.known rs qs twins.pairs (laid ss ws) (laid ts vs)
                  (laid_length ss ws ∙ size) zero_seen ss ts twins.stores t a b target fits out left right go,
            ),
          )

      zero_obeyed : (B : Build) (x : Row) → x ≡ get_or rows r row.Halt → Shown x r rs qs (laid ss ws) (laid ts vs)
          → Same (obeyed B (mk (level r rs ss) [] false ws p q) x) (obeyed B (mk (level r qs ts) [] false vs p q) x)
      zero_obeyed B (row.Set to value) is shown = zero_carried (row.Set to value) p is shown
      zero_obeyed B (row.Copy to from) is shown = zero_carried (row.Copy to from) p is shown
      zero_obeyed B (row.Compute o to a b) is shown = zero_carried (row.Compute o to a b) p is shown
      zero_obeyed B (row.Load to k a) is shown = zero_carried (row.Load to k a) p is shown
      zero_obeyed B (row.Store v k a) is shown = zero_carried (row.Store v k a) p is shown
      zero_obeyed B (row.Branch t a b target) is shown =
          let x = row.Branch t a b target in
          let out = outcome t (get_or rs a 0) (operand rs b) in
          let outs = outcomes K laws labels reader rows valid table closed r Settled twins.known rs qs twins.pairs (laid ss ws) (laid ts vs)
          (laid_length ss ws ∙ size) zero_seen ss ts twins.stores t a b target
          (subst (λ y. target_fits (length rows) r y ≡ true) (sym is) (target_fits_lem rows (length labels) (length labels) valid r twins.inside)) shown.0 in
          subst (λ o. Same (branched B (mk (level r rs ss) [] false ws p q) x target out) (branched B (mk (level r qs ts) [] false vs p q) x target o)) outs
          (same_cond _ _ _ _ _ _ refl (λ h. zero_carried x (B.learn p r out) is shown)
          (λ h. zero_misled t a b target (B.learn p r out) (B.guess p r) is out refl (sym outs)))
      zero_obeyed B (row.Jump to) is shown = zero_carried (row.Jump to) p is shown
      zero_obeyed B row.Fence is shown = zero_carried row.Fence p is shown
      zero_obeyed B row.Halt is shown = zero_carried row.Halt p is shown

    -- above level 0
    module _ (f' : Level) (fs : List Level) (g' : Level) (gs : List Level) (twins : Two Guessed (level r rs ss) (level r qs ts)) (rest : Stack f' fs g' gs) where
      abbrev Ws : List ℕ
      Ws = seen (level r rs ss ∷ f' ∷ fs) ws

      abbrev Vs : List ℕ
      Vs = seen (level r qs ts ∷ g' ∷ gs) vs

      up_size : length Ws ≡ length labels
      up_size = seen_length (level r rs ss ∷ f' ∷ fs) ws ∙ size

      up_seen : Agree K labels reader Ws Vs
      up_seen = stack_seen (level r rs ss) (f' ∷ fs) (level r qs ts) (g' ∷ gs) ws vs size agree (twins, rest)

      up_heights : length (f' ∷ fs) ≡ length (g' ∷ gs)
      up_heights = stack_heights (level r rs ss) (f' ∷ fs) (level r qs ts) (g' ∷ gs) (twins, rest)

      up_go : (x : Row) → x ≡ get_or rows r row.Halt → AllGo K laws labels reader rows valid table closed (hands K labels x r Guessed twins.known)
      up_go x is = subst (λ y. AllGo K laws labels reader rows valid table closed (hands K labels y r Guessed twins.known)) (sym is)
          (hands_go K laws labels reader rows valid table closed r Guessed twins.known twins.inside twins.reached)

      up_carried : (x : Row) (p' q' : List ℕ) (n : ℕ) → barred x n ≡ false → x ≡ get_or rows r row.Halt → Shown x r rs qs Ws Vs
          → Same (carried (mk (level r rs ss) (f' ∷ fs) false ws p' q') x) (carried (mk (level r qs ts) (g' ∷ gs) false vs p' q') x)
      up_carried x p' q' n open' is shown = (
        ap₂ (λ l k. shows l r (length (f' ∷ fs)) k) (same_letter x r rs qs Ws Vs) shown.0 ∙ ap (λ h. shows (move x r qs Vs).letter r h (move x r qs Vs).number) up_heights,
        related _ (f' ∷ fs) _ (g' ∷ gs) false ws vs p' q' size agree (
          guessed_moved K laws labels reader rows valid table closed r twins.known rs qs twins.pairs Ws Vs up_size up_seen
              (ss ++ (move x r rs Ws).writes) (ts ++ (move x r qs Vs).writes)
              (stores_both K laws labels reader ss ts (move x r rs Ws).writes (move x r qs Vs).writes twins.stores shown.1) x n open'
              (subst (λ y. fields_fit (length labels) y ≡ true) (sym is) (fields_fit_lem rows (length labels) (length labels) valid r twins.inside))
              (subst (λ y. target_fits (length rows) r y ≡ true) (sym is) (target_fits_lem rows (length labels) (length labels) valid r twins.inside))
              shown.0 (up_go x is),
          rest,
        ),
      )

      up_misled : (t : Test) (a : ℕ) (b : Operand) (target : ℕ) (p' q' : List ℕ) (guess : Bool) → row.Branch t a b target ≡ get_or rows r row.Halt → (out : Bool)
          → Same (misled (mk (level r rs ss) (f' ∷ fs) false ws p' q') (side out target r) (side guess target r)) (misled (mk (level r qs ts) (g' ∷ gs) false vs p' q') (side out target r) (side guess target r))
      up_misled t a b target p' q' guess is out =
          let go = up_go (row.Branch t a b target) is in
          let sides = either_side K laws labels reader rows valid table closed r Guessed twins.known rs qs twins.pairs Ws Vs up_size up_seen ss ts twins.stores target in (
            ap (λ h. shows letter.Wrong r (h + 1) (side guess target r)) up_heights,
            related _ (level (side out target r) rs ss ∷ f' ∷ fs) _ (level (side out target r) qs ts ∷ g' ∷ gs) false ws vs p' q' size agree
                (sides guess go.0 go.1.0 [] [] tt, (sides out go.0 go.1.0 ss ts twins.stores, rest)),
          )

      up_obeyed : (B : Build) (x : Row) (q' : List ℕ) (n : ℕ) → barred x n ≡ false → x ≡ get_or rows r row.Halt → Shown x r rs qs Ws Vs
          → Same (obeyed B (mk (level r rs ss) (f' ∷ fs) false ws p q') x) (obeyed B (mk (level r qs ts) (g' ∷ gs) false vs p q') x)
      up_obeyed B (row.Set to value) q' n open' is shown = up_carried (row.Set to value) p q' n open' is shown
      up_obeyed B (row.Copy to from) q' n open' is shown = up_carried (row.Copy to from) p q' n open' is shown
      up_obeyed B (row.Compute o to a b) q' n open' is shown = up_carried (row.Compute o to a b) p q' n open' is shown
      up_obeyed B (row.Load to k a) q' n open' is shown = up_carried (row.Load to k a) p q' n open' is shown
      up_obeyed B (row.Store v k a) q' n open' is shown = up_carried (row.Store v k a) p q' n open' is shown
      up_obeyed B (row.Branch t a b target) q' n open' is shown =
          let x = row.Branch t a b target in
          let out = outcome t (get_or rs a 0) (operand rs b) in
          let outs = outcomes K laws labels reader rows valid table closed r Guessed twins.known rs qs twins.pairs Ws Vs up_size up_seen ss ts twins.stores t a b target
          (subst (λ y. target_fits (length rows) r y ≡ true) (sym is) (target_fits_lem rows (length labels) (length labels) valid r twins.inside)) shown.0 in
          subst (λ o. Same (branched B (mk (level r rs ss) (f' ∷ fs) false ws p q') x target out) (branched B (mk (level r qs ts) (g' ∷ gs) false vs p q') x target o)) outs
          (same_cond _ _ _ _ _ _ (ap (λ h. same out (B.guess p r) || leb 8 h) up_heights) (λ h. up_carried x (B.learn p r out) q' n open' is shown)
          (λ h. up_misled t a b target (B.learn p r out) q' (B.guess p r) is out))
      up_obeyed B (row.Jump to) q' n open' is shown = up_carried (row.Jump to) p q' n open' is shown
      up_obeyed B row.Fence q' n open' is shown = absurd (true≢false open')
      up_obeyed B row.Halt q' n open' is shown = absurd (true≢false open')

      -- what a machine above level 0 does where it asks at a height
      abbrev asking : Build → Row → Level → Level → List Level → List ℕ → ℕ → Answer × State
      asking B x top next below xs h =
          cond (B.settles q r h) (shows letter.Settle r (length below) 0, mk next below false xs p (B.asked q r h))
          (cond (barred x (pending (top ∷ next ∷ below))) (shows letter.Flush r 0 0, mk (bottom next below) [] false xs p (B.asked q r h)) (obeyed B (mk top (next ∷ below) false xs p (B.asked q r h)) x))

      up_asked : (B : Build) → Shown (get_or rows r row.Halt) r rs qs Ws Vs
          → Same (asked B rows (mk (level r rs ss) (f' ∷ fs) false ws p q)) (asked B rows (mk (level r qs ts) (g' ∷ gs) false vs p q))
      up_asked B shown =
          let x = get_or rows r row.Halt in
          let h = length (f' ∷ fs) in
          let q' = B.asked q r h in
          let one = mk (level r rs ss) (f' ∷ fs) false ws p q' in
          let two = mk (level r qs ts) (g' ∷ gs) false vs p q' in
          let same-pending = stack_pending (level r rs ss) (f' ∷ fs) (level r qs ts) (g' ∷ gs) (twins, rest) in
          let barred-one = barred x (pending (level r rs ss ∷ f' ∷ fs)) in
          let barred-two = barred x (pending (level r qs ts ∷ g' ∷ gs)) in
          let flushed-one : Answer × State = (shows letter.Flush r 0 0, mk (bottom f' fs) [] false ws p q') in
          let flushed-two : Answer × State = (shows letter.Flush r 0 0, mk (bottom g' gs) [] false vs p q') in
          subst (λ h'. Same (asking B x (level r rs ss) f' fs ws h) (asking B x (level r qs ts) g' gs vs h')) up_heights
          (same_cond (B.settles q r h) (B.settles q r h)
          (shows letter.Settle r (length fs) 0, mk f' fs false ws p q') (shows letter.Settle r (length gs) 0, mk g' gs false vs p q')
          (cond barred-one flushed-one (obeyed B one x)) (cond barred-two flushed-two (obeyed B two x)) refl
          (λ e. (ap (λ k. shows letter.Settle r k 0) (stack_heights f' fs g' gs rest), related f' fs g' gs false ws vs p q' size agree rest))
          (λ e. same_cond barred-one barred-two flushed-one flushed-two (obeyed B one x) (obeyed B two x) (ap (barred x) same-pending)
          (λ e. (refl, related (bottom f' fs) [] (bottom g' gs) [] false ws vs p q' size agree (stack_bottom f' fs g' gs rest)))
          (λ open'. up_obeyed B x q' (pending (level r rs ss ∷ f' ∷ fs)) open' refl shown)))

    -- any step
    core : (B : Build) (fs gs : List Level) (fin : Bool) → Stack (level r rs ss) fs (level r qs ts) gs
        → (fin ≡ false → Shown (get_or rows r row.Halt) r rs qs (seen (level r rs ss ∷ fs) ws) (seen (level r qs ts ∷ gs) vs))
        → Same (step B rows (mk (level r rs ss) fs fin ws p q)) (step B rows (mk (level r qs ts) gs fin vs p q))
    core B fs gs true stack shown = (refl, related _ fs _ gs true ws vs p q size agree stack)
    core B [] [] false stack shown = zero_obeyed stack B (get_or rows r row.Halt) refl (shown refl)
    core B [] (g ∷ gs) false stack shown = absurd stack
    core B (f ∷ fs) [] false stack shown = absurd stack
    core B (f ∷ fs) (g ∷ gs) false stack shown = up_asked f fs g gs stack.0 stack.1 B (shown refl)

  stack_row : (f : Level) (fs : List Level) (g : Level) (gs : List Level) → Stack f fs g gs → f.row ≡ g.row
  stack_row f [] g [] h = h.same_row
  stack_row f [] g (g' ∷ gs) h = absurd h
  stack_row f (f' ∷ fs) g [] h = absurd h
  stack_row f (f' ∷ fs) g (g' ∷ gs) h = h.0.same_row

  -- what the next step of two machines would show and store is alike
  abbrev pub Alikewise : State → State → Type 0
  Alikewise s t = s.finished ≡ false
      → Shown (get_or rows s.top.row row.Halt) s.top.row s.top.registers t.top.registers (seen (levels s) s.words) (seen (levels t) t.words)

  pub stepped : (B : Build) (s t : State) → Rel s t → Alikewise s t → Same (step B rows s) (step B rows t)
  stepped B s t rel shown =
      let top-is : t.top ≡ level s.top.row t.top.registers t.top.stores =
      ap (λ r. level r t.top.registers t.top.stores) (sym (stack_row s.top s.waiting t.top t.waiting rel.stacks)) in
      let t-is : t ≡ mk (level s.top.row t.top.registers t.top.stores) t.waiting s.finished t.words s.predictor s.settler =
      λ i. record { top = top-is i; waiting = t.waiting; finished = sym rel.finished i; words = t.words; predictor = sym rel.predictor i; settler = sym rel.settler i } in
      subst (λ u. Same (step B rows s) (step B rows u)) (sym t-is)
      (core s.top.row s.top.registers t.top.registers s.top.stores t.top.stores s.words t.words s.predictor s.settler rel.size rel.words
      B s.waiting t.waiting s.finished (subst (λ g. Stack s.top s.waiting g t.waiting) top-is rel.stacks)
      (λ e. subst (λ g. Shown (get_or rows s.top.row row.Halt) s.top.row s.top.registers t.top.registers (seen (levels s) s.words) (seen (g ∷ t.waiting) t.words)) top-is (shown e)))
