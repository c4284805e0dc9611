-- Guessing is invisible: a step from level 0 is a step of the plain machine, and any other leaves level 0 as it is.
use Rattle.std.proofs.Common.{◌≡◌, ℕ, zero, suc, Bool, true, false, cond, List, [], ◌∷◌, ◌++◌, get_or, sym, refl, ap, ◌∙◌, subst, ap₂}
use Rattle.routine.specs.Effects.{operand, outcome}
use Rattle.routine.specs.declared.rows.Row.{Row}
use Rattle.routine.specs.declared.rows.Row.TheVariants as row
use Rattle.promise.specs.Moves.{move, laid, halts}
use Rattle.promise.specs.Plain.{Plain, plain_event, plain_next, plain_after, plain_run}
use Rattle.promise.specs.Guessing.{Build, Level, State, level, height, start, levels, pending, bottom, Answer, flushed, barred, obeyed, asked, step, after}
use Rattle.promise.specs.Invisible.{level_zero, shown_at_zero, run_at_zero, GuessingInvisible}

-- level 0 with its stores, and what all levels share but the rules' lists
record Ground : Type 0 where
  lowest : Level
  words : List ℕ
  finished : Bool

abbrev ground : State → Ground
ground s = record { lowest = bottom s.top s.waiting; words = s.words; finished = s.finished }

-- a ground as a plain machine, and back: nothing pends
abbrev plain_of : Ground → Plain
plain_of g = record { row = g.lowest.row; registers = g.lowest.registers; words = g.words; finished = g.finished }

abbrev ground_of : Plain → Ground
ground_of z = record { lowest = level z.row z.registers []; words = z.words; finished = z.finished }

-- the machine at level 0 with nothing pending
abbrev settled : Plain → List ℕ → List ℕ → State
settled z p q = record { top = level z.row z.registers []; waiting = []; finished = z.finished; words = z.words; predictor = p; settler = q }

-- the machine above level 0
abbrev guessed : State → Level → List Level → State
guessed s g gs = record { top = s.top; waiting = g ∷ gs; finished = s.finished; words = s.words; predictor = s.predictor; settler = s.settler }

-- the top level as a plain machine
abbrev on_top : State → Plain
on_top s = record { row = s.top.row; registers = s.top.registers; words = s.words; finished = s.finished }

is_settled : (s : State) → s.waiting ≡ [] → s.top.stores ≡ [] → s ≡ settled (on_top s) s.predictor s.settler
is_settled s none clean = λ i.
    record { top = level s.top.row s.top.registers (clean i); waiting = none i; finished = s.finished; words = s.words; predictor = s.predictor; settler = s.settler }

is_guessed : (s : State) (g : Level) (gs : List Level) → s.waiting ≡ g ∷ gs → s ≡ guessed s g gs
is_guessed s g gs some = λ i. record { top = s.top; waiting = some i; finished = s.finished; words = s.words; predictor = s.predictor; settler = s.settler }

-- with no level above 0, what pends at level 0 pends on top
top_clean : (s : State) → s.waiting ≡ [] → (bottom s.top s.waiting).stores ≡ [] → s.top.stores ≡ []
top_clean s none clean = subst (λ fs. (bottom s.top fs).stores ≡ []) none clean

-- what holds of both ways of a test holds of it
either_way : (b : Bool) (a c : Answer × State) (g : Ground) → ground a.1 ≡ g → ground c.1 ≡ g → ground (cond b a c).1 ≡ g
either_way true a c g p q = p
either_way false a c g p q = q

-- the plain machine before its end, and after a row
abbrev running : ℕ → List ℕ → List ℕ → Plain
running r rs ws = record { row = r; registers = rs; words = ws; finished = false }

abbrev moved_by : Row → ℕ → List ℕ → List ℕ → Plain
moved_by x r rs ws =
    let m = move x r rs ws in record { row = m.to; registers = m.registers; words = laid m.writes ws; finished = halts x }

module _ (B : Build) where
  settled_obeyed : (x : Row) (r : ℕ) (rs ws p q : List ℕ)
      → ground (obeyed B (settled (running r rs ws) p q) x).1 ≡ ground_of (moved_by x r rs ws)
  settled_obeyed (row.Set to value) r rs ws p q = refl
  settled_obeyed (row.Copy to from) r rs ws p q = refl
  settled_obeyed (row.Compute o to a b) r rs ws p q = refl
  settled_obeyed (row.Load to base index) r rs ws p q = refl
  settled_obeyed (row.Store from base index) r rs ws p q = refl
  settled_obeyed (row.Branch t a b target) r rs ws p q = either_way _ _ _ _ refl refl
  settled_obeyed (row.Jump target) r rs ws p q = refl
  settled_obeyed row.Fence r rs ws p q = refl
  settled_obeyed row.Halt r rs ws p q = refl

  guessed_obeyed : (x : Row) (s : State) (g : Level) (gs : List Level) → ground (obeyed B (guessed s g gs) x).1 ≡ ground (guessed s g gs)
  guessed_obeyed (row.Set to value) s g gs = refl
  guessed_obeyed (row.Copy to from) s g gs = refl
  guessed_obeyed (row.Compute o to a b) s g gs = refl
  guessed_obeyed (row.Load to base index) s g gs = refl
  guessed_obeyed (row.Store from base index) s g gs = refl
  guessed_obeyed (row.Branch t a b target) s g gs = either_way _ _ _ _ refl refl
  guessed_obeyed (row.Jump target) s g gs = refl
  guessed_obeyed row.Fence s g gs = refl
  guessed_obeyed row.Halt s g gs = refl

  module _ (rows : List Row) where
    -- a step from level 0 is a plain step, and nothing pends after it
    settled_ground : (z : Plain) (p q : List ℕ) → ground (step B rows (settled z p q)).1 ≡ ground_of (plain_next rows z)
    settled_ground z p q =
        elim z.finished as (λ b. let y : Plain = record { row = z.row; registers = z.registers; words = z.words; finished = b } in
        ground (step B rows (settled y p q)).1 ≡ ground_of (plain_next rows y)) [
          | true ↦ refl
          | false ↦ settled_obeyed (get_or rows z.row row.Halt) z.row z.registers z.words p q
        ]

    -- a step from above level 0 leaves level 0 as it is
    guessed_ground : (s : State) (g : Level) (gs : List Level) → ground (step B rows (guessed s g gs)).1 ≡ ground (guessed s g gs)
    guessed_ground s g gs =
        let t : State = guessed s g gs in
        let heard : State = record { top = s.top; waiting = g ∷ gs; finished = s.finished; words = s.words; predictor = s.predictor; settler = B.asked s.settler s.top.row (height t) } in
        let x : Row = get_or rows s.top.row row.Halt in
        let bar : Bool = barred x (pending (levels t)) in
        either_way s.finished _ (asked B rows t) _ refl
        (either_way (B.settles s.settler s.top.row (height t)) _ (cond bar (flushed heard) (obeyed B heard x)) _ refl
        (either_way bar (flushed heard) (obeyed B heard x) _ refl (guessed_obeyed x heard g gs)))

    -- a step from level 0 shows what a plain step shows
    settled_event : (x : Row) (r : ℕ) (rs ws p q : List ℕ) → get_or rows r row.Halt ≡ x
        → shown_at_zero B rows (settled (running r rs ws) p q) ≡ plain_event rows (running r rs ws)
    settled_event (row.Set to value) r rs ws p q is = rw is
    settled_event (row.Copy to from) r rs ws p q is = rw is
    settled_event (row.Compute o to a b) r rs ws p q is = rw is
    settled_event (row.Load to base index) r rs ws p q is = rw is
    settled_event (row.Store from base index) r rs ws p q is = rw is
    settled_event (row.Branch t a b target) r rs ws p q is = branch (outcome t (get_or rs a 0) (operand rs b)) (B.guess p r) refl refl
      where
        branch : (out guess : Bool) → outcome t (get_or rs a 0) (operand rs b) ≡ out → B.guess p r ≡ guess
            → shown_at_zero B rows (settled (running r rs ws) p q) ≡ plain_event rows (running r rs ws)
        branch true true o g = simp (is, o, g)
        branch true false o g = simp (is, o, g)
        branch false true o g = simp (is, o, g)
        branch false false o g = simp (is, o, g)
    settled_event (row.Jump target) r rs ws p q is = rw is
    settled_event row.Fence r rs ws p q is = rw is
    settled_event row.Halt r rs ws p q is = rw is

    settled_shown : (z : Plain) (p q : List ℕ) → shown_at_zero B rows (settled z p q) ≡ plain_event rows z
    settled_shown z p q =
        elim z.finished as (λ b. let y : Plain = record { row = z.row; registers = z.registers; words = z.words; finished = b } in
        shown_at_zero B rows (settled y p q) ≡ plain_event rows y) [
          | true ↦ refl
          | false ↦ settled_event (get_or rows z.row row.Halt) z.row z.registers z.words p q refl
        ]

    -- a step from above level 0 shows nothing of it
    guessed_shows : (s : State) (g : Level) (gs : List Level) → s.waiting ≡ g ∷ gs → shown_at_zero B rows s ≡ []
    guessed_shows s g gs some = subst (λ t. shown_at_zero B rows t ≡ []) (sym (is_guessed s g gs some)) refl

    pub settled_step : (s : State) → s.waiting ≡ [] → s.top.stores ≡ [] → level_zero (step B rows s).1 ≡ plain_next rows (level_zero s)
    settled_step s none clean =
        subst (λ t. level_zero (step B rows t).1 ≡ plain_next rows (level_zero t)) (sym (is_settled s none clean)) (ap plain_of (settled_ground (on_top s) s.predictor s.settler))

    pub settled_shows : (s : State) → s.waiting ≡ [] → s.top.stores ≡ [] → shown_at_zero B rows s ≡ plain_event rows (level_zero s)
    settled_shows s none clean =
        subst (λ t. shown_at_zero B rows t ≡ plain_event rows (level_zero t)) (sym (is_settled s none clean)) (settled_shown (on_top s) s.predictor s.settler)

    pub guessed_step : (s : State) (g : Level) (gs : List Level) → s.waiting ≡ g ∷ gs → level_zero (step B rows s).1 ≡ level_zero s
    guessed_step s g gs some = subst (λ t. level_zero (step B rows t).1 ≡ level_zero t) (sym (is_guessed s g gs some)) (ap plain_of (guessed_ground s g gs))

    -- a step leaves nothing pending at level 0
    abbrev StaysClean : State → Type 0
    StaysClean s = (bottom s.top s.waiting).stores ≡ [] → (bottom (step B rows s).1.top (step B rows s).1.waiting).stores ≡ []

    pub bottom_clean : (s : State) → (bottom s.top s.waiting).stores ≡ [] → (bottom (step B rows s).1.top (step B rows s).1.waiting).stores ≡ []
    bottom_clean s = go s.waiting refl
      where
        go : (fs : List Level) → s.waiting ≡ fs → StaysClean s
        go [] none = λ clean.
            subst StaysClean (sym (is_settled s none (top_clean s none clean))) (λ _. ap (λ h. h.lowest.stores) (settled_ground (on_top s) s.predictor s.settler)) clean
        go (g ∷ gs) some = subst StaysClean (sym (is_guessed s g gs some)) (λ clean. ap (λ h. h.lowest.stores) (guessed_ground s g gs) ∙ clean)

    -- what a run shows of level 0, and where level 0 is after it, from a state whose level 0 has nothing pending
    abbrev Invisible : ℕ → State → Type 0
    Invisible n s =
        (k : ℕ) × (level_zero (after B rows n s) ≡ plain_after rows k (level_zero s)) × (run_at_zero B rows n s ≡ plain_run rows k (level_zero s))

    invisible : (n : ℕ) (s : State) → (bottom s.top s.waiting).stores ≡ [] → Invisible n s
    invisible zero s clean = (0, refl, refl)
    invisible (suc n) s clean = go s.waiting refl (invisible n (step B rows s).1 (bottom_clean s clean))
      where
        go : (fs : List Level) → s.waiting ≡ fs → Invisible n (step B rows s).1 → Invisible (suc n) s
        go [] none (k, ends, shown) =
            let top = top_clean s none clean in
            let next = settled_step s none top in
            (suc k, ends ∙ ap (plain_after rows k) next, ap₂ ◌++◌ (settled_shows s none top) (shown ∙ ap (plain_run rows k) next))
        go (g ∷ gs) some (k, ends, shown) =
            let stays = guessed_step s g gs some in
            (k, ends ∙ ap (plain_after rows k) stays, ap₂ ◌++◌ (guessed_shows s g gs some) (shown ∙ ap (plain_run rows k) stays))

pub guessing_invisible : GuessingInvisible
guessing_invisible B rows ws p q n = invisible B rows n (start ws p q) refl
