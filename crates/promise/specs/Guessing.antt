-- The guessing machine, for any rules of a predictor and a settler.
use Rattle.std.specs.Prelude.{ℕ, zero, suc, ◌+◌, ◌-◌, Bool, true, false, cond, not, ◌||◌, List, [], ◌∷◌, ◌++◌, length, drop, replicate, Some, None, Option, nat_le, slice_index, slice_index_or}
use Rattle.routine.specs.declared.rows.Row.{Row}
use Rattle.routine.specs.declared.rows.Row.TheVariants as row
use Rattle.promise.specs.declared.events.Letter.{Letter}
use Rattle.promise.specs.declared.events.Letter.TheVariants as letter
use Rattle.promise.specs.declared.events.Event.{Event}
use Rattle.promise.specs.Moves.{Write, Move, move, laid, halts, side}
use Rattle.routine.specs.Effects.{operand, outcome}

-- the fixed rules of a predictor's and a settler's build. A predictor guesses by its list and the row (true for the target), and learns
-- by list, row and outcome; a settler answers, and moves its list, by list, row and level
pub record Build : Type 0 where
  pub guess : List ℕ → ℕ → Bool
  pub learn : List ℕ → ℕ → Bool → List ℕ
  pub settles : List ℕ → ℕ → ℕ → Bool
  pub asked : List ℕ → ℕ → ℕ → List ℕ

-- a level: its row, its registers, and its stores that are not yet written, oldest first
pub record Level : Type 0 where
  pub row : ℕ
  pub registers : List ℕ
  pub stores : List Write

-- the top level, the levels that wait below it (the nearest first), and what all levels share
pub record State : Type 0 where
  pub top : Level
  pub waiting : List Level
  pub finished : Bool
  pub words : List ℕ
  pub predictor : List ℕ
  pub settler : List ℕ

-- a level by its parts
abbrev pub level : ℕ → List ℕ → List Write → Level
level r rs ws = record { row = r; registers = rs; stores = ws }

-- how many levels there are above 0
abbrev pub height : State → ℕ
height s = length s.waiting

-- it starts at level 0 and row 0, registers 0, nothing pending
abbrev pub start : List ℕ → List ℕ → List ℕ → State
start ws p q = record { top = level 0 (replicate 16 0) []; waiting = []; finished = false; words = ws; predictor = p; settler = q }

-- the words that the topmost of some levels sees: the memory's with the pending stores laid over, the lowest level's first
abbrev pub seen : List Level → List ℕ → List ℕ
seen [] ws = ws
seen (f ∷ fs) ws = laid f.stores (seen fs ws)

-- all levels, the top first
abbrev pub levels : State → List Level
levels s = s.top ∷ s.waiting

-- the words at a level
abbrev pub words_at : ℕ → State → List ℕ
words_at n s = seen (drop (height s - n) (levels s)) s.words

-- how many stores are pending over all levels
abbrev pub pending : List Level → ℕ
pending [] = 0
pending (f ∷ fs) = length f.stores + pending fs

-- the lowest level
abbrev pub bottom : Level → List Level → Level
bottom f [] = f
bottom f (g ∷ gs) = bottom g gs

-- what a step answers: an event, or nothing where it is declined
abbrev pub Answer : Type 0
Answer = Option Event

-- an event as an answer
abbrev pub shows : Letter → ℕ → ℕ → ℕ → Answer
shows l r n x = Some (record { letter = l; row = r; level = n; number = x })

-- the machine with other levels
abbrev with_levels : State → Level → List Level → State
with_levels s f fs = record { top = f; waiting = fs; finished = s.finished; words = s.words; predictor = s.predictor; settler = s.settler }

-- drops every level above 0
abbrev pub flushed : State → Answer × State
flushed s = (shows letter.Flush s.top.row 0 0, with_levels s (bottom s.top s.waiting) [])

-- whether a row is not carried out above level 0: a fence, a halt, or a store with 32 stores pending
abbrev pub barred : Row → ℕ → Bool
barred (row.Set to value) n = false
barred (row.Copy to from) n = false
barred (row.Compute o to a b) n = false
barred (row.Load to base index) n = false
barred (row.Store from base index) n = nat_le 32 n
barred (row.Branch t a b target) n = false
barred (row.Jump target) n = false
barred row.Fence n = true
barred row.Halt n = true

-- the machine after a move of its top level: at level 0 a store is written, above it is pending
abbrev moved : State → Move → Bool → State
moved s m halted = elim s.waiting [
  | [] ↦ record { top = level m.to m.registers s.top.stores; waiting = []; finished = halted; words = laid m.writes s.words; predictor = s.predictor; settler = s.settler }
  | g ∷ gs ↦ with_levels s (level m.to m.registers (s.top.stores ++ m.writes)) (g ∷ gs)
]

-- carries out the top level's row
abbrev pub carried : State → Row → Answer × State
carried s x =
    let m = move x s.top.row s.top.registers (seen (levels s) s.words) in
    (shows m.letter s.top.row (height s) m.number, moved s m (halts x))

-- the machine with the predictor's list after learning
abbrev taught : State → List ℕ → State
taught s p = record { top = s.top; waiting = s.waiting; finished = s.finished; words = s.words; predictor = p; settler = s.settler }

-- whether a guess is the outcome
abbrev pub same : Bool → Bool → Bool
same true b = b
same false b = not b

-- the level waits on the outcome's side, and one more level starts on the other with the same registers
abbrev pub misled : State → ℕ → ℕ → Answer × State
misled s right wrong = (
  shows letter.Wrong s.top.row (height s + 1) wrong,
  with_levels s (level wrong s.top.registers []) (level right s.top.registers s.top.stores ∷ s.waiting),
)

-- a branch: the predictor is asked and learns; a right guess, or level 8, follows the outcome
abbrev pub branched : Build → State → Row → ℕ → Bool → Answer × State
branched B s x target out =
    let r = s.top.row in
    let guess = B.guess s.predictor r in
    let s' = taught s (B.learn s.predictor r out) in
    cond (same out guess || nat_le 8 (height s)) (carried s' x) (misled s' (side out target r) (side guess target r))

-- a branch goes by the predictor, any other row is carried out
abbrev pub obeyed : Build → State → Row → Answer × State
obeyed B s (row.Branch t a b target) =
    branched B s (row.Branch t a b target) target (outcome t (slice_index s.top.registers a) (operand s.top.registers b))
obeyed B s (row.Set to value) = carried s (row.Set to value)
obeyed B s (row.Copy to from) = carried s (row.Copy to from)
obeyed B s (row.Compute o to a b) = carried s (row.Compute o to a b)
obeyed B s (row.Load to base index) = carried s (row.Load to base index)
obeyed B s (row.Store from base index) = carried s (row.Store from base index)
obeyed B s (row.Jump target) = carried s (row.Jump target)
obeyed B s row.Fence = carried s row.Fence
obeyed B s row.Halt = carried s row.Halt

-- the row at which the top level stands
abbrev row_of : List Row → State → Row
row_of rows s = slice_index_or rows s.top.row row.Halt

-- the machine with the settler's list after being asked
abbrev asking : State → List ℕ → State
asking s q = record { top = s.top; waiting = s.waiting; finished = s.finished; words = s.words; predictor = s.predictor; settler = q }

-- above level 0 the settler is asked first, and a yes drops the top level
abbrev pub asked : Build → List Row → State → Answer × State
asked B rows s = elim s.waiting [
  | [] ↦ obeyed B s (row_of rows s)
  | g ∷ gs ↦
      let s' = asking s (B.asked s.settler s.top.row (height s)) in
      cond (B.settles s.settler s.top.row (height s))
      (shows letter.Settle s.top.row (length gs) 0, with_levels s' g gs)
      (cond (barred (row_of rows s) (pending (levels s))) (flushed s') (obeyed B s' (row_of rows s)))
]

-- a step; a finished machine declines
abbrev pub step : Build → List Row → State → Answer × State
step B rows s = cond s.finished (None, s) (asked B rows s)

-- a run of n steps: its answers, and where it ends
abbrev pub answers : Build → List Row → ℕ → State → List Answer
answers B rows zero s = []
answers B rows (suc n) s = (step B rows s).0 ∷ answers B rows n (step B rows s).1

abbrev pub after : Build → List Row → ℕ → State → State
after B rows zero s = s
after B rows (suc n) s = after B rows n (step B rows s).1
