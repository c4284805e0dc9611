-- The plain machine: no guessing.
use Rattle.std.specs.Prelude.{ℕ, zero, suc, Bool, false, cond, List, [], ◌∷◌, ◌++◌, replicate, slice_index_or}
use Rattle.routine.specs.declared.rows.Row.{Row}
use Rattle.routine.specs.declared.rows.Row.TheVariants as row
use Rattle.promise.specs.declared.events.Event.{Event}
use Rattle.promise.specs.Moves.{Move, move, laid, halts}

pub record Plain : Type 0 where
  pub row : ℕ
  pub registers : List ℕ
  pub words : List ℕ
  pub finished : Bool

-- it starts at row 0 with registers 0
abbrev pub plain_start : List ℕ → Plain
plain_start ws = record { row = 0; registers = replicate 16 0; words = ws; finished = false }

abbrev row_of : List Row → Plain → Row
row_of rows s = slice_index_or rows s.row row.Halt

abbrev move_of : List Row → Plain → Move
move_of rows s = move (row_of rows s) s.row s.registers s.words

-- the event of a step; a finished machine shows none
abbrev pub plain_event : List Row → Plain → List Event
plain_event rows s =
    cond s.finished [] (record { letter = (move_of rows s).letter; row = s.row; level = 0; number = (move_of rows s).number } ∷ [])

-- the state after a step; a finished machine stays as it is
abbrev pub plain_next : List Row → Plain → Plain
plain_next rows s =
    cond s.finished s
    (record { row = (move_of rows s).to; registers = (move_of rows s).registers; words = laid (move_of rows s).writes s.words; finished = halts (row_of rows s) })

-- the state after n steps
abbrev pub plain_after : List Row → ℕ → Plain → Plain
plain_after rows zero s = s
plain_after rows (suc n) s = plain_after rows n (plain_next rows s)

-- a plain run of a length: the events of that many steps
abbrev pub plain_run : List Row → ℕ → Plain → List Event
plain_run rows zero s = []
plain_run rows (suc n) s = plain_event rows s ++ plain_run rows n (plain_next rows s)
