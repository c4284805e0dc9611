-- What a row does, on any machine: where it goes on, what it makes of the registers, what it shows, and what it stores.
use Rattle.std.specs.Prelude.{ℕ, ◌+◌, Bool, true, false, cond, List, [], ◌∷◌, length, slice_index, slice_set}
use Rattle.routine.specs.Address.{address}
use Rattle.routine.specs.Effects.{operand, computed, outcome, takes}
use Rattle.routine.specs.declared.rows.Row.{Row}
use Rattle.routine.specs.declared.rows.Row.TheVariants as row
use Rattle.promise.specs.declared.events.Letter.{Letter}
use Rattle.promise.specs.declared.events.Letter.TheVariants as letter

-- a store: an address and a value
pub record Write : Type 0 where
  pub address : ℕ
  pub value : ℕ

pub record Move : Type 0 where
  pub to : ℕ
  pub registers : List ℕ
  pub letter : Letter
  pub number : ℕ
  pub writes : List Write

abbrev moving : ℕ → List ℕ → Letter → ℕ → List Write → Move
moving r rs l x ws = record { to = r; registers = rs; letter = l; number = x; writes = ws }

-- the side of a branch that a truth value names: the target, or the next row
abbrev pub side : Bool → ℕ → ℕ → ℕ
side b target here = cond b target (here + 1)

-- the move of a row at a row number, with registers and the words that they see
abbrev pub move : Row → ℕ → List ℕ → List ℕ → Move
move (row.Set to value) here rs ws = moving (here + 1) (takes rs to value) letter.Other 0 []
move (row.Copy to from) here rs ws = moving (here + 1) (takes rs to (slice_index rs from)) letter.Other 0 []
move (row.Compute o to a b) here rs ws = moving (here + 1) (takes rs to (computed o (slice_index rs a) (operand rs b))) letter.Other 0 []
move (row.Load to base index) here rs ws =
    let a = address (length ws) base (slice_index rs index) in moving (here + 1) (takes rs to (slice_index ws a)) letter.Read a []
move (row.Store from base index) here rs ws =
    let a = address (length ws) base (slice_index rs index) in
    moving (here + 1) rs letter.Store a (record { address = a; value = slice_index rs from } ∷ [])
move (row.Branch t a b target) here rs ws =
    let r = side (outcome t (slice_index rs a) (operand rs b)) target here in moving r rs letter.Branch r []
move (row.Jump target) here rs ws = moving target rs letter.Jump target []
move row.Fence here rs ws = moving (here + 1) rs letter.Other 0 []
move row.Halt here rs ws = moving here rs letter.Halt 0 []

-- a list of words with some stores laid over, in order; a store past the end changes no word
abbrev pub laid : List Write → List ℕ → List ℕ
laid [] ws = ws
laid (w ∷ rest) ws = laid rest (slice_set ws w.address w.value)

-- whether a row halts
abbrev pub halts : Row → Bool
halts (row.Set to value) = false
halts (row.Copy to from) = false
halts (row.Compute o to a b) = false
halts (row.Load to base index) = false
halts (row.Store from base index) = false
halts (row.Branch t a b target) = false
halts (row.Jump target) = false
halts row.Fence = false
halts row.Halt = true
