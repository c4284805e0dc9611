-- What leaks at a row, under what is known there.
use Rattle.std.specs.Prelude.{ℕ, ◌+◌, Bool, true, false, cond, not, ◌&&◌, ◌||◌, List, [], ◌∷◌, length, Some, None, Option}
use Rattle.labels.specs.Kind.{Kind}
use Rattle.routine.specs.Address.{in_window}
use Rattle.routine.specs.declared.rows.Operand.{Operand}
use Rattle.routine.specs.declared.rows.Operand.TheVariants.{Register, Constant}
use Rattle.routine.specs.declared.rows.Row.{Row}
use Rattle.routine.specs.declared.rows.Row.TheVariants as row
use Rattle.facts.specs.declared.types.Mode.{Mode}
use Rattle.facts.specs.declared.types.Mode.TheVariants.{Settled, Guessed}
use Rattle.facts.specs.declared.types.Reason.{Reason}
use Rattle.facts.specs.declared.types.Reason.TheVariants as reason
use Rattle.facts.specs.declared.types.Sought.{Sought}
use Rattle.facts.specs.declared.types.Sought.TheVariants.{AnyLeak, SpillOrGuessed}
use Rattle.facts.specs.declared.types.Known.{Known}
use Rattle.facts.specs.Order.{known_at}

-- whether a search is for leaks of a mode and a reason
abbrev pub counts : Sought → Mode → Reason → Bool
counts AnyLeak m why = true
counts SpillOrGuessed Guessed why = true
counts SpillOrGuessed Settled reason.Address = false
counts SpillOrGuessed Settled reason.Branch = false
counts SpillOrGuessed Settled reason.Spill = true

-- the first reason that passes a test: address, branch, spill
abbrev pub first_reason : (Reason → Bool) → Option Reason
first_reason p = cond (p reason.Address) (Some reason.Address) (cond (p reason.Branch) (Some reason.Branch) (cond (p reason.Spill) (Some reason.Spill) None))

module _ {L : Type 0} (K : Kind L) where
  -- whether the reader may not read what a register depends on
  abbrev pub hidden : L → List (Known L) → ℕ → Bool
  hidden reader ks r = not (K.below (known_at K ks r).label reader)

  abbrev pub hidden_operand : L → List (Known L) → Operand → Bool
  hidden_operand reader ks (Register r) = hidden reader ks r
  hidden_operand reader ks (Constant k) = false

  -- whether some word of the window, the words from i on being left, has a label that l is not at or below
  abbrev pub spills_from : ℕ → ℕ → ℕ → ℕ → L → List L → Bool
  spills_from words base width i l [] = false
  spills_from words base width i l (x ∷ xs) = (in_window words base width i && not (K.below l x)) || spills_from words base width (i + 1) l xs

  -- whether a value of label l, stored in the window, may come to a word that does not admit it
  abbrev pub spills : List L → ℕ → ℕ → L → Bool
  spills labels base width l = spills_from (length labels) base width 0 l labels

  -- whether a row leaks for a reason: the index of a load or store, or a compared register, is hidden from the reader, or a store spills
  abbrev pub leaks : List L → L → Row → List (Known L) → Reason → Bool
  leaks labels reader (row.Set to value) ks why = false
  leaks labels reader (row.Copy to from) ks why = false
  leaks labels reader (row.Compute o to a b) ks why = false
  leaks labels reader (row.Load to k a) ks reason.Address = hidden reader ks a
  leaks labels reader (row.Load to k a) ks reason.Branch = false
  leaks labels reader (row.Load to k a) ks reason.Spill = false
  leaks labels reader (row.Store v k a) ks reason.Address = hidden reader ks a
  leaks labels reader (row.Store v k a) ks reason.Branch = false
  leaks labels reader (row.Store v k a) ks reason.Spill = spills labels k (known_at K ks a).width (known_at K ks v).label
  leaks labels reader (row.Branch t a b target) ks reason.Address = false
  leaks labels reader (row.Branch t a b target) ks reason.Branch = hidden reader ks a || hidden_operand reader ks b
  leaks labels reader (row.Branch t a b target) ks reason.Spill = false
  leaks labels reader (row.Jump target) ks why = false
  leaks labels reader row.Fence ks why = false
  leaks labels reader row.Halt ks why = false

  -- whether a row has a leak that is sought
  abbrev pub sought_leak : List L → L → Row → Mode → List (Known L) → Sought → Reason → Bool
  sought_leak labels reader x m ks sought why = leaks labels reader x ks why && counts sought m why
