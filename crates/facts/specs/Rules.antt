-- What a row hands on, to which row and in which mode.
use Rattle.std.specs.Prelude.{ℕ, suc, ◌+◌, ◌-◌, min, max, cond, List, [], ◌∷◌, length, slice_set}
use Rattle.std.specs.Int.Count.{count_leading_zeros}
use Rattle.labels.specs.Kind.{Kind}
use Rattle.routine.specs.Address.{in_window}
use Rattle.routine.specs.declared.rows.Operand.{Operand}
use Rattle.routine.specs.declared.rows.Operand.TheVariants.{Register, Constant}
use Rattle.routine.specs.declared.rows.Operation.{Operation}
use Rattle.routine.specs.declared.rows.Operation.TheVariants as op
use Rattle.routine.specs.declared.rows.Test.{Test}
use Rattle.routine.specs.declared.rows.Test.TheVariants as test
use Rattle.routine.specs.declared.rows.Row.{Row}
use Rattle.routine.specs.declared.rows.Row.TheVariants as row
use Rattle.facts.specs.declared.types.Mode.{Mode}
use Rattle.facts.specs.declared.types.Mode.TheVariants.{Settled, Guessed}
use Rattle.facts.specs.declared.types.Known.{Known}
use Rattle.facts.specs.Order.{knows, known_at}

-- the count of significant bits of a number of 32 bits, 0 for 0
abbrev pub bits_of : ℕ → ℕ
bits_of n = 32 - count_leading_zeros 32 n

-- the width of a computing word's result before it is cut to 32, from the widths of its operands
abbrev pub width_after : Operation → ℕ → Operand → ℕ → ℕ
width_after op.Add a b wb = suc (max a wb)
width_after op.Sub a b wb = 32
width_after op.Mul a b wb = a + wb
width_after op.And a b wb = min a wb
width_after op.Or a b wb = max a wb
width_after op.Xor a b wb = max a wb
width_after op.ShiftLeft a (Constant k) wb = a + k
width_after op.ShiftLeft a (Register r) wb = 32
width_after op.ShiftRight a (Constant k) wb = a - k
width_after op.ShiftRight a (Register r) wb = a
width_after op.Less a b wb = 1
width_after op.Equal a b wb = 1

-- a fact that is handed to a row in a mode
pub record Handed (L : Type 0) : Type 0 where
  pub row : ℕ
  pub mode : Mode
  pub known : List (Known L)

abbrev pub hand : {L : Type 0} → ℕ → Mode → List (Known L) → Handed L
hand r m ks = record { row = r; mode = m; known = ks }

module _ {L : Type 0} (K : Kind L) where
  -- what is known of an operand: a constant depends on nothing
  abbrev pub of_operand : List (Known L) → Operand → Known L
  of_operand ks (Register r) = known_at K ks r
  of_operand ks (Constant k) = knows K.lowest (bits_of k)

  -- a label joined with those of the words of a window, the words from i on being left
  abbrev pub join_from : ℕ → ℕ → ℕ → ℕ → List L → L → L
  join_from words base width i [] l = l
  join_from words base width i (x ∷ xs) l =
      join_from words base width (i + 1) xs (cond (in_window words base width i) (K.join l x) l)

  -- a label joined with those of all words of the window
  abbrev pub join_window : List L → ℕ → ℕ → L → L
  join_window labels base width l = join_from (length labels) base width 0 labels l

  -- what a computing word's result is known by
  abbrev pub result_of : Operation → Known L → Operand → Known L → Known L
  result_of operation a right b = knows (K.join a.label b.label) (min 32 (width_after operation a.width right b.width))

  -- what is known after a row: only the register that it writes differs
  abbrev pub after : List L → Row → List (Known L) → List (Known L)
  after labels (row.Set to value) ks = slice_set ks to (knows K.lowest (bits_of value))
  after labels (row.Copy to from) ks = slice_set ks to (known_at K ks from)
  after labels (row.Compute operation to left right) ks = slice_set ks to (result_of operation (known_at K ks left) right (of_operand ks right))
  after labels (row.Load to base index) ks =
      slice_set ks to (knows (join_window labels base (known_at K ks index).width (known_at K ks index).label) 32)
  after labels (row.Store from base index) ks = ks
  after labels (row.Branch test left right target) ks = ks
  after labels (row.Jump target) ks = ks
  after labels row.Fence ks = ks
  after labels row.Halt ks = ks

  -- a register's width replaced by the smaller of two
  abbrev pub narrowed : List (Known L) → ℕ → ℕ → List (Known L)
  narrowed ks r w = slice_set ks r (knows (known_at K ks r).label (min (known_at K ks r).width w))

  -- what the test's passing tells, on the target's side
  abbrev pub at_target : Test → ℕ → Operand → List (Known L) → List (Known L)
  at_target test.Less a (Register b) ks = narrowed ks a (known_at K ks b).width
  at_target test.Less a (Constant k) ks = narrowed ks a (bits_of (k - 1))
  at_target test.Equal a (Register b) ks = narrowed (narrowed ks a (known_at K ks b).width) b (known_at K ks a).width
  at_target test.Equal a (Constant k) ks = narrowed ks a (bits_of k)

  -- what the test's failing tells, on the next row's side
  abbrev pub at_next : Test → ℕ → Operand → List (Known L) → List (Known L)
  at_next test.Less a (Register b) ks = narrowed ks b (known_at K ks a).width
  at_next test.Less a (Constant k) ks = ks
  at_next test.Equal a b ks = ks

  -- a plain row hands the fact after it to the next row, in its own mode
  abbrev pub onward : List L → Row → ℕ → Mode → List (Known L) → List (Handed L)
  onward labels x i m ks = hand (i + 1) m (after labels x ks) ∷ []

  -- all that row i hands on. A branch hands its fact as it is to both sides in guessed mode, and where it is settled
  -- also narrowed in settled mode; a fence hands on no guessed fact; a halt hands on none
  abbrev pub hands : List L → Row → ℕ → Mode → List (Known L) → List (Handed L)
  hands labels (row.Set to value) i m ks = onward labels (row.Set to value) i m ks
  hands labels (row.Copy to from) i m ks = onward labels (row.Copy to from) i m ks
  hands labels (row.Compute o to a b) i m ks = onward labels (row.Compute o to a b) i m ks
  hands labels (row.Load to k a) i m ks = onward labels (row.Load to k a) i m ks
  hands labels (row.Store v k a) i m ks = onward labels (row.Store v k a) i m ks
  hands labels (row.Branch t a b target) i Settled ks =
      hand target Guessed ks ∷ hand (i + 1) Guessed ks ∷ hand target Settled (at_target t a b ks) ∷ hand (i + 1) Settled (at_next t a b ks) ∷ []
  hands labels (row.Branch t a b target) i Guessed ks = hand target Guessed ks ∷ hand (i + 1) Guessed ks ∷ []
  hands labels (row.Jump target) i m ks = hand target m ks ∷ []
  hands labels row.Fence i Settled ks = hand (i + 1) Settled ks ∷ []
  hands labels row.Fence i Guessed ks = []
  hands labels row.Halt i m ks = []
