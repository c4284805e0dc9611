-- Guessing is invisible: level 0 of the guessing machine is the plain machine.
use Rattle.std.specs.Prelude.{◌≡◌, ℕ, zero, suc, List, [], ◌∷◌, ◌++◌, Some, None}
use Rattle.routine.specs.declared.rows.Row.{Row}
use Rattle.promise.specs.declared.events.Letter.{Letter}
use Rattle.promise.specs.declared.events.Letter.TheVariants as letter
use Rattle.promise.specs.declared.events.Event.{Event}
use Rattle.promise.specs.Plain.{Plain, plain_start, plain_after, plain_run}
use Rattle.promise.specs.Guessing.{Build, Answer, State, start, bottom, step, after}

-- level 0 alone, as a plain machine
abbrev pub level_zero : State → Plain
level_zero s = record {
  row = (bottom s.top s.waiting).row;
  registers = (bottom s.top s.waiting).registers;
  words = s.words;
  finished = s.finished;
}

-- an event as the plain machine shows it: a W stands for the B of the outcome, where level 0 now waits
abbrev plain_letter : Letter → Letter
plain_letter letter.Wrong = letter.Branch
plain_letter letter.Settle = letter.Settle
plain_letter letter.Flush = letter.Flush
plain_letter letter.Read = letter.Read
plain_letter letter.Store = letter.Store
plain_letter letter.Branch = letter.Branch
plain_letter letter.Jump = letter.Jump
plain_letter letter.Halt = letter.Halt
plain_letter letter.Other = letter.Other

abbrev plain_number : Letter → ℕ → ℕ → ℕ
plain_number letter.Wrong number outcome = outcome
plain_number letter.Settle number outcome = number
plain_number letter.Flush number outcome = number
plain_number letter.Read number outcome = number
plain_number letter.Store number outcome = number
plain_number letter.Branch number outcome = number
plain_number letter.Jump number outcome = number
plain_number letter.Halt number outcome = number
plain_number letter.Other number outcome = number

abbrev plainly : Answer → State → List Event
plainly None s = []
plainly (Some e) s = record { letter = plain_letter e.letter; row = e.row; level = 0; number = plain_number e.letter e.number (bottom s.top s.waiting).row } ∷ []

-- what a step shows of level 0: nothing, if the machine stands above it
abbrev pub shown_at_zero : Build → List Row → State → List Event
shown_at_zero B rows s = elim s.waiting [
  | [] ↦ plainly (step B rows s).0 (step B rows s).1
  | g ∷ gs ↦ []
]

-- what a run shows of level 0
abbrev pub run_at_zero : Build → List Row → ℕ → State → List Event
run_at_zero B rows zero s = []
run_at_zero B rows (suc n) s = shown_at_zero B rows s ++ run_at_zero B rows n (step B rows s).1

-- after any number of steps level 0 is the plain machine after some number of steps, and has shown what that has shown
abbrev pub GuessingInvisible : Type 0
GuessingInvisible = (B : Build) (rows : List Row) (ws p q : List ℕ) (n : ℕ)
    → (k : ℕ) × (level_zero (after B rows n (start ws p q)) ≡ plain_after rows k (plain_start ws)) × (run_at_zero B rows n (start ws p q) ≡ plain_run rows k (plain_start ws))
