-- What a verdict promises of two machines.
use Rattle.std.specs.Prelude.{◌≡◌, ℕ, ◌<◌, ◌≤◌, true, List, length, slice_index, slice_index_or}
use Rattle.labels.specs.Kind.{Kind}
use Rattle.routine.specs.Limits.{within}
use Rattle.routine.specs.declared.rows.Row.{Row}
use Rattle.facts.specs.declared.types.Sought.TheVariants.{AnyLeak, SpillOrGuessed}
use Rattle.judging.specs.Verdicts.{Passes}
use Rattle.promise.specs.Plain.{plain_start, plain_run}
use Rattle.promise.specs.Guessing.{Build, State, start, height, words_at, answers, after}

-- plain runs on two lists of words show the same at every length
abbrev pub PlainAlike : List Row → List ℕ → List ℕ → Type 0
PlainAlike rows ws vs = (n : ℕ) → plain_run rows n (plain_start ws) ≡ plain_run rows n (plain_start vs)

module _ {L : Type 0} (K : Kind L) (labels : List L) (reader : L) where
  -- two lists of words of one size that agree wherever the reader may read
  pub record Agree (ws vs : List ℕ) : Type 0 where
    pub same_size : length ws ≡ length vs
    pub readable : (i : ℕ) → i < length labels → K.below (slice_index_or labels i K.lowest) reader ≡ true → slice_index ws i ≡ slice_index vs i

  -- what the reader can tell of two machines is the same, however many steps they take
  pub record Alike (B : Build) (rows : List Row) (s t : State) : Type 0 where
    pub same_answers : (n : ℕ) → answers B rows n s ≡ answers B rows n t
    pub same_levels : (n : ℕ) → height (after B rows n s) ≡ height (after B rows n t)
    pub same_words : (n l : ℕ) → l ≤ height (after B rows n s) → Agree (words_at l (after B rows n s)) (words_at l (after B rows n t))

  -- The promise, whole. A taken routine; any build; equal lists of predictor and settler; two lists of words of the routine's size that
  -- agree wherever the reader may read; any number of steps
  pub record Promise (rows : List Row) : Type 0 where
    pub clear : Passes K labels rows reader AnyLeak
        → (B : Build) (ws vs p q : List ℕ) → length ws ≡ length labels → Agree ws vs → Alike B rows (start ws p q) (start vs p q)
    pub guarded : Passes K labels rows reader SpillOrGuessed
        → (B : Build) (ws vs p q : List ℕ) → length ws ≡ length labels → Agree ws vs → PlainAlike rows ws vs
        → Alike B rows (start ws p q) (start vs p q)

-- of every taken routine and every reader
abbrev pub PromiseKept : {L : Type 0} → Kind L → Type 0
PromiseKept {L} K = (labels : List L) (reader : L) (rows : List Row) → within rows (length labels) (length labels) ≡ true → Promise K labels reader rows
