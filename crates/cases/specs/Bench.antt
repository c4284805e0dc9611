-- The bench table, as a statement of the rules.
use Rattle.std.specs.Prelude.{◌≡◌, ℕ, List, [], ◌∷◌, ◌++◌, replicate, None, ◌==◌, nat_le, slice_index, slice_set}
use Rattle.labels.specs.declared.makers.MakerSet.{MakerSet}
use Rattle.labels.specs.Makers.{sets, of_members}
use Rattle.routine.specs.declared.rows.Operand.TheVariants.{Constant}
use Rattle.routine.specs.declared.rows.Operation.TheVariants as op
use Rattle.routine.specs.declared.rows.Test.TheVariants as test
use Rattle.routine.specs.declared.rows.Row.{Row}
use Rattle.routine.specs.declared.rows.Row.TheVariants as row
use Rattle.facts.specs.declared.types.Mode.{Mode}
use Rattle.facts.specs.declared.types.Mode.TheVariants.{Settled, Guessed}
use Rattle.facts.specs.declared.types.Reason.{Reason}
use Rattle.facts.specs.declared.types.Reason.TheVariants as reason
use Rattle.judging.specs.declared.verdict.Leak.{Leak}
use Rattle.judging.specs.declared.verdict.Verdict.{Verdict}
use Rattle.judging.specs.declared.verdict.Verdict.TheVariants.{C, G, L}
use Rattle.judging.specs.Verdicts.{Gives}
use Rattle.promise.specs.declared.events.Letter.TheVariants as letter
use Rattle.promise.specs.Guessing.{Build, Answer, shows, start, answers}
use Rattle.cases.specs.declared.Case.{Case}
use Rattle.cases.specs.declared.Case.TheVariants.{OpenCard, Fenced, Masked, MaskedWide, FencedPast, StoredInside, StoredOutside}

-- 64 words, of which 16 to 31 depend on maker 0
abbrev pub bench_labels : List MakerSet
bench_labels = replicate 16 (of_members 0) ++ (replicate 16 (of_members 1) ++ replicate 32 (of_members 0))

-- the index is taken from word 48, and row 4 is gone to where it is below the bound
abbrev entry : ℕ → List Row
entry bound = row.Set 0 0 ∷ row.Load 1 48 0 ∷ row.Branch test.Less 1 (Constant bound) 4 ∷ row.Halt ∷ []

-- a word is read at the index, and another at what it holds
abbrev reads : List Row
reads = row.Load 2 0 1 ∷ row.Load 3 32 2 ∷ row.Halt ∷ []

-- a word of maker 0 is stored at a base
abbrev storing : ℕ → List Row
storing base = row.Set 0 0 ∷ row.Load 1 16 0 ∷ row.Store 1 base 0 ∷ row.Halt ∷ []

-- the index keeps the bits of a mask
abbrev masked : ℕ → Row
masked mask = row.Compute op.And 1 1 (Constant mask)

abbrev pub rows_in : Case → List Row
rows_in OpenCard = entry 16 ++ reads
rows_in Fenced = entry 16 ++ (row.Fence ∷ reads)
rows_in Masked = entry 16 ++ (masked 15 ∷ reads)
rows_in MaskedWide = entry 16 ++ (masked 31 ∷ reads)
rows_in FencedPast = entry 17 ++ (row.Fence ∷ reads)
rows_in StoredInside = storing 31
rows_in StoredOutside = storing 32

abbrev leak : ℕ → Mode → Reason → Leak
leak r m why = record { row = r; mode = m; reason = why }

-- the verdict of each case
abbrev pub verdict_in : Case → Verdict
verdict_in OpenCard = L (leak 5 Guessed reason.Address)
verdict_in Fenced = C
verdict_in Masked = C
verdict_in MaskedWide = L (leak 6 Guessed reason.Address)
verdict_in FencedPast = G (leak 6 Settled reason.Address)
verdict_in StoredInside = C
verdict_in StoredOutside = L (leak 2 Settled reason.Spill)

-- a predictor whose list holds the side that it always guesses, 1 for the target (Steady), and a settler whose list holds the level
-- from which it always says yes (Deep)
abbrev pub steady_and_deep : Build
steady_and_deep = record {
  guess = λ p r. (slice_index p 0 == 1);
  learn = λ p r taken. p;
  settles = λ q r n. nat_le (slice_index q 0) n;
  asked = λ q r n. q;
}

-- word 48 holds 20, and word 20 holds 7
abbrev pub bench_words : List ℕ
bench_words = slice_set (slice_set (replicate 64 0) 48 20) 20 7

-- P8: what the open card shows on the guessing machine, guessed to the target and settled from level 9
abbrev pub eighth_answers : List Answer
eighth_answers =
    shows letter.Other 0 0 0 ∷ shows letter.Read 1 0 48 ∷ shows letter.Wrong 2 1 4 ∷ shows letter.Read 4 1 20 ∷ shows letter.Read 5 1 39
    ∷ shows letter.Flush 6 0 0 ∷ shows letter.Halt 3 0 0 ∷ None ∷ []

-- for a reader who may read no maker's words, the rules give each case its verdict; and the open card runs as it should
abbrev pub BenchTable : Type 0
BenchTable =
    ((case : Case) → Gives sets bench_labels (rows_in case) (of_members 0) (verdict_in case))
    × (answers steady_and_deep (rows_in OpenCard) 8 (start bench_words (1 ∷ []) (9 ∷ [])) ≡ eighth_answers)
