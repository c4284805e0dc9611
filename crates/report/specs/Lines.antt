-- The lines that are printed, byte by byte.
use Rattle.std.specs.Prelude.{ℕ, List, [], ◌∷◌, ◌++◌, codes, decimal}
use Rattle.facts.specs.declared.types.Mode.{Mode}
use Rattle.facts.specs.declared.types.Mode.TheVariants.{Settled, Guessed}
use Rattle.facts.specs.declared.types.Reason.{Reason}
use Rattle.facts.specs.declared.types.Reason.TheVariants.{Address, Branch, Spill}
use Rattle.judging.specs.declared.verdict.Leak.{Leak}
use Rattle.judging.specs.declared.verdict.Verdict.{Verdict}
use Rattle.judging.specs.declared.verdict.Verdict.TheVariants.{C, G, L}
use Rattle.refusals.specs.declared.cards.CardRefusal.{CardRefusal}
use Rattle.refusals.specs.ToldOfCards.{told_of}

-- the word for how a leaking row is reached
abbrev pub mode_word : Mode → List ℕ
mode_word Settled = codes "settled"
mode_word Guessed = codes "guessed"

-- the word for why it leaks
abbrev pub reason_word : Reason → List ℕ
reason_word Address = codes "address"
reason_word Branch = codes "branch"
reason_word Spill = codes "spill"

-- the byte that ends a line
abbrev pub newline : List ℕ
newline = 10 ∷ []

-- the line that begins with a text and then tells a leak: its row, its mode and its reason, parted by commas
abbrev pub leak_line : List ℕ → Leak → List ℕ
leak_line start leak = start ++ decimal leak.row ++ codes "," ++ mode_word leak.mode ++ codes "," ++ reason_word leak.reason ++ newline

-- the line of a verdict: its letter and the leak that it names, with dashes where it names none
abbrev pub verdict_line : Verdict → List ℕ
verdict_line C = codes "verdict,C,-,-,-" ++ newline
verdict_line (G leak) = leak_line (codes "verdict,G,") leak
verdict_line (L leak) = leak_line (codes "verdict,L,") leak

-- the line of a refusal: its number, and the line and the field of the card that it blames, 0 where it blames none
abbrev pub declined_line : CardRefusal → List ℕ
declined_line refusal = codes "declined," ++ decimal (told_of refusal).number ++ codes "," ++ decimal (told_of refusal).line ++ codes "," ++ decimal (told_of refusal).field ++ newline
