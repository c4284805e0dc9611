use Rattle.std.proofs.Common.{◌≡◌, map, take}
use Rattle.answers.proofs.answering.fill_labels.Given as goal

abbrev pub invariant-loop-i : goal.invariant-loop-i
invariant-loop-i g l = take l.i l.labels ≡ map g.L.Numbered.numbered (take l.i l.numbers)
