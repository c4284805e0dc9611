use Rattle.std.proofs.Common.{◌≡◌, ◌++◌, drop}
use Rattle.std.specs.List.{flat_map}
use Rattle.report.proofs.line.Line.of.Given as goal

-- the line and the parts to come make the whole text
abbrev pub invariant-loop-part : goal.invariant-loop-part
invariant-loop-part l = flat_map (λ part. part.now) l.parts ≡ l.text.bytes ++ flat_map (λ part. part.now) (drop l.part-index l.parts)
