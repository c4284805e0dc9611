-- Labels by the numbers that cards write for them. No well-formed card has a number past its kind's last; it would stand for the highest label.
use Rattle.std.specs.Prelude.{ℕ, min}
use Rattle.labels.specs.declared.makers.MakerSet.{MakerSet}
use Rattle.labels.specs.declared.grades.Grade.{Grade}
use Rattle.labels.specs.Makers.{of_members}
use Rattle.labels.specs.Grades.{grade_of}

abbrev pub makers_numbered : ℕ → MakerSet
makers_numbered n = of_members (min n 65535)

abbrev pub grade_numbered : ℕ → Grade
grade_numbered n = grade_of (min n 15)
