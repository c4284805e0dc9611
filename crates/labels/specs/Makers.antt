-- Sets of makers as a kind of label. A maker is one whose figures a value may depend on; makers are numbered from 0 to 15.
use Rattle.std.specs.Prelude.{ℕ, ◌==◌, bit_and, bit_or, count_ones}
use Rattle.labels.specs.Kind.{Kind}
use Rattle.labels.specs.declared.makers.MakerSet.{MakerSet}

-- the set whose members' powers of two add up to the number: maker i is a member where digit i is set
abbrev pub of_members : ℕ → MakerSet
of_members n = record { members = n }

-- ordered by inclusion, joined by union; no maker is lowest, and a set ranks by how many makers it has
abbrev pub sets : Kind MakerSet
sets = record {
  below = λ a b. (bit_and a.members b.members == a.members);
  join = λ a b. of_members (bit_or a.members b.members);
  lowest = of_members 0;
  rank = λ a. count_ones a.members;
  greatest = 16;
}
