-- Grades as a kind of label. A grade says how closely a value is held, by a number from 0 to 15.
use Rattle.std.specs.Prelude.{◌≡◌, ℕ, ◌<◌, ◌≤◌, cond, [], ◌∷◌, Ok, Err, Result, MatchResult, nat_le, slice_index_or}
use Rattle.refusals.specs.declared.Refusal.{Refusal}
use Rattle.refusals.specs.declared.Refusal.TheVariants.{GradeRange}
use Rattle.labels.specs.Kind.{Kind}
use Rattle.labels.specs.declared.grades.Grade.{Grade}
use Rattle.labels.specs.declared.grades.Grade.TheVariants.{G0, G1, G2, G3, G4, G5, G6, G7, G8, G9, G10, G11, G12, G13, G14, G15}

-- how high a grade stands, from 0 to 15
abbrev pub number_of : Grade → ℕ
number_of G0 = 0
number_of G1 = 1
number_of G2 = 2
number_of G3 = 3
number_of G4 = 4
number_of G5 = 5
number_of G6 = 6
number_of G7 = 7
number_of G8 = 8
number_of G9 = 9
number_of G10 = 10
number_of G11 = 11
number_of G12 = 12
number_of G13 = 13
number_of G14 = 14
number_of G15 = 15

-- the grade of that number; grade 0 stands for the numbers past 15, which are no grade's
abbrev pub grade_of : ℕ → Grade
grade_of n = slice_index_or (G0 ∷ G1 ∷ G2 ∷ G3 ∷ G4 ∷ G5 ∷ G6 ∷ G7 ∷ G8 ∷ G9 ∷ G10 ∷ G11 ∷ G12 ∷ G13 ∷ G14 ∷ G15 ∷ []) n G0

-- what comes of a number that is offered as a grade: past 15 it is declined
abbrev pub grade_for : ℕ → Result Grade Refusal
grade_for n = cond (nat_le n 15) (Ok (grade_of n)) (Err GradeRange)

-- the same, told of what came of it: the grade has the number, or the number is past 15
pub record IsGradeFor (n : ℕ) (r : Result Grade Refusal) : Type 0 where
  pub value : r ≡ grade_for n
  pub told : MatchResult r (λ g. (number_of g ≡ n) × (n ≤ 15)) (λ e. (e ≡ GradeRange) × (15 < n))

-- ordered by their numbers, joined to the larger; grade 0 is lowest, and a grade ranks by its number
abbrev pub grades : Kind Grade
grades = record {
  below = λ a b. nat_le (number_of a) (number_of b);
  join = λ a b. cond (nat_le (number_of a) (number_of b)) b a;
  lowest = G0;
  rank = number_of;
  greatest = 15;
}
