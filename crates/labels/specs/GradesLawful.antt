-- Grades keep the laws of a kind of label. Assumes nothing.
use Rattle.std.specs.Prelude.{◌≡◌, ◌<◌, ◌≤◌, true, refl}
use Rattle.std.proofs.Common.{sym, ap, ◌∙◌, ⊎_elim, zero-le, le_refl, le_trans, le_antisymm, le_of_lt, eq-or-lt_of_le}
use Rattle.std.proofs.lemmas.Bool.{leb-true, leb-false, le-leb, cond_both}
use Rattle.labels.specs.Kind.{Lawful}
use Rattle.labels.specs.Grades.{number_of, grade_of, grades}
use Rattle.labels.specs.declared.grades.Grade.{Grade}
use Rattle.labels.specs.declared.grades.Grade.TheVariants.{G0, G1, G2, G3, G4, G5, G6, G7, G8, G9, G10, G11, G12, G13, G14, G15}

-- a grade is told by its number
grade_of_number : (g : Grade) → grade_of (number_of g) ≡ g
grade_of_number G0 = refl
grade_of_number G1 = refl
grade_of_number G2 = refl
grade_of_number G3 = refl
grade_of_number G4 = refl
grade_of_number G5 = refl
grade_of_number G6 = refl
grade_of_number G7 = refl
grade_of_number G8 = refl
grade_of_number G9 = refl
grade_of_number G10 = refl
grade_of_number G11 = refl
grade_of_number G12 = refl
grade_of_number G13 = refl
grade_of_number G14 = refl
grade_of_number G15 = refl

same_grade : (a b : Grade) → number_of a ≡ number_of b → a ≡ b
same_grade a b same = sym (grade_of_number a) ∙ ap grade_of same ∙ grade_of_number b

-- what the order tests
under : (a b : Grade) → grades.below a b ≡ true → number_of a ≤ number_of b
under a b = leb-true _ _

at_most : (a b : Grade) → number_of a ≤ number_of b → grades.below a b ≡ true
at_most a b = le-leb _ _

-- what holds of both grades, where each is the larger, holds of their join
joined : (P : Grade → Type 0) (a b : Grade) → (number_of a ≤ number_of b → P b) → (number_of b < number_of a → P a) → P (grades.join a b)
joined P a b right left = cond_both _ b a P (λ t. right (under a b t)) (λ t. left (leb-false _ _ t))

pub grades_lawful : Lawful grades
grades_lawful = record {
  reflexive = λ a. at_most a a (le_refl _);
  transitive = λ a b c h k. at_most a c (le_trans (under a b h) (under b c k));
  antisymmetric = λ a b h k. same_grade a b (le_antisymm (under a b h) (under b a k));
  join_left = λ a b. joined (λ g. grades.below a g ≡ true) a b (at_most a b) (λ _. at_most a a (le_refl _));
  join_right = λ a b. joined (λ g. grades.below b g ≡ true) a b (λ _. at_most b b (le_refl _)) (λ less. at_most b a (le_of_lt less));
  join_least = λ a b c h k. joined (λ g. grades.below g c ≡ true) a b (λ _. k) (λ _. h);
  lowest_below = λ a. at_most G0 a zero-le;
  rank_grows = λ a b h differ. ⊎_elim (λ same. absurd (differ (same_grade a b same))) (λ less. less) (eq-or-lt_of_le (under a b h));
}
