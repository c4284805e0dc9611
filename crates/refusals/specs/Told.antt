-- What each refusal tells: its number, its place and its layer.
use Rattle.std.specs.Prelude.{ℕ}
use Rattle.refusals.specs.declared.Layer.{Layer}
use Rattle.refusals.specs.declared.Layer.TheVariants.{Table}
use Rattle.refusals.specs.declared.Refusal.{Refusal}
use Rattle.refusals.specs.declared.Refusal.TheVariants.{RowCount, WordCount, RowField, Target, Ending, WorkTable, GradeRange}

pub record Told : Type 0 where
  pub number : ℕ
  pub place : ℕ
  pub layer : Layer

-- a refusal by its number, at a row or at place 0
abbrev tells : ℕ → ℕ → Told
tells number place = record { number = number; place = place; layer = Table }

abbrev pub told : Refusal → Told
told RowCount = tells 1 0
told WordCount = tells 2 0
told (RowField row) = tells 3 row
told (Target row) = tells 4 row
told (Ending row) = tells 5 row
told WorkTable = tells 6 0
told GradeRange = tells 9 0
