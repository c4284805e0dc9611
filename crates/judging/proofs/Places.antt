-- A slot is a row and a mode.
use Rattle.std.proofs.Common.{◌≡◌, ℕ, ◌+◌, ◌*◌, ◌/◌, ◌%◌, ◌<◌, Bool, true, false, cond, eqb, refl, ap, arith}
use Rattle.std.proofs.lemmas.Bool.{eqb-true, eqb-false, eq-eqb, ne_eqb}
use Rattle.facts.specs.declared.types.Mode.{Mode}
use Rattle.facts.specs.declared.types.Mode.TheVariants.{Settled, Guessed}
use Rattle.facts.specs.Tables.{slot}
use Rattle.judging.specs.Steps.{mode_at}

pub slot_of_place : (s : ℕ) → slot (s / 2) (mode_at s) ≡ s
slot_of_place s = by_mode (eqb (s % 2) 0) refl
  where
    by_mode : (b : Bool) → eqb (s % 2) 0 ≡ b → slot (s / 2) (cond b Settled Guessed) ≡ s
    by_mode true e = omega (arith, eqb-true (s % 2) 0 e)
    by_mode false e = omega (arith, eqb-false (s % 2) 0 e)

pub row_of_slot : (i : ℕ) (m : Mode) → slot i m / 2 ≡ i
row_of_slot i Settled = omega arith
row_of_slot i Guessed = omega arith

pub mode_of_slot : (i : ℕ) (m : Mode) → mode_at (slot i m) ≡ m
mode_of_slot i Settled = ap (λ b. cond b Settled Guessed) (eq-eqb ((2 * i) % 2) 0 (omega arith))
mode_of_slot i Guessed = ap (λ b. cond b Settled Guessed) (ne_eqb ((2 * i + 1) % 2) 0 (omega arith))

pub slot_inside : (n i : ℕ) (m : Mode) → i < n → slot i m < 2 * n
slot_inside n i Settled h = omega arith
slot_inside n i Guessed h = omega arith
