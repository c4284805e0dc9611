-- Inclusion of sets that are written as numbers: a set holds i where digit i of its number is set. Assumes nothing.
use Rattle.std.specs.Prelude.{◌≡◌, ℕ, ◌/◌, ◌%◌, ◌<◌, ◌≤◌, ◌⊎◌, bit_and, bit_or, count_ones, refl}
use Rattle.std.proofs.Common.{sym, ap, ◌∙◌, inl, inr, arith}
use Rattle.std.proofs.Math.Arith.{bin_ind}
use Rattle.std.specs.Int.Bits.{and_step, or_step, and_zero_r}
use Rattle.std.proofs.lemmas.Nat.{or_shr, and_le_l}
use Rattle.std.specs.Int.Count.{ones_step}
use Rattle.std.proofs.lemmas.Bool.{cases_lt}

-- every member of a is one of b
abbrev pub Within : ℕ → ℕ → Type 0
Within a b = bit_and a b ≡ a

-- inclusion goes digit by digit: the lowest digits, and the rest
within_rest : (a b : ℕ) → Within a b → Within (a / 2) (b / 2)
within_rest a b h = omega (arith, and_step a b, and_le_l (a / 2) (b / 2))

within_lowest : (a b : ℕ) → Within a b → a % 2 ≤ b % 2
within_lowest a b h = omega (arith, and_step a b, and_le_l (a / 2) (b / 2))

within : (a b : ℕ) → Within (a / 2) (b / 2) → a % 2 ≤ b % 2 → Within a b
within a b rest lowest = omega (arith, and_step a b)

pub within_trans : (a b c : ℕ) → Within a b → Within b c → Within a c
within_trans =
    bin_ind (λ a. (b c : ℕ) → Within a b → Within b c → Within a c) (λ b c h k. refl)
    (λ a ih b c h k. within a c (ih (b / 2) (c / 2) (within_rest a b h) (within_rest b c k)) (omega (arith, within_lowest a b h, within_lowest b c k)))

pub within_union : (a b : ℕ) → Within a (bit_or a b)
within_union =
    bin_ind (λ a. (b : ℕ) → Within a (bit_or a b)) (λ b. refl)
    (λ a ih b. within a (bit_or a b) (rw (or_shr a b 1) (ih (b / 2))) (omega (arith, or_step a b)))

pub union_within : (a b c : ℕ) → Within a c → Within b c → Within (bit_or a b) c
union_within =
    bin_ind (λ a. (b c : ℕ) → Within a c → Within b c → Within (bit_or a b) c) (λ b c h k. k)
    (λ a ih b c h k. within (bit_or a b) c (rw (or_shr a b 1) (ih (b / 2) (c / 2) (within_rest a c h) (within_rest b c k)))
    (omega (arith, or_step a b, within_lowest a c h, within_lowest b c k)))

-- a set within another is the same or has fewer members
pub within_grows : (a b : ℕ) → Within a b → (a ≡ b) ⊎ (count_ones a < count_ones b)
within_grows a b =
    bin_ind (λ b. (a : ℕ) → Within a b → (a ≡ b) ⊎ (count_ones a < count_ones b)) (λ a h. inl (sym h ∙ and_zero_r a))
    (λ b ih a h.
    let lowest = within_lowest a b h in
    elim (ih (a / 2) (within_rest a b h)) [
      | inl same ↦ elim (cases_lt (a % 2) (b % 2)) [
        | inl less ↦ inr (omega (arith, ones_step a, ones_step b, ap count_ones same))
        | inr more ↦ inl (omega arith)
      ]
      | inr fewer ↦ inr (omega (arith, ones_step a, ones_step b))
    ]) b a
