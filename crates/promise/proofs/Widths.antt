-- A computed value fits the width that the rules give it, and a constant the width of its significant bits.
use Rattle.std.proofs.Common.{◌≡◌, ℕ, zero, suc, ◌+◌, ◌-◌, ◌*◌, ◌/◌, ◌%◌, ◌^◌, ◌<◌, ◌≤◌, min, max, Bool, true, false, cond, not, eqb, ltb, leb, refl, ⊎_elim, pow-suc, arith, pow_mono}
use lib.Bits.{bit_and, bit_or, bit_xor}
use lib.Count.{count_leading_zeros}
use lib.Pow.{add-lt-pow}
use Rattle.std.proofs.lemmas.Nat.{pow_pos, pow-add, leading_length, le-div, mul-lt, and_le_l, and_le_r, or_lt, xor_lt, shl_below, shr_below, shr_le}
use Rattle.std.proofs.lemmas.Bool.{cases_lt, or_cases, not-true, both_ways, leb-true}
use Rattle.routine.specs.Effects.{computed}
use Rattle.routine.specs.Limits.{is_shift, right_fits}
use Rattle.routine.specs.declared.rows.Operand.{Operand}
use Rattle.routine.specs.declared.rows.Operand.TheVariants.{Register, Constant}
use Rattle.routine.specs.declared.rows.Operation.{Operation}
use Rattle.routine.specs.declared.rows.Operation.TheVariants as op
use Rattle.facts.specs.Rules.{bits_of, width_after}

-- a bound by a power holds for every larger power
wider : (x v w : ℕ) → v ≤ w → x < 2 ^ v → x < 2 ^ w
wider x v w l h = omega (arith, pow_mono l)

-- a number of more than k bits has no leading zeros among k
leading_none : (k n : ℕ) → 2 ^ k ≤ n → count_leading_zeros k n ≡ 0
unfolding count_leading_zeros
leading_none zero n h = refl
leading_none (suc k) zero h = absurd (omega (arith, pow_pos (suc k)))
leading_none (suc k) (suc n) h = leading_none k (suc n / 2) (le-div (2 ^ k) (suc n) 2 (omega arith) (omega (arith, pow-suc 2 k)))

bits_full : (n : ℕ) → 2 ^ 32 ≤ n → bits_of n ≡ 32
bits_full n h = omega (arith, leading_none 32 n h)

pub bits_below : (n v : ℕ) → v ≤ n → v < 2 ^ 32 → v < 2 ^ bits_of n
bits_below n v l h =
    ⊎_elim
    (λ (fits : n < 2 ^ 32). let (m, e, below, _) = leading_length 32 n fits in wider v m (bits_of n) (omega arith) (omega arith))
    (λ (full : 2 ^ 32 ≤ n). wider v 32 (bits_of n) (omega (arith, bits_full n full)) h)
    (cases_lt n (2 ^ 32))

pub bits_hold : (n : ℕ) → n % 2 ^ 32 < 2 ^ bits_of n
bits_hold n = bits_below n (n % 2 ^ 32) (omega arith) (omega arith)

-- fewer than 32 bits are all that the number has
bits_whole : (n : ℕ) → bits_of n < 32 → n < 2 ^ bits_of n
bits_whole n h =
    ⊎_elim (λ (fits : n < 2 ^ 32). bits_below n n (omega arith) fits) (λ (full : 2 ^ 32 ≤ n). absurd (omega (arith, bits_full n full))) (cases_lt n (2 ^ 32))

-- a number that is cut to 32 bits fits every width from 32 on
cut : (x w : ℕ) → (w < 32 → x < 2 ^ w) → x % 2 ^ 32 < 2 ^ min 32 w
cut x w h =
    ⊎_elim
    (λ (narrow : w < 32). let below : x % 2 ^ 32 < 2 ^ w = omega (arith, h narrow) in wider (x % 2 ^ 32) w (min 32 w) (omega arith) below)
    (λ (wide : 32 ≤ w). wider (x % 2 ^ 32) 32 (min 32 w) (omega arith) (omega arith))
    (cases_lt w 32)

-- the value of a test
flag : (b : Bool) → cond b 1 0 % 2 ^ 32 < 2 ^ min 32 1
flag true = omega arith
flag false = omega arith

-- the value of a constant right operand, by which a shift goes
abbrev ShiftsBy : Operand → ℕ → Type 0
ShiftsBy (Register r) b = Unit
ShiftsBy (Constant k) b = b % 32 ≡ k

-- the right operand is held only to a width below 32
computed_fits : (o : Operation) (right : Operand) (a b v w : ℕ) → a < 2 ^ v → (w < 32 → b < 2 ^ w) → (is_shift o ≡ true → ShiftsBy right b)
    → computed o a b % 2 ^ 32 < 2 ^ min 32 (width_after o v right w)
computed_fits op.Add right a b v w h g s =
    cut (a + b) (suc (max v w)) (λ l. add-lt-pow (max v w) (wider a v (max v w) (omega arith) h) (wider b w (max v w) (omega arith) (g (omega arith))))
computed_fits op.Sub right a b v w h g s = omega arith
computed_fits op.Mul right a b v w h g s = cut (a * b) (v + w) (λ l. rw pow-add (mul-lt a b (2 ^ v) (2 ^ w) h (g (omega arith))))
computed_fits op.And right a b v w h g s =
    cut (bit_and a b) (min v w)
    (λ l. ⊎_elim
    (λ (left : v < w). wider (bit_and a b) v (min v w) (omega arith) (omega (arith, and_le_l a b)))
    (λ (other : w ≤ v). wider (bit_and a b) w (min v w) (omega arith) (omega (arith, and_le_r a b, g (omega arith))))
    (cases_lt v w))
computed_fits op.Or right a b v w h g s =
    cut (bit_or a b) (max v w) (λ l. or_lt (max v w) a b (wider a v (max v w) (omega arith) h) (wider b w (max v w) (omega arith) (g (omega arith))))
computed_fits op.Xor right a b v w h g s =
    cut (bit_xor a b) (max v w) (λ l. xor_lt (max v w) a b (wider a v (max v w) (omega arith) h) (wider b w (max v w) (omega arith) (g (omega arith))))
computed_fits op.ShiftLeft (Register r) a b v w h g s = cut (a * 2 ^ (b % 32)) 32 (λ l. absurd (omega arith))
computed_fits op.ShiftLeft (Constant k) a b v w h g s = cut (a * 2 ^ (b % 32)) (v + k) (λ l. rw (s refl) (shl_below a v k h))
computed_fits op.ShiftRight (Register r) a b v w h g s = cut (a / 2 ^ (b % 32)) v (λ l. omega (arith, shr_le a (b % 32)))
computed_fits op.ShiftRight (Constant k) a b v w h g s =
    cut (a / 2 ^ (b % 32)) (v - k) (λ l. rw (s refl) (shr_below a (v - k) k (wider a v (v - k + k) (omega arith) h)))
computed_fits op.Less right a b v w h g s = flag (ltb a b)
computed_fits op.Equal right a b v w h g s = flag (eqb a b)

pub computed_register : (o : Operation) (r a b v w : ℕ) → a < 2 ^ v → b < 2 ^ w → computed o a b % 2 ^ 32 < 2 ^ min 32 (width_after o v (Register r) w)
computed_register o r a b v w h g = computed_fits o (Register r) a b v w h (λ _. g) (λ _. tt)

pub computed_constant : (o : Operation) (k a v : ℕ) → a < 2 ^ v → right_fits o (Constant k) ≡ true
    → computed o a k % 2 ^ 32 < 2 ^ min 32 (width_after o v (Constant k) (bits_of k))
computed_constant o k a v h fits =
    computed_fits o (Constant k) a k v (bits_of k) h (bits_whole k)
    (λ shifts. ⊎_elim
    (λ (plain : not (is_shift o) ≡ true). absurd (both_ways (is_shift o) (not-true _ plain) shifts))
    (λ (small : leb k 31 ≡ true). let below = leb-true k 31 small in omega arith)
    (or_cases (not (is_shift o)) (leb k 31) fits))
