-- Decimal numbers as cards write them: digits without a leading zero, up to a limit.
use Rattle.std.specs.Prelude.{ℕ, ◌+◌, ◌-◌, ◌*◌, Bool, cond, not, ◌&&◌, List, length, Some, None, Ok, Err, Option, Result, ◌==◌, nat_le, nat_lt, slice_index}
use Rattle.std.specs.List.{fold}
use Rattle.std.specs.Str.{all_ascii_digits}
use Rattle.refusals.specs.declared.cards.Cause.{Cause}
use Rattle.refusals.specs.declared.cards.Cause.TheVariants.{Form, LeadingZero, BeyondLimit}

-- the number that digits write
abbrev pub value_of : List ℕ → ℕ
value_of digits = fold (λ n digit. 10 * n + (digit - 48)) 0 digits

-- one or more digits 0 to 9, and nothing else
abbrev pub is_numeral : List ℕ → Bool
is_numeral digits = not (length digits == 0) && all_ascii_digits digits

-- a zero with more digits after it
abbrev pub leads_with_zero : List ℕ → Bool
leads_with_zero digits = slice_index digits 0 == 48 && nat_lt 1 (length digits)

-- the number in a text, which is at most the limit; else what is wrong, the form first, then a leading zero, then the limit
unfoldable pub number_in : ℕ → List ℕ → Result ℕ Cause
number_in limit text =
    cond (is_numeral text)
    (cond (leads_with_zero text) (Err LeadingZero) (cond (nat_le (value_of text) limit) (Ok (value_of text)) (Err BeyondLimit)))
    (Err Form)

-- the number in a text that has to lie between two limits
abbrev pub plain_in : ℕ → ℕ → List ℕ → Option ℕ
plain_in low high text = elim (number_in high text) [ Ok n ↦ cond (nat_le low n) (Some n) None | Err cause ↦ None ]
