use Rattle.std.proofs.Common.{◌≡◌, ℕ, ◌+◌, ◌-◌, ◌*◌, ◌^◌, min, refl, ◌∙◌, arith, tests, rules}
use Rattle.std.proofs.lemmas.Iterator.{YieldsList-from_slice}
use Rattle.std.proofs.lemmas.Iterator.Consumers.{fold_from_yields_List}
use Rattle.std.proofs.lemmas.List.Folds.{fold_along}
use Rattle.cards.proofs.numbers.capped_value.Goals as goal

-- one digit more, and the same cut down
abbrev more : ℕ → ℕ → ℕ
more n digit = 10 * n + (digit - 48)

abbrev capped : ℕ → ℕ → ℕ
capped n digit = min (min (n * 10) (2 ^ 64 - 1) + (digit - 48)) (2 ^ 64 - 1)

-- a number that was cut down grows to one that is cut down
stays_cut : (n m digit : ℕ) → n ≡ min m (2 ^ 64 - 1) → capped n digit ≡ min (more m digit) (2 ^ 64 - 1)
stays_cut n m digit is = omega arith

pub returns : goal.returns
returns c =
    let digits = c.args.digits.now in
    fold_from_yields_List _ capped 0 c.fold.result c.fold.ensures.ran (YieldsList-from_slice digits cc) (λ a x b q k. search (rules, tests))
    ∙ fold_along capped more (λ n m. n ≡ min m (2 ^ 64 - 1)) stays_cut 0 0 digits refl
