-- The laws of the rule for addresses, and what its code needs of it. Only this file unfolds `address` and `in_window`.
use Rattle.std.proofs.Common.{◌≡◌, ℕ, ◌+◌, ◌%◌, ◌^◌, ◌<◌, ◌≤◌, true, cond, ◌&&◌, ltb, leb, ◌⊎◌, refl, inl, inr, arith, pow_mono}
use Rattle.std.proofs.lemmas.Bool.{cases_lt}
use Rattle.std.proofs.lemmas.Bool.Decides.{nat_tests}
use Rattle.routine.specs.Address.{address, in_window}
use Rattle.routine.specs.AddressLaws.{AddressLaws}

pub address_is : (words base index : ℕ) → address words base index ≡ (base + index) % 2 ^ 32
unfolding address
address_is words base index = refl

pub window_is : (words base width i : ℕ) → in_window words base width i ≡ cond (leb 32 width) true (leb base i && ltb i (base + 2 ^ width))
unfolding in_window
window_is words base width i = refl

-- the window as an order of numbers
window_from : (words base width i : ℕ) → (32 ≤ width) ⊎ ((base ≤ i) × (i < base + 2 ^ width)) → in_window words base width i ≡ true
window_from words base width i h = rw window_is (grind (arith, nat_tests))

window_cases : (words base width i : ℕ) → in_window words base width i ≡ true → (32 ≤ width) ⊎ ((base ≤ i) × (i < base + 2 ^ width))
window_cases words base width i h = let e = rw window_is at h in grind (arith, nat_tests)

pub window_wider : (words base v w i : ℕ) → v ≤ w → in_window words base v i ≡ true → in_window words base w i ≡ true
window_wider words base v w i le inside =
    window_from words base w i
    (elim (window_cases words base v i inside) [ inl wide ↦ inl (omega arith) | inr between ↦ inr (between.0, omega (arith, pow_mono le)) ])

pub window_reached : (words base width index : ℕ) → base < words → words ≤ 4096 → index < 2 ^ width → index < 2 ^ 32
    → address words base index < words → in_window words base width (address words base index) ≡ true
window_reached words base width index in_words_lem few in-width fits word =
    window_from words base width (address words base index) (elim (cases_lt width 32) [ inl narrow ↦ inr (unwrapped narrow) | inr wide ↦ inl wide ])
  where
    -- below 2 ^ 32 the sum of base and index does not wrap
    unwrapped : width < 32 → (base ≤ address words base index) × (address words base index < base + 2 ^ width)
    unwrapped narrow =
        let half : 2 ^ width ≤ 2 ^ 31 = pow_mono {j = 31} (omega arith) in
        rw address_is (omega arith)

pub laws : AddressLaws
laws = record { wider = window_wider; reached = window_reached }
