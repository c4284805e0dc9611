-- What the rule for addresses is used for: these laws are all that is known of it above.
use Rattle.std.specs.Prelude.{◌≡◌, ℕ, ◌^◌, ◌<◌, ◌≤◌, true}
use Rattle.routine.specs.Address.{address, in_window}

pub record AddressLaws : Type 0 where
  -- a wider index reaches no fewer words
  pub wider : (words base v w i : ℕ) → v ≤ w → in_window words base v i ≡ true → in_window words base w i ≡ true
  -- an index below 2 ^ width reaches a word of the window, or no word at all
  pub reached : (words base width index : ℕ) → base < words → words ≤ 4096 → index < 2 ^ width → index < 2 ^ 32
      → address words base index < words → in_window words base width (address words base index) ≡ true
