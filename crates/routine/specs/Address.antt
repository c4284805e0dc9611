-- The rule for addresses, in one place. Everything above uses it through the laws of proofs/Address alone,
-- so that another rule changes this file and those laws.
use Rattle.std.specs.Prelude.{ℕ, ◌+◌, ◌%◌, ◌^◌, Bool, true, cond, ◌&&◌, nat_le, nat_lt}

-- the address of base + index in a memory of that many words; an address past the last word is no word
unfoldable pub address : ℕ → ℕ → ℕ → ℕ
address words base index = (base + index) % 2 ^ 32

-- whether an index below 2 ^ width can reach the word i
unfoldable pub in_window : ℕ → ℕ → ℕ → ℕ → Bool
in_window words base width i = cond (nat_le 32 width) true (nat_le base i && nat_lt i (base + 2 ^ width))
