use Rattle.std.proofs.Common.{arith}
use Rattle.std.proofs.lemmas.Nat.{one_shl}
use Rattle.std.proofs.lemmas.Bool.Decides.{nat_tests}
use Rattle.routine.proofs.Address.{window_is}
use Rattle.routine.proofs.addressing.Window.reaches.Goals as goal

pub returns-then-self-ge32 : goal.returns-then-self-ge32
returns-then-self-ge32 c = rw window_is (grind (arith, nat_tests))

pub returns-then-base-word : goal.returns-then-base-word
returns-then-base-word c = let whole = one_shl c.args.self.width 64 (omega arith) in rw (window_is, whole) (grind (arith, nat_tests))

pub returns-else-base-word : goal.returns-else-base-word
returns-else-base-word c = rw window_is (grind (arith, nat_tests))
