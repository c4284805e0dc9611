use Rattle.std.proofs.Common.{arith}
use Rattle.routine.proofs.Address.{address_is}
use Rattle.routine.proofs.addressing.address_of.Goals as goal

pub returns : goal.returns
returns c = rw address_is (omega arith)
