use Rattle.routine.proofs.Address.{laws}
use Rattle.routine.proofs.addressing.address_laws.Goals as goal

pub returns : goal.returns
returns c = laws
