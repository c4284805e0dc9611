use Rattle.promise.proofs.Invisible.{guessing_invisible}
use Rattle.promise.proofs.guessing_is_invisible.Goals as goal

pub returns : goal.returns
returns c = guessing_invisible
