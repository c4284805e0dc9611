use Rattle.std.proofs.Common.{refl, rules}
use lib.Count.{ones-le}
use lib.Bits.{or_lt}
use Rattle.labels.proofs.makers.MakerSetLabel.join.Goals as goal

-- a union of sets of 16 makers is one too
pub returns : goal.returns
returns c = record { value = refl; ranked = ones-le 16 _ (or_lt 16 c.args.self.members c.args.other.members (search rules) (search rules)) }
