use Rattle.std.proofs.Common.{refl, ap, arith}
use Rattle.std.proofs.lemmas.List.{get_or-replicate}
use Rattle.routine.specs.Limits.{every, every_field_fits}
use Rattle.cards.proofs.draft.Draft.begin.Goals as goal

pub invariant_of-result : goal.invariant_of-result
unfolding every
invariant_of-result c = record {
  some = c.requires.some;
  small = c.requires.small;
  fits = ap (λ rows. every_field_fits rows c.args.head.words) c.new.ensures;
  counted = omega arith;
  inside = omega arith;
}

pub returns : goal.returns
returns c = record {
  head = refl;
  labs = refl;
  covered = refl;
  labels = λ i inside. get_or-replicate 4096 i 0 0 inside;
  rows = c.new.ensures;
}
