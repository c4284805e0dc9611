-- Sets of makers keep the laws of a kind of label. Assumes nothing.
use Rattle.std.specs.Prelude.{◌≡◌, true, refl}
use Rattle.std.proofs.Common.{sym, ap, ◌∙◌, ⊎_elim}
use Rattle.std.proofs.lemmas.Nat.{and_comm, or_comm}
use Rattle.std.specs.Int.Bits.{and_self}
use Rattle.std.proofs.lemmas.Bool.{eqb-true, eq-eqb}
use Rattle.labels.specs.Kind.{Lawful}
use Rattle.labels.specs.Makers.{sets, of_members}
use Rattle.labels.specs.declared.makers.MakerSet.{MakerSet}
use Rattle.labels.specs.Inclusion.{Within, within_trans, within_union, union_within, within_grows}

-- what the order tests
included : (a b : MakerSet) → sets.below a b ≡ true → Within a.members b.members
included a b = eqb-true _ _

includes : (a b : MakerSet) → Within a.members b.members → sets.below a b ≡ true
includes a b = eq-eqb _ _

pub sets_lawful : Lawful sets
sets_lawful = record {
  reflexive = λ a. includes a a (and_self a.members);
  transitive = λ a b c h k. includes a c (within_trans _ _ _ (included a b h) (included b c k));
  antisymmetric = λ a b h k. ap of_members (sym (included a b h) ∙ and_comm a.members b.members ∙ included b a k);
  join_left = λ a b. includes a (sets.join a b) (within_union a.members b.members);
  join_right = λ a b. includes b (sets.join a b) (rw (or_comm a.members b.members) (within_union b.members a.members));
  join_least = λ a b c h k. includes (sets.join a b) c (union_within _ _ _ (included a c h) (included b c k));
  lowest_below = λ a. refl;
  rank_grows = λ a b h differ. ⊎_elim (λ same. absurd (differ (ap of_members same))) (λ fewer. fewer) (within_grows _ _ (included a b h));
}
