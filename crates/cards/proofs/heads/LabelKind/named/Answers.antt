use Rattle.std.proofs.Common.{codes, sym, ap, arith, rules}
use Rattle.std.proofs.lemmas.Slice.Eq.{text_from_reads}
use Rattle.cards.specs.Heads.{kind_named}
use Rattle.cards.proofs.heads.LabelKind.named.Goals as goal

pub returns-in-makers : goal.returns-in-makers
returns-in-makers c = sym (ap kind_named (text_from_reads c.args.name.now (codes "makers") (omega arith) (search rules)))

pub returns-in-grade : goal.returns-in-grade
returns-in-grade c = sym (ap kind_named (text_from_reads c.args.name.now (codes "grade") (omega arith) (search rules)))
