use Rattle.std.proofs.Common.{arith}
use Rattle.cards.proofs.Splits.{line_next, line_open}
use Rattle.cards.proofs.reader.Reader.next_line.Goals as goal

pub returns-in-Some-clause-line : goal.returns-in-Some-clause-line
returns-in-Some-clause-line c =
    let self = c.args.self.now in line_next self.card.now self.at c.in-Some.line.now _ c.in-Some.ensures.0 c.in-Some.ensures.1

pub returns-in-None-clause-line : goal.returns-in-None-clause-line
returns-in-None-clause-line c = let self = c.args.self.now in line_open self.card.now self.at (omega (arith, self.inside)) c.in-None.ensures
