-- What a line is made of, for contracts that speak of one: its fields are private to this crate.
use Rattle.std.specs.Prelude.{ℕ, List, take}
use Rattle.report.specs.declared.line.Line.{Line}

-- the bytes of a line
abbrev pub line_bytes : Line → List ℕ
line_bytes line = take line.length line.bytes
