-- Law: reading the lines of a trace.
use Rattle.std.specs.Prelude.{◌≡◌, List}
use Rattle.json.specs.Token.{Token}
use Rattle.json.specs.Lex.{tokens}
use Rattle.json.specs.Print.{ArePrintable}
use Rattle.trace_lines.specs.TraceLines.{line}

-- Law: reading a line gives its tokens back, if each number among them is a number of JSON. A `json::Writer` has no
-- other tokens.
abbrev pub LinesReadBack : Type 0
LinesReadBack = (ts : List Token) → ArePrintable ts → tokens (line ts) ≡ ts
