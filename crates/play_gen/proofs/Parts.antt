-- Texts and lists of parts that grow at their end.
use Rattle.std.proofs.Common.{append_assoc, append-nil}
use Rattle.std.proofs.lemmas.List.{map-append}

-- Texts that grow at their end.
pub ruleset joins = (append_assoc, append-nil)

-- Lists of parts that grow at their end.
pub ruleset appended = (map-append)
