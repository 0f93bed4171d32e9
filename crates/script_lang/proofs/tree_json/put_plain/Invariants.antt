use Rattle.std.proofs.Common.{◌≡◌, ◌++◌, ◌+◌, length}
use Rattle.std.specs.Prelude.{vec_len, vec_capacity}
use Rattle.json.specs.Print.{escape}
use Rattle.script_lang.proofs.tree_json.put_plain.Given as goal

abbrev pub invariant-loop-byte : goal.invariant-loop-byte
invariant-loop-byte l = record {
  items : l.text.items ++ escape l.rest ≡ l.fn.text.items ++ escape l.bytes;
  len : vec_len l.text + length l.rest ≡ vec_len l.fn.text + length l.bytes;
  capacity : vec_capacity l.text ≡ vec_capacity l.fn.text;
}

abbrev pub decreases-loop-byte : goal.decreases-loop-byte
decreases-loop-byte l = length l.rest
