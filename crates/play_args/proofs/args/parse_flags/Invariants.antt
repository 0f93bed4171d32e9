use Rattle.std.proofs.Common.{◌≡◌, length}
use Rattle.play_args.specs.CommandWords.{no_flags, flags_after, texts}
use Rattle.play_args.proofs.args.parse_flags.Given as goal

abbrev pub invariant-loop-word : goal.invariant-loop-word
invariant-loop-word l = flags_after l.flags (texts l.rest) ≡ flags_after no_flags (texts l.words)

abbrev pub decreases-loop-word : goal.decreases-loop-word
decreases-loop-word l = length l.rest
