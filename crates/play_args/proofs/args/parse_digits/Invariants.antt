use Rattle.std.proofs.Common.{◌≡◌, ◌≤◌, length}
use Rattle.play_args.specs.CommandWords.{with_digits}
use Rattle.play_args.proofs.args.parse_digits.Given as goal

abbrev pub invariant-loop-digit : goal.invariant-loop-digit
invariant-loop-digit l =
    (l.number ≤ l.most) × (with_digits l.most l.number l.rest ≡ with_digits l.most l.start l.digits)

abbrev pub decreases-loop-digit : goal.decreases-loop-digit
decreases-loop-digit l = length l.rest
