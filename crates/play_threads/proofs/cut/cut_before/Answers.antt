use Rattle.std.proofs.Common.{◌∙◌, ap, ◌++◌, drop}
use Rattle.std.proofs.Common.{take-append-drop}
use Rattle.play_threads.proofs.cut.cut_before.Goals as goal

pub returns-in-Some : goal.returns-in-Some
returns-in-Some c =
    let rest = drop c.in-Some.kept c.args.calls.now.items in
    (rest, ap (λ l. l ++ rest) c.truncate.ensures.items ∙ take-append-drop c.in-Some.kept c.args.calls.now.items)
