use Rattle.std.proofs.Common.{rules, ◌≡◌, ◌∙◌, ap, take, drop}
use Rattle.rt_values.specs.Operators.{concatenation}
use Rattle.play_gen.proofs.RoundLists.{rotation-fits}
use Rattle.play_gen.proofs.rounds.rotate.Goals as goal

pub returns : goal.returns
returns c =
    let first : c.split_at.result.0.now ≡ take c.args.turn c.args.items.now = search rules in
    let rest : c.split_at.result.1.now ≡ drop c.args.turn c.args.items.now = search rules in
    c.in_ok-extend.ensures.ok
    ∙ ap (λ l. concatenation l c.split_at.result.0.now) (c.in_ok-list.ensures ∙ rest)
    ∙ ap (λ l. concatenation (drop c.args.turn c.args.items.now) l) first
    ∙ rotation-fits c.args.turn c.args.items.now c.items.ensures.fits
