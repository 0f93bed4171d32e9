use Rattle.std.proofs.Common.{◌≡◌, ℕ, ◌<◌, sym, ap, ◌∙◌, subst, length, rules}
use Rattle.std.proofs.lemmas.List.{length-map}
use Rattle.snap_shared.specs.Seats.{IsNewSeat}
use Rattle.snap_shared.specs.SharedCalls.{HasOnlyCallersBelow, numbers_below}
use Rattle.lang_script.specs.StepCalls.{script_parts, opening_world}
use Rattle.lang_ast.specs.Programs.{program_view}
use Rattle.play_run.proofs.Openings.{program-fits}
use Rattle.play_threads.proofs.ActorEnds.{ready, all_fit, all_acted}
use Rattle.play_threads.proofs.Openings.{opening_counts, opening_shaped, opening_global}
use Rattle.play_threads.proofs.actors.make_history.Goals as goal

pub run_together-requires-clause-ready : goal.run_together-requires-clause-ready
run_together-requires-clause-ready g c κs lives =
    ready (λ x. x.seat) (λ x. x.number) c.in-Ok-actors_for.actors.items (λ x. IsNewSeat c.in-Ok.shared x)
    c.in-Ok.seats.items _
    c.in-Ok-actors_for.ensures.seats c.in-Ok-actors_for.ensures.numbers c.in-Ok.ensures.numbers c.in-Ok.ensures.many
    c.in-Ok.ensures.seats

pub into_parts-world-requires-clause-all : goal.into_parts-world-requires-clause-all
into_parts-world-requires-clause-all g c =
    all_fit (λ x. x.seat) (λ x. x.short) (λ x. x.number) _ c.in-Ok.shared
    (script_parts c.args.job.now.script.actors.items c.args.job.now.script.forms.items)
    c.in-Ok-actors_for.actors.items c.run_together.new.actors.items c.run_together.ensures.many
    c.run_together.ensures.acts _ c.seats_of-seats.ensures.seats

pub returns : goal.returns
returns g c =
    let states = c.args.job.now.program.states.items in
    let w = opening_world states in
    let parts = script_parts c.args.job.now.script.actors.items c.args.job.now.script.forms.items in
    let n = length c.args.job.now.script.actors.items in
    let fit = program-fits (program_view c.args.job.now.program) c.args.job.now.fine in
    let actors = c.in-Ok-actors_for.actors.items in
    let long : c.len.result ≡ n = search rules in
    let number : length c.in-Ok.seats.items ≡ n = search (rules, c.in-Ok.ensures.many) in
    let count : length actors ≡ n = sym (length-map actors (λ x. x.seat))
    ∙ ap (λ l. length l) c.in-Ok-actors_for.ensures.seats ∙ number in
    let stood = c.in-Ok.ensures.stands w c.requires.opens (opening_shaped states) (opening_global states) in
    record {
      legal = (c.into_parts-world.ensures.legal w stood).0;
      acted = all_acted (λ x. x.seat) (λ x. x.short) (λ x. x.number) _ c.in-Ok.shared parts actors
          c.run_together.new.actors.items c.run_together.ensures.many c.run_together.ensures.acts
          w stood (opening_counts states fit) _ _ _ n count
          (c.in-Ok-actors_for.ensures.numbers ∙ ap numbers_below number) c.seats_of-seats.ensures.seats
          c.into_parts-world.ensures.seats c.seats_of-seats.ensures.short;
      others = subst (λ k. HasOnlyCallersBelow k c.into_parts-world.result.1.items) (c.in-Ok.ensures.count ∙ long)
          c.into_parts-world.ensures.others;
    }

pub run_together-requires-clause-some : goal.run_together-requires-clause-some
run_together-requires-clause-some g c κs lives =
    let n = length c.args.job.now.script.actors.items in
    let long : c.len.result ≡ n = search rules in
    let actors = c.in-Ok-actors_for.actors.items in
    let count : length actors ≡ n = sym (length-map actors (λ x. x.seat))
    ∙ ap (λ l. length l) c.in-Ok-actors_for.ensures.seats ∙ c.in-Ok.ensures.many ∙ long in
    subst (λ (k : ℕ). 0 < k) (sym count) c.requires.some

pub into_parts-world-requires-clause-some : goal.into_parts-world-requires-clause-some
into_parts-world-requires-clause-some g c =
    let n = length c.args.job.now.script.actors.items in
    let long : c.len.result ≡ n = search rules in
    let actors = c.in-Ok-actors_for.actors.items in
    let count : length actors ≡ n = sym (length-map actors (λ x. x.seat))
    ∙ ap (λ l. length l) c.in-Ok-actors_for.ensures.seats ∙ c.in-Ok.ensures.many ∙ long in
    let all : length c.seats_of-seats.result.0.items ≡ n = ap (λ l. length l) c.seats_of-seats.ensures.seats
    ∙ length-map c.run_together.new.actors.items (λ x. x.seat) ∙ c.run_together.ensures.many ∙ count in
    subst (λ (k : ℕ). 0 < k) (sym all) c.requires.some

pub into_parts-world-requires-clause-count : goal.into_parts-world-requires-clause-count
into_parts-world-requires-clause-count g c =
    let n = length c.args.job.now.script.actors.items in
    let long : c.len.result ≡ n = search rules in
    let actors = c.in-Ok-actors_for.actors.items in
    let count : length actors ≡ n = sym (length-map actors (λ x. x.seat))
    ∙ ap (λ l. length l) c.in-Ok-actors_for.ensures.seats ∙ c.in-Ok.ensures.many ∙ long in
    let all : length c.seats_of-seats.result.0.items ≡ n = ap (λ l. length l) c.seats_of-seats.ensures.seats
    ∙ length-map c.run_together.new.actors.items (λ x. x.seat) ∙ c.run_together.ensures.many ∙ count in
    all ∙ sym (c.in-Ok.ensures.count ∙ long)
