use Rattle.std.proofs.Common.{◌≡◌, ◌++◌, ◌∙◌, ap, sym, None, arith, append-nil}
use Rattle.play_run.specs.RunOutput.{parts_after}
use Rattle.play_gen.specs.GeneratedScript.{change_steps, rounds}
use Rattle.play_gen.specs.Counting.{forms_parts}
use Rattle.play_gen.proofs.CountedParts.{counts_then, counts_same}
use Rattle.play_gen.proofs.CountedRounds.{frame_parts, parts_step, length_step}
use Rattle.play_gen.proofs.summary.count_rounds.Goals as goal

pub loop-left-preserved : goal.loop-left-preserved
loop-left-preserved g c =
    let size = c.args.size in
    let before = c.loop-left in
    let change = c.change_drawn-change.result in (
      length_step size change c.draw.new.self before.items c.count_change.new.items before.invariant.0
          c.in_ok-count_change.ensures.items,
      λ functions r h.
          let run = before.invariant.1 functions r h in
          let t = c.args.counting.now.tally in
          let here = forms_parts (change_steps size change c.draw.new.self before.items) in
          let at = run.2 in
          let changed = c.in_ok-count_change.ensures.counts functions (parts_after functions r run.0) at.facts in
          let framed = c.in_ok-count_frame.ensures functions
          (parts_after functions (parts_after functions r run.0) here) changed.facts in
          let both = counts_then None None before.counting.tally (parts_after functions r run.0) here frame_parts
          changed framed in (
            run.0 ++ (here ++ frame_parts),
            parts_step run.0 _ size before.left before.draws c.draw.new.self c.count_change.new.draws c.draw.result
                change before.items c.count_change.new.items c.loop-left-test.true run.1 c.draw.ensures.value
                c.draw.ensures.next c.change_drawn-change.ensures
                c.count_change.ensures.draws c.in_ok-count_change.ensures.items,
            counts_then None None t r run.0 (here ++ frame_parts) at both,
          ),
    )

pub returns : goal.returns
returns g c functions r h =
    let run = c.loop-left.invariant.1 functions r h in
    let test = c.loop-left-test.false in
    let none : c.loop-left.left ≡ 0 = omega (arith, test) in
    counts_same None c.args.counting.now.tally r run.0 _
    (sym (append-nil run.0) ∙ ap (λ n. run.0 ++ forms_parts (rounds c.args.size n c.loop-left.draws c.loop-left.items))
    (sym none) ∙ run.1) run.2
