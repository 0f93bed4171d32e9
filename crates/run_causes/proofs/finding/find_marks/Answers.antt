use Rattle.std.proofs.Common.{◌≡◌, ◌<◌, ℕ, Option, None, length, sym, subst, ◌∙◌, arith}
use Rattle.std.specs.Prelude.{IfSome, slice_index_or}
use Rattle.std.proofs.lemmas.List.{get_or_default}
use Rattle.run_causes.proofs.BelowLevels.{found_at}
use Rattle.run_causes.proofs.FoundMarks.{all_marked}
use Rattle.run_causes.proofs.finding.find_marks.Goals as goal

pub mark_at-requires : goal.mark_at-requires
mark_at-requires c =
    let olds = c.in_ok-olds.olds in
    let n = length c.args.old.now.groups in
    let more = c.loop-i-test.true in
    let many = c.len-i-end.ensures in
    let count = c.in_ok-olds.ensures.count in
    let long = olds.ok.0 in
    let few : c.loop-i.i < length olds.items = omega (arith, more, many, count, long) in
    let is : c.index.result.now ≡ slice_index_or olds.items c.loop-i.i None =
    c.index.ensures ∙ get_or_default olds.items c.loop-i.i c.index.result.now None few in
    subst (λ (f : Option ℕ). IfSome f (λ i. i < n)) (sym is)
    (found_at n c.loop-i.i olds.items c.in_ok-olds.ensures.below)

pub returns : goal.returns
returns c = λ before after old new.
    let done = c.loop-i-test.false in
    let many = c.len-i-end.ensures in
    all_marked c.args.owed.now before after c.args.old.now.groups c.args.new.now.groups c.loop-i.i c.loop-i.runs.items
    c.loop-i.marks.items c.in_ok-olds.olds.items old new (c.in_ok-olds.ensures.olds before after old new)
    (omega (arith, done, many)) c.loop-i.invariant.1
