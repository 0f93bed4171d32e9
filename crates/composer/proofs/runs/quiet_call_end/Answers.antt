use Rattle.std.proofs.Common.{rules, ◌≡◌, ◌≤◌, ◌<◌, length, arith}
use Rattle.composer.proofs.SkipLoops.{index_grows}
use Rattle.composer.proofs.runs.quiet_call_end.Goals as goal

pub returns : goal.returns
returns c =
    let groups = c.args.last.now.groups in
    let i = c.args.old.now.index in
    let j = c.index_after-after.result in
    let here : i < length groups = search (rules, arith) in
    let index : c.index-index.result ≡ i = c.index-index.ensures.index in
    let less = index_grows groups c.index-index.result j (search (rules, arith)) c.index_after-after.ensures.after
    c.index_after-after.ensures.inside in
    let before = c.if-next_owed-after.false in
    let low : i ≤ j = omega (arith, less, index) in
    record {
      order = low;
      inside = c.index_after-after.ensures.inside;
      depth_is = search (rules, arith);
      site_is = search (rules, arith);
      number_is = search (rules, arith);
      after = search rules;
      quiet = c.next_owed.ensures i j (omega (arith, index)) (omega (arith, before)) c.index_after-after.ensures.inside;
    }
