use Rattle.std.proofs.Common.{◌≡◌, ap, ◌∙◌, ◌++◌, map}
use Rattle.rt_groups.specs.PreorderGroups.{preorder}
use Rattle.run_causes.specs.Causes.{marks}
use Rattle.script_lang.specs.Lines.{op_text}
use Rattle.play_run.proofs.Written.{says_same}
use Rattle.trace_lines.specs.TraceLines.{line, program_names, head_view, good_frame_tokens}
use Rattle.trace_play.proofs.frames.write_good_frame.Goals as goal

pub returns-clause-says : goal.returns-clause-says
returns-clause-says g c before after k l last at trail =
    let names = program_names c.args.job.now.program in
    let head = head_view c.args.head.now in
    let told = c.args.report.now in
    let groups_are : c.table-table.result.now.groups ≡ preorder 0 after =
    c.table-table.ensures k l at ∙ ap (preorder 0) trail in
    let marks_are : c.deref.result.now ≡ marks c.args.head.now.owed.now before after =
    c.deref.ensures.value ∙ c.in-Ok.ensures before after last groups_are in
    says_same c.end_line.result _ _ _ _
    (ap line (c.in-Ok-put_good_frame.ensures.tokens
    ∙ ap (λ ts. ts ++ good_frame_tokens names head told c.table-table.result.now.groups c.deref.result.now
    (map op_text c.ops.result.now)) c.begin_line-line.ensures.tokens
    ∙ ap (λ gs. good_frame_tokens names head told gs c.deref.result.now (map op_text c.ops.result.now)) groups_are
    ∙ ap (λ ms. good_frame_tokens names head told (preorder 0 after) ms (map op_text c.ops.result.now)) marks_are
    ∙ ap (λ os. good_frame_tokens names head told (preorder 0 after) (marks c.args.head.now.owed.now before after)
    (map op_text os)) c.ops.ensures))
    c.end_line.ensures.says
