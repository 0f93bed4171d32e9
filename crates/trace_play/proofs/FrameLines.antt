-- The line of a frame, by its result.
use Rattle.std.proofs.Common.{◌≡◌, List, map, Option, Some, None, refl, ap, ◌∙◌, true}
use Rattle.std.specs.Option.{option_map}
use Rattle.rt_groups.specs.PreorderGroups.{preorder}
use Rattle.rt_groups.specs.Frames.{LastFrame}
use Rattle.rt_groups.specs.declared.report.Report.{Report}
use Rattle.lang_ast.specs.Terms.{Func}
use Rattle.compose_model.specs.Frame.{FrameResult, kept_after}
use Rattle.node_tree.specs.declared.ops.Op.{Op}
use Rattle.script_lang.specs.declared.flags.Flags.{Flags}
use Rattle.script_lang.specs.Lines.{Titles, op_text}
use Rattle.run_causes.specs.Causes.{marks}
use Rattle.play_run.specs.RunState.{MadeCalls}
use Rattle.trace_lines.specs.TraceLines.{FrameHead, names_of, good_frame_line, refused_frame_line}
use Rattle.trace_play.specs.TraceText.{frame_line}

module _ (titles : Titles) (functions : List Func) (h : FrameHead) (k : LastFrame) where
  -- A good frame, with its report and its calls on an applier.
  pub good_line : (flags : Flags) → flags.ops ≡ true → (good : Option FrameResult) (told : Report) (ops : List Op)
      → Some told ≡ option_map (λ g. g.told) good → MadeCalls flags k good ops →
      good_frame_line (names_of titles.states functions) h told (preorder 0 (kept_after k good).trail)
      (marks h.owed k.trail (kept_after k good).trail) (map op_text ops) ≡ frame_line titles functions h k good
  good_line flags listed None told ops is made = absurd cc
  good_line flags listed (Some g) told ops is made =
      let same : told ≡ g.told = cc in
      ap (λ r. good_frame_line (names_of titles.states functions) h r (preorder 0 g.left.trail)
      (marks h.owed k.trail g.left.trail) (map op_text ops)) same
      ∙ ap (λ os. good_frame_line (names_of titles.states functions) h g.told (preorder 0 g.left.trail)
      (marks h.owed k.trail g.left.trail) (map op_text os)) (made listed)

  -- A frame without a report was refused.
  pub refused_line : (good : Option FrameResult) → None ≡ option_map (λ g. g.told) good
      → refused_frame_line (names_of titles.states functions) h ≡ frame_line titles functions h k good
  refused_line None is = refl
  refused_line (Some g) is = absurd cc

  -- It keeps what was kept.
  pub refused_keeps : (good : Option FrameResult) → None ≡ option_map (λ g. g.told) good → k ≡ kept_after k good
  refused_keeps None is = refl
  refused_keeps (Some g) is = absurd cc
