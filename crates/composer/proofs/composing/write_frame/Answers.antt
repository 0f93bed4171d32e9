use Rattle.std.proofs.Common.{◌≡◌, ◌∙◌, [], List, None, refl, ap, sym, subst}
use Rattle.rt_groups.specs.GroupForest.{End, Call}
use Rattle.lang_ast.specs.Terms.{Func}
use Rattle.lang_ast.specs.SyntaxView.{functions_view}
use Rattle.compose_model.specs.Composing.{meaning_at, meanings}
use Rattle.composer.specs.FrameDrafts.{root_of}
use Rattle.lang_ast.specs.Programs.{functions_of}
use Rattle.composer.specs.BesideContracts.{LastComposition, IsSince}
use Rattle.composer.specs.ComposerState.{run_beside, skipped_groups}
use Rattle.composer.specs.WrittenGroups.{state_of}
use Rattle.composer.proofs.OldParts.{part_end}
use Rattle.composer.proofs.Reaching.{reached_at}
use Rattle.composer.proofs.Sound.{sound}
use Rattle.composer.proofs.WholeFrames.{since_map, some_kept, begins_whole, anew_reached, skipped_reached}
use Rattle.composer.proofs.composing.write_frame.Goals as goal

pub returns-then-owes_all : goal.returns-then-owes_all
returns-then-owes_all g c = record {
  keeps = c.run_body.ensures.keeps;
  same = c.run_body.ensures.same;
  in_hand = c.run_body.ensures.in_hand;
  longer = c.run_body.ensures.longer;
  fits = c.run_body.ensures.fits;
  counted = c.run_body.ensures.counted;
  ran = λ m h seen t own e owing.
      let fs = functions_of c.args.program.now in
      let checked = c.functions.ensures.checked in
      let p = sound c.args.program.now checked.numbered checked.fine in
      let l : LastComposition = record { map = m; functions = fs; calculation = p.calculation } in
      let same : functions_view c.functions.result.now ≡ fs = ap functions_view c.functions.ensures.functions in
      let since = subst (λ (gs : List Func). IsSince l gs) (sym same) (since_map fs p m) in
      let s = state_of c.args.made.now.writer (g.V.View.asked c.args.view.now) own in
      let r = c.run_body.ensures.ran m h l None own since (part_end l c.args.last.now.owed.objects m) tt in
      anew_reached fs (root_of c.args.program.now) seen t m c.args.last.now.owed [] s refl owing
      (sym c.owes_all.ensures ∙ c.if-owes_all.true)
      (reached_at (ap (λ vs. run_beside c.args.last.now.owed.objects End 0 0 (Call c.root-root.result vs)
      (meaning_at (meanings m (functions_view c.functions.result.now)) c.root-root.result vs) s) c.new.ensures
      ∙ ap (λ n. run_beside c.args.last.now.owed.objects End 0 0 (Call n [])
      (meaning_at (meanings m (functions_view c.functions.result.now)) n []) s) c.root-root.ensures.root
      ∙ ap (λ (gs : List Func). run_beside c.args.last.now.owed.objects End 0 0 (Call (root_of c.args.program.now) [])
      (meaning_at (meanings m gs) (root_of c.args.program.now) []) s) same) r);
}

pub returns : goal.returns
returns g c = record {
  keeps = c.skip_all.ensures.keeps;
  same = c.skip_all.ensures.same;
  in_hand = c.skip_all.ensures.in_hand;
  longer = c.skip_all.ensures.longer;
  fits = c.skip_all.ensures.fits;
  counted = c.skip_all.ensures.counted;
  ran = λ m h seen t own e owing.
      let fs = functions_of c.args.program.now in
      let checked = c.functions.ensures.checked in
      let p = sound c.args.program.now checked.numbered checked.fine in
      let k = some_kept fs p (root_of c.args.program.now) seen t m c.args.last.now.owed owing
      (sym c.owes_all.ensures ∙ c.if-owes_all.false) in
      let l : LastComposition = record { map = k.seen; functions = fs; calculation = p.calculation } in
      let same : functions_view c.functions.result.now ≡ fs = ap functions_view c.functions.ensures.functions in
      let since = subst (λ (gs : List Func). IsSince l gs) (sym same) (since_map fs p k.seen) in
      let s = state_of c.args.made.now.writer (g.V.View.asked c.args.view.now) own in
      let r = c.skip_all.ensures.ran m h l t own since k.part (begins_whole c.args.last.now.groups t e) in
      skipped_reached fs p (root_of c.args.program.now) t m c.args.last.now.owed.objects s k
      (reached_at (ap (λ (gs : List Func). skipped_groups m c.args.last.now.owed.objects t gs 0 s) same) r);
}
