-- The result of a composed frame for a run.
use Rattle.std.proofs.Common.{◌≡◌, refl, sym, ap, subst, Option, Some, None, Ok, Err}
use Rattle.std.specs.Option.{option_map}
use Rattle.rt_values.specs.Maps.{Map}
use Rattle.rt_groups.specs.declared.report.Report.{Report}
use Rattle.compose_model.specs.Frame.{FrameResult, kept_after}
use Rattle.recomposer.specs.declared.composition.Composition.{Composition}
use Rattle.recomposer.specs.declared.composition.FrameStop.{FrameStop}
use Rattle.recomposer.specs.declared.composition.FrameStop.TheVariants.{TooManyGroups}
use Rattle.recomposer.specs.Compositions.{IsAt}
use Rattle.recomposer.specs.FrameContracts.{frame_result, InShownFrames, ComposesShown}
use Rattle.script_lang.specs.declared.flags.Flags.{Flags}
use Rattle.play_run.specs.RunState.{MadeCalls, ComposesForRun}
use Rattle.play_run.specs.declared.write_lines.Stop.{Stop}

module _ (flags : Flags) (c c' : Composition) (shows : Map → Type 0) where
  pub good_for_run : (report : Report) → ComposesShown c c' shows (Ok report)
      → InShownFrames c shows (λ k m. MadeCalls flags k (frame_result c.program.now k m) c'.ops)
      → ComposesForRun flags c c' shows (Ok (Some report))
  good_for_run report frame calls =
      record { told = frame.report; left = frame.good; calls = calls; program = frame.settings.program }

  -- A frame with too many groups changes nothing.
  pub refused_for_run : (stop : FrameStop) → stop ≡ TooManyGroups → ComposesShown c c' shows (Err stop)
      → ComposesForRun flags c c' shows (Ok None)
  refused_for_run stop is found =
      let frame = subst (λ (x : FrameStop). ComposesShown c c' shows (Err x)) is found in
      record {
        told = λ k m h s. sym (ap (option_map (λ (g : FrameResult). g.told)) (frame.many k m h s refl));
        left = λ k m h s. subst (λ (o : Option FrameResult). IsAt c' (kept_after k o) (Some m))
            (sym (frame.many k m h s refl)) (subst (λ (x : Composition). IsAt x k (Some m)) (sym frame.err) h);
        calls = λ k m h s. subst (λ (o : Option FrameResult). MadeCalls flags k o c'.ops)
            (sym (frame.many k m h s refl)) tt;
        program = frame.settings.program;
      }

  pub stopped_for_run : (stop : Stop) → c'.program ≡ c.program → ComposesForRun flags c c' shows (Err stop)
  stopped_for_run stop program =
      record { told = λ k m h s. tt; left = λ k m h s. tt; calls = λ k m h s. tt; program = program }
