use Rattle.std.proofs.Common.{refl, sym, ap, ◌∙◌, subst, ◌≡◌, OnErr, Some}
use Rattle.sexp_text.specs.Layout.{lines}
use Rattle.sexp_text.specs.View.{forest_view}
use Rattle.play_core.specs.CommandOutput.{SaysOutput}
use Rattle.play_core.specs.Texts.{IsOutput, run_output, check_output}
use Rattle.play_core.proofs.TreeLines.{check-is}
use Rattle.play_core.proofs.Plays.{run-is, logs-is, stops-is}
use Rattle.play_run.proofs.Written.{says_same}
use Rattle.script_lang.specs.declared.flags.Flags.{Flags}
use Rattle.lang_script.specs.StepCalls.{script_parts}
use Rattle.play_args.specs.declared.command.Command.TheVariants.{Run}
use Rattle.play_run.specs.RunLog.{StopsRun}
use Rattle.play_run.specs.RunPromise.{job_style, job_functions}
use Rattle.play_core.proofs.top.do_command.Goals as goal

pub returns-in-Run-clause-says : goal.returns-in-Run-clause-says
returns-in-Run-clause-says g c bytes p read text =
    subst (λ k. SaysOutput (g.K.Sink.written c.args.sink.now) (g.K.Sink.written c.run_script.new.sink)
    (IsOutput k (Some p)) c.run_script.result) (sym c.in-Run.is) (
      run_output c.in-Run.flags p,
      refl,
      says_same _ _ _ _ _ (run-is c.in-Run.flags read.read p text) c.run_script.ensures.says,
    )

pub returns-in-Check-clause-says : goal.returns-in-Check-clause-says
returns-in-Check-clause-says g c bytes p read text =
    subst (λ k. SaysOutput (g.K.Sink.written c.args.sink.now) (g.K.Sink.written c.write_canonical.new.sink)
    (IsOutput k (Some p)) c.write_canonical.result) (sym c.in-Check.is) (
      check_output p,
      refl,
      says_same _ _ _ _ _
          (ap (λ ts. lines (forest_view ts)) c.deref.ensures.value
          ∙ check-is bytes c.args.input.trees.items p read.spelled text) c.write_canonical.ensures.says,
    )

pub returns-in-Run-clause-log : goal.returns-in-Run-clause-log
returns-in-Run-clause-log g c bytes p flags run read text =
    logs-is read.read p text c.run_script.result (g.V.Versions.log c.args.world.now)
    (g.V.Versions.log c.run_script.new.world) c.run_script.ensures.log

pub returns-in-Run-clause-stops : goal.returns-in-Run-clause-stops
returns-in-Run-clause-stops g c bytes p flags run read text =
    let same : c.in-Run.flags ≡ flags = (let e : Run c.in-Run.flags ≡ Run flags = sym c.in-Run.is ∙ run in cc) in
    stops-is flags read.read p text c.run_script.result (g.V.Versions.log c.args.world.now)
    (g.V.Versions.log c.run_script.new.world) (g.K.Sink.written c.args.sink.now)
    (g.K.Sink.written c.run_script.new.sink)
    (subst (λ (f : Flags). OnErr c.run_script.result
    (StopsRun (job_style c.args.input.job f) (job_functions c.args.input.job)
    (script_parts c.args.input.job.script.actors.items c.args.input.job.script.forms.items)
    (g.V.Versions.log c.args.world.now) (g.V.Versions.log c.run_script.new.world)
    (g.K.Sink.written c.args.sink.now) (g.K.Sink.written c.run_script.new.sink))) same
    c.run_script.ensures.stops)
