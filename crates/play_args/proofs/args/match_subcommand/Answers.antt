use Rattle.std.proofs.Common.{◌∙◌, ap₂}
use Rattle.clap.specs.Words.{takes}
use Rattle.play_args.proofs.Literals.{moved, run_named, threads_named, check_named, gen_named, run_taken, threads_taken, check_taken, gen_taken}
use Rattle.play_args.proofs.args.match_subcommand.Goals as goal

pub returns-in-Ok-clause-run : goal.returns-in-Ok-clause-run
returns-in-Ok-clause-run c = λ is.
    c.subcommand_name.ensures ∙ run_named c.in-Ok.matches
    (moved _ _ _ c.in-Ok.matches c.in_ok-command_line.ensures is c.in-Ok.ensures.matches)

pub returns-in-Ok-clause-threads : goal.returns-in-Ok-clause-threads
returns-in-Ok-clause-threads c = λ is.
    c.subcommand_name.ensures ∙ threads_named c.in-Ok.matches
    (moved _ _ _ c.in-Ok.matches c.in_ok-command_line.ensures is c.in-Ok.ensures.matches)

pub returns-in-Ok-clause-check : goal.returns-in-Ok-clause-check
returns-in-Ok-clause-check c = λ is.
    c.subcommand_name.ensures ∙ check_named c.in-Ok.matches
    (moved _ _ _ c.in-Ok.matches c.in_ok-command_line.ensures is c.in-Ok.ensures.matches)

pub returns-in-Ok-clause-generated : goal.returns-in-Ok-clause-generated
returns-in-Ok-clause-generated c = λ is.
    c.subcommand_name.ensures ∙ gen_named c.in-Ok.matches
    (moved _ _ _ c.in-Ok.matches c.in_ok-command_line.ensures is c.in-Ok.ensures.matches)

pub returns : goal.returns
returns c = record {
  run =
      λ is. absurd (c.in_default.not-OutOfMemory (c.kind.ensures
      ∙ c.in-Err.ensures.passes (ap₂ takes c.in_ok-command_line.ensures is ∙ run_taken)));
  threads =
      λ is. absurd (c.in_default.not-OutOfMemory (c.kind.ensures
      ∙ c.in-Err.ensures.passes (ap₂ takes c.in_ok-command_line.ensures is ∙ threads_taken)));
  check =
      λ is. absurd (c.in_default.not-OutOfMemory (c.kind.ensures
      ∙ c.in-Err.ensures.passes (ap₂ takes c.in_ok-command_line.ensures is ∙ check_taken)));
  generated =
      λ is. absurd (c.in_default.not-OutOfMemory (c.kind.ensures
      ∙ c.in-Err.ensures.passes (ap₂ takes c.in_ok-command_line.ensures is ∙ gen_taken)));
}
