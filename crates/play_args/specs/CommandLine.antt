-- Internal: the command line as clap describes it: the commands are subcommands.
use Rattle.std.specs.Prelude.{ℕ, List, codes, true}
use Rattle.clap.specs.Words.{App, new_app, with_subcommand}
use Rattle.clap.specs.Simple.{on_top}

-- The command line with a further command of this name, which has no arguments of its own.
abbrev pub with_command : App → List ℕ → App
with_command line name = with_subcommand line (new_app name).top

-- The commands that replay a script. No argument is the program's name.
abbrev pub replay_app : App
replay_app =
    with_command
    (with_command (on_top (λ s. record s { no_binary_name = true }) (new_app (codes "compose_play"))) (codes "run"))
    (codes "threads")

-- All commands: those that replay a script, `check` and `gen`.
abbrev pub command_app : App
command_app = with_command (with_command replay_app (codes "check")) (codes "gen")
