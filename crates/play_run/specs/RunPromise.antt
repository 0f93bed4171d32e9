-- Trusted: what a run of a script promises of the bytes written and of failed writes.
use Rattle.std.specs.Prelude.{◌≡◌, ◌++◌, ℕ, List, Option, Result, Ok, Err, OnOk, OnErr}
use Rattle.std.specs.Io.KnownBytes.{Appends}
use Rattle.rt_streams.specs.Streams.{AppendsPart, Rose}
use Rattle.lang_ast.specs.Terms.{Func}
use Rattle.script_lang.specs.Lines.{Titles, LineStyle, titles_of}
use Rattle.lang_ast.specs.Programs.{functions_of}
use Rattle.script_lang.specs.declared.flags.Flags.{Flags}
use Rattle.play_run.specs.declared.calls.JobActor.{JobActor}
use Rattle.play_run.specs.declared.job.Job.{Job}
use Rattle.play_run.specs.declared.write_lines.Stop.{Stop}
use Rattle.play_run.specs.declared.write_lines.Stop.TheVariants as stop

-- The names of a checked program with its script.
abbrev pub job_titles : Job → Titles
job_titles job = titles_of job.program job.script

-- How the lines of a job are written with these flags.
abbrev pub job_style : Job → Flags → LineStyle
job_style job flags = record { titles = job_titles job; flags = flags }

-- How the lines of an actor's calls and frames are written.
abbrev pub style_of : JobActor → LineStyle
style_of actor = job_style actor.job.now actor.flags

-- The functions of the program.
abbrev pub job_functions : Job → List Func
job_functions job = functions_of job.program

-- Ok means that all bytes were written, and an error means that a first part of them was.
pub record WritesBytes {T E : Type 0} (before now : Option (List ℕ)) (bytes : List ℕ)
    (result : Result T E) : Type 0 where
  pub all : OnOk result (Appends before now bytes)
  pub part : OnErr result (AppendsPart before now bytes)

-- These bytes were written, and perhaps more.
abbrev pub WritesAtLeast : Option (List ℕ) → Option (List ℕ) → List ℕ → Type 0
WritesAtLeast before now bytes = (more : List ℕ) × Appends before now (bytes ++ more)

-- The count of failed writes of a sink: it rose if the call returned `WriteFault`, else it is unchanged.
abbrev pub FaultsAfter : {T : Type 0} → ℕ → ℕ → Result T Stop → Type 0
FaultsAfter before now (Ok x) = now ≡ before
FaultsAfter before now (Err stop.WriteFault) = Rose before now
FaultsAfter before now (Err stop.NoMemory) = now ≡ before
