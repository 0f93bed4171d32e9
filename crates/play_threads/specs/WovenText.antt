-- Trusted: what `threads` writes for a program and a script.
use Rattle.std.specs.Prelude.{◌≡◌, ℕ, List, [], length, true, Option, None, Result}
use Rattle.lang_ast.specs.Terms.{Func}
use Rattle.lang_ast.specs.declared.script.DoForm.{DoForm}
use Rattle.snap_policy.specs.Table.{table}
use Rattle.snap_api.specs.World.{History, IsLegal}
use Rattle.script_lang.specs.Lines.{LineStyle, actor_name, initial_standing}
use Rattle.lang_script.specs.Scripts.{actors_of}
use Rattle.lang_script.specs.ScriptFaults.{script_faults}
use Rattle.lang_script.specs.StepCalls.{script_parts, opening_world}
use Rattle.script_lang.specs.declared.flags.Flags.{Flags}
use Rattle.play_laws.specs.Laws.{AreActorNames, text_of}
use Rattle.play_laws.specs.Woven.{initial_actor, IsWoven}
use Rattle.play_run.specs.RunPromise.{WritesBytes, job_style, job_functions}
use Rattle.play_run.specs.declared.job.Job.{Job}

-- A history of a script whose actors take turns in any order: each reply is the plain world's, and of each actor the
-- calls are those that its steps make, in order, and no one else calls. The reads of frames are left out.
pub record IsScriptHistory (style : LineStyle) (forms : List DoForm) (h : History) : Type 0 where
  pub legal : IsLegal table (opening_world style.titles.states) h
  pub woven : IsWoven (length style.titles.actors) (initial_actor (script_parts style.titles.actors forms)) h

-- The bytes are the lines of such a history.
pub record IsWovenText (style : LineStyle) (functions : List Func) (forms : List DoForm) (bytes : List ℕ) : Type 0 where
  pub history : History
  pub possible : IsScriptHistory style forms history
  pub is : bytes ≡ text_of style functions (initial_standing style.titles.states) history

-- Two histories of a script with the same lines are equal.
abbrev pub TextTellsItsHistory : Type 0
TextTellsItsHistory = (style : LineStyle) (functions : List Func) (forms : List DoForm) (h k : History) →
    AreActorNames (length style.titles.actors) (actor_name style.titles.actors) →
    IsScriptHistory style forms h → IsScriptHistory style forms k →
    let standing = initial_standing style.titles.states in
    text_of style functions standing h ≡ text_of style functions standing k → h ≡ k

-- The script of a job has no fault, not even one for `threads`, and its actors are numbered.
pub record HasNoFault (job : Job) : Type 0 where
  pub actors : job.script.actors.items ≡ actors_of job.script.forms.items
  pub fine : script_faults true job.program.states.items None job.script.forms.items ≡ []

-- Lines of a history of the job's script were written, or a first part of them.
abbrev pub WritesWovenText : {T E : Type 0} → Option (List ℕ) → Option (List ℕ) → Flags → Job → Result T E → Type 0
WritesWovenText before now flags job result =
    (out : List ℕ) × IsWovenText (job_style job flags) (job_functions job) job.script.forms.items out
    × WritesBytes before now out result
