-- Trusted: the promise of `play`: what each status means, and when it comes.
use Rattle.std.specs.Prelude.{◌≡◌, ◌≢◌, ◌⊎◌, ◌<◌, ◌≤◌, ◌+◌, ℕ, List, length, Bool, true, false, Option, Some, None, IfSome}
use Rattle.std.specs.Io.KnownBytes.{Appends, Keeps, IsAtEnd}
use Rattle.rt_streams.specs.Streams.{Rose, AppendsPart, rise}
use Rattle.lang_forms.specs.Sources.{Source}
use Rattle.play_args.specs.CommandWords.{command_of_args}
use Rattle.play_args.specs.declared.command.Command.{Command}
use Rattle.play_args.specs.declared.command.Command.TheVariants.{Run, Threads, Check, Gen}
use Rattle.script_lang.specs.declared.flags.Flags.{Flags}
use Rattle.lang_script.specs.Scripts.{actors_of}
use Rattle.lang_script.specs.StepCalls.{script_parts}
use Rattle.snap_api.specs.declared.data.Entry.{Entry}
use Rattle.play_run.specs.RunLog.{LogsRun, StopsRun}
use Rattle.play_core.specs.Texts.{IsText, IsNoText, IsOutput, has_threads, has_input, gen_output, titles, style, usage_line, long_line, input_limit}
use Rattle.play_core.specs.Faults.{IsFault, WritesPart, fault_line}
use Rattle.play_core.specs.declared.fault.Fault.{Fault}
use Rattle.play_core.specs.declared.top.Status.{Status}
use Rattle.play_core.specs.declared.top.Status.TheVariants as status

-- What the source and the sink show at one time.
pub record Streams : Type 0 where
  -- The bytes that the source will still give, if the source shows them.
  pub left : Option (List ℕ)
  -- The number of bytes that were taken from the source, modulo 2^64.
  pub taken : ℕ
  -- The number of reads that failed.
  pub read_faults : ℕ
  -- The bytes that the sink was given, if the sink shows them.
  pub written : Option (List ℕ)
  -- The number of writes that failed.
  pub write_faults : ℕ

-- What a source and a sink show, by their own measures.
abbrev pub streams : {S K : Type 0} → (S → Option (List ℕ)) → (S → ℕ) → (S → ℕ) →
    (K → Option (List ℕ)) → (K → ℕ) → S → K → Streams
streams left taken read_faults written write_faults source sink = record {
  left = left source;
  taken = taken source;
  read_faults = read_faults source;
  written = written sink;
  write_faults = write_faults sink;
}

-- The call failed for a reason outside the input: out of memory, or a read or a write failed and was counted.
abbrev pub HasFailed : Streams → Streams → Status → Type 0
HasFailed before after result =
    (result ≡ status.NoMemory)
    ⊎ (((result ≡ status.ReadFault) × Rose before.read_faults after.read_faults)
    ⊎ ((result ≡ status.WriteFault) × Rose before.write_faults after.write_faults))

-- The bytes are a source text, and an output that `may` allows for both was written.
abbrev pub WritesOutput : Bool → (List ℕ → Source → List ℕ → Type 0) → Streams → Streams → List ℕ → Type 0
WritesOutput threads may before after bytes =
    (t : Source) × IsText threads bytes t
    × ((out : List ℕ) × may bytes t out × Appends before.written after.written out)

-- The bytes are not a source text, and the line of their fault was written.
abbrev pub WritesFault : Bool → Streams → Streams → List ℕ → Type 0
WritesFault threads before after bytes =
    IsNoText threads bytes
    × ((fault : Fault) × IsFault threads bytes fault × Appends before.written after.written (fault_line fault))

-- The promise for what reads an input: it ended with `result`, and the streams showed `before` at its start and `after`
-- at its end. `threads`: whether each actor has snapshot names of its own. `may bytes t out`: whether `out` may be
-- written for the source text `t` of the input `bytes`.
pub record TextMeets (threads : Bool) (may : List ℕ → Source → List ℕ → Type 0) (before after : Streams)
    (result : Status) : Type 0 where
  -- An input is never answered with the usage line.
  pub not_usage : result ≢ status.Usage
  -- Done: the whole input was read and is a source text, and an output for it was written.
  pub done : result ≡ status.Done →
      IfSome before.left (λ bytes.
      IsAtEnd after.left × (length bytes ≤ input_limit) × WritesOutput threads may before after bytes)
  -- BadInput: the whole input was read and is not a source text, and the line of its fault was written.
  pub bad_input : result ≡ status.BadInput →
      IfSome before.left (λ bytes.
      IsAtEnd after.left × (length bytes ≤ input_limit) × WritesFault threads before after bytes)
  -- TooLong: more than `input_limit` bytes were taken, and the line for it was written.
  pub too_long : result ≡ status.TooLong →
      (input_limit < rise before.taken after.taken) × Appends before.written after.written long_line
  -- If more than `input_limit` bytes were taken, the result is TooLong, or the sink failed while that line was
  -- written.
  pub long_told : input_limit < rise before.taken after.taken →
      (result ≡ status.TooLong) ⊎ ((result ≡ status.WriteFault) × AppendsPart before.written after.written long_line)
  -- ReadFault: a read failed, and nothing was written.
  pub read_fault : result ≡ status.ReadFault →
      Rose before.read_faults after.read_faults × Keeps before.written after.written
  -- WriteFault: a write failed.
  pub write_fault : result ≡ status.WriteFault → Rose before.write_faults after.write_faults
  -- WriteFault or NoMemory, if the input is not too long: a first part of what is written for the input was written.
  pub part : rise before.taken after.taken ≤ input_limit →
      (result ≡ status.WriteFault) ⊎ (result ≡ status.NoMemory) →
      IfSome before.left (λ bytes. WritesPart threads may bytes before.written after.written)
  -- A source text within the limit is done, unless the call failed.
  pub complete : (bytes : List ℕ) (t : Source) → before.left ≡ Some bytes → length bytes ≤ input_limit →
      IsText threads bytes t →
      (result ≡ status.Done) ⊎ HasFailed before after result
  -- Other bytes within the limit are rejected, unless the call failed.
  pub refused : (bytes : List ℕ) → before.left ≡ Some bytes → length bytes ≤ input_limit →
      IsNoText threads bytes →
      (result ≡ status.BadInput) ⊎ HasFailed before after result
  -- Bytes within the limit that have a fault are rejected with exactly the line of that fault, unless the call
  -- failed.
  pub faulty : (bytes : List ℕ) (fault : Fault) → before.left ≡ Some bytes → length bytes ≤ input_limit →
      IsFault threads bytes fault →
      ((result ≡ status.BadInput) × Appends before.written after.written (fault_line fault))
      ⊎ HasFailed before after result
  -- At most one byte more than the limit is taken from the source.
  pub at_most : rise before.taken after.taken ≤ input_limit + 1

-- Exactly this output is written for each source text.
abbrev pub exactly : (List ℕ → Source → List ℕ) → List ℕ → Source → List ℕ → Type 0
exactly output bytes t out = out ≡ output bytes t

-- What a command may write for a source text.
abbrev pub allowed_by : Command → List ℕ → Source → List ℕ → Type 0
allowed_by c bytes t out = IsOutput c (Some t) out

-- The promise for a command with an input.
abbrev pub CommandMeets : Command → Streams → Streams → Status → Type 0
CommandMeets c before after result = TextMeets (has_threads c) (allowed_by c) before after result

-- The promise for `gen`, which reads nothing.
pub record GenMeets (number size : ℕ) (before after : Streams) (result : Status) : Type 0 where
  -- The result is one of three.
  pub answers : (result ≡ status.Done) ⊎ ((result ≡ status.WriteFault) ⊎ (result ≡ status.NoMemory))
  -- Done: the summary was written.
  pub done : result ≡ status.Done → Appends before.written after.written (gen_output number size)
  -- WriteFault or NoMemory: a first part of the summary was written.
  pub part : (result ≡ status.WriteFault) ⊎ (result ≡ status.NoMemory) →
      AppendsPart before.written after.written (gen_output number size)
  -- WriteFault: a write failed.
  pub write_fault : result ≡ status.WriteFault → Rose before.write_faults after.write_faults

-- The usage line was written, unless the sink failed.
abbrev pub IsUsage : Option (List ℕ) → ℕ → Option (List ℕ) → ℕ → Status → Type 0
IsUsage before faults after faults' result =
    ((result ≡ status.Usage) × Appends before after usage_line)
    ⊎ ((result ≡ status.WriteFault) × Rose faults faults' × AppendsPart before after usage_line)

-- The promise of `play` for these arguments.
pub record PlayMeets (words : List (List ℕ)) (before after : Streams) (result : Status) : Type 0 where
  -- If the arguments ask for no command, the usage line is written, unless the sink fails or the process is out of
  -- memory.
  pub no_command : command_of_args words ≡ None →
      IsUsage before.written before.write_faults after.written after.write_faults result
      ⊎ ((result ≡ status.NoMemory) × Keeps before.written after.written)
  -- If the arguments ask for a command with an input, the result is that of the command.
  pub command : (c : Command) → command_of_args words ≡ Some c → has_input c ≡ true → CommandMeets c before after result
  -- If the arguments ask for `gen`, the result is that of `gen`.
  pub generated : (number size : ℕ) → command_of_args words ≡ Some (Gen number size) →
      GenMeets number size before after result
  -- No read failed, unless the result is ReadFault.
  pub reads : result ≢ status.ReadFault → after.read_faults ≡ before.read_faults
  -- No write failed, unless the result is WriteFault.
  pub writes : result ≢ status.WriteFault → after.write_faults ≡ before.write_faults

-- A log grew by the calls of a run of this source text, if there is one.
abbrev pub LogsText : Source → Option (List Entry) → Option (List Entry) → Type 0
LogsText t old new = LogsRun (titles t) t.program.functions (script_parts (actors_of t.script) t.script) old new

-- If `run` is done, the log of the world grew by the calls of the run.
abbrev pub LogsCommand : Option Command → Status → Option (List ℕ) → Option (List Entry) → Option (List Entry) → Type 0
LogsCommand o result left old new =
    (flags : Flags) → o ≡ Some (Run flags) → result ≡ status.Done →
    IfSome left (λ bytes. (t : Source) → IsText false bytes t → LogsText t old new)

-- A run of this source text with these flags stopped before its end. The log of the world, if there is one, grew by the
-- calls of a first part of the run, and the lines of all these calls but the last were written.
abbrev pub StopsText : Flags → Source → Option (List Entry) → Option (List Entry) → Option (List ℕ) → Option (List ℕ)
    → Type 0
StopsText flags t old new before now =
    StopsRun (style t flags) t.program.functions (script_parts (actors_of t.script) t.script) old new before now

-- If `run` failed at a write or is out of memory, no call was made after the line that was not written.
abbrev pub StopsCommand : Option Command → Status → Option (List ℕ) → Option (List Entry) → Option (List Entry)
    → Option (List ℕ) → Option (List ℕ) → Type 0
StopsCommand o result left old new before now =
    (flags : Flags) → o ≡ Some (Run flags) → (result ≡ status.WriteFault) ⊎ (result ≡ status.NoMemory) →
    IfSome left (λ bytes. (t : Source) → IsText false bytes t → StopsText flags t old new before now)

-- Nothing is read: the arguments ask for no command, or for one without input.
abbrev pub NeedsNoInput : Option Command → Type 0
NeedsNoInput o = IfSome o (λ c. has_input c ≡ false)

-- The commands that make no call on the lent world: `threads` makes a world of its own.
abbrev pub KeepsWorld : Command → Type 0
KeepsWorld (Run flags) = ⊥
KeepsWorld (Threads flags) = Unit {0}
KeepsWorld Check = Unit {0}
KeepsWorld (Gen number size) = ⊥

-- The cases in which the lent world is unchanged: no command, `check`, `threads`, and every rejected input.
abbrev pub LeavesWorld : Option Command → Status → Type 0
LeavesWorld o result =
    (o ≡ None)
    ⊎ (((c : Command) × (o ≡ Some c) × KeepsWorld c)
    ⊎ ((result ≡ status.Usage) ⊎ ((result ≡ status.BadInput)
    ⊎ ((result ≡ status.TooLong) ⊎ (result ≡ status.ReadFault)))))
