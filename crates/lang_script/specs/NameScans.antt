-- Internal: the state of the check of names, step by step.
use Rattle.std.specs.Prelude.{◌≡◌, List, [], ◌∷◌, Bool, Option}
use Rattle.lang_ast.specs.declared.program.State.{State}
use Rattle.lang_script.specs.NamesInMemory.{Holds}
use Rattle.lang_script.specs.ScriptFaults.{FirstUses, TextStep, uses_after, step_faults, first_of_faults}
use Rattle.lang_script.specs.declared.faults.ScriptStop.{ScriptStop}
use Rattle.lang_script.specs.declared.uses.NameCheck.{NameCheck}

-- What the steps so far say of names, and the fault so far that goes first.
pub record Scan : Type 0 where
  pub uses : FirstUses
  pub least : Option ScriptStop

module _ (threads : Bool) (states : List State) where
  abbrev pub scan : Scan → TextStep → Scan
  scan s t = record {
    uses = uses_after s.uses t;
    least = first_of_faults s.least (step_faults threads states s.uses t);
  }

  abbrev pub scans : Scan → List TextStep → Scan
  scans s [] = s
  scans s (t ∷ ts) = scans (scan s t) ts

  -- The check in memory is at this state.
  abbrev pub IsAt : NameCheck → Scan → Type 0
  IsAt c s = Holds c.takers s.uses.takers × (c.framer ≡ s.uses.framer) × (c.least ≡ s.least)
      × (c.threads ≡ threads) × (c.states.now ≡ states)
