-- Law: an output of `threads` tells its history.
use Rattle.std.specs.Prelude.{◌≡◌, ℕ, List, true}
use Rattle.lang_forms.specs.Sources.{Source}
use Rattle.snap_api.specs.World.{History}
use Rattle.script_lang.specs.Lines.{initial_standing}
use Rattle.script_lang.specs.declared.flags.Flags.{Flags}
use Rattle.play_laws.specs.Laws.{text_of}
use Rattle.play_threads.specs.WovenText.{IsScriptHistory}
use Rattle.play_core.specs.Texts.{IsText, style}

-- Two histories of a source text whose actors take turns are equal if their lines are equal.
abbrev pub OutputTellsItsHistory : Type 0
OutputTellsItsHistory = (flags : Flags) (bytes : List ℕ) (t : Source) (h k : History) → IsText true bytes t →
    IsScriptHistory (style t flags) t.script h → IsScriptHistory (style t flags) t.script k →
    let lines = text_of (style t flags) t.program.functions (initial_standing t.program.states) in
    lines h ≡ lines k → h ≡ k
