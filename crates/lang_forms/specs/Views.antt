-- Internal: trees and names in memory as the parser sees them, and the results of parsing.
use Rattle.std.specs.Prelude.{◌≡◌, ℕ, List, map, Option, Some, None, Result, Ok, Err}
use Rattle.sexp_text.specs.declared.tree.Tree.{Tree, fold-Tree, size-Tree}
use Rattle.sexp_text.specs.declared.tree.Tree.TheOpen.{Tree-F}
use Rattle.lang_ast.specs.SyntaxView.{functions_view, function_view}
use Rattle.lang_ast.specs.declared.program.State.{State}
use Rattle.lang_forms.specs.declared.stop.FormStop.{FormStop}
use Rattle.lang_forms.specs.declared.stop.FormStop.TheVariants as stops
use Rattle.lang_forms.specs.declared.stop.ParseStop.{ParseStop}
use Rattle.lang_forms.specs.declared.stop.ParseStop.TheVariants.{NoForm, NoMemory}
use Rattle.lang_forms.specs.declared.known_names.KnownNames as memory
use Rattle.lang_forms.specs.declared.partial_source.PartialSource as front
use Rattle.lang_forms.specs.declared.top_forms.TopForm as tops
use Rattle.lang_forms.specs.declared.top_forms.TopForm.TheVariants as forms
use Rattle.lang_forms.specs.Forms.{KnownNames, state_name, function_name}
use Rattle.lang_forms.specs.Readings.{Seen, word, chars, form, roles, Top, StateTop, FunctionTop, DoTop}
use Rattle.lang_forms.specs.TextReading.{PartialSource}
use denote.Param.Weighed.{most}

-- One level of a tree.
abbrev pub seen_step : Tree-F Seen → Seen
seen_step (Tree-F.Atom at name) = word at name
seen_step (Tree-F.Text at codes) = chars at codes.items
seen_step (Tree-F.List at trees) = form at (roles at trees.items)

abbrev pub seen_tree : Tree → Seen
seen_tree = fold-Tree Seen seen_step

abbrev pub seen_all : List Tree → List Seen
seen_all ts = map seen_tree ts

-- The size of the largest tree.
abbrev pub widest : List Tree → ℕ
widest ts = most size-Tree ts

abbrev pub state_names : List State → List (List ℕ)
state_names ss = map state_name ss

abbrev pub known_names_view : memory.KnownNames → KnownNames
known_names_view m = record {
  states = state_names m.states.now;
  functions = map function_name
      (functions_view m.functions.now);
}

abbrev pub top_view : tops.TopForm → Top
top_view (forms.State s) = StateTop s
top_view (forms.Function c) = FunctionTop (function_view c)
top_view (forms.Do d) = DoTop d

abbrev pub partial_source_view : front.PartialSource → PartialSource
partial_source_view p = record {
  header = p.header;
  version = p.version;
  states = p.states.items;
  functions = functions_view p.functions.items;
  script = p.script.items;
  site = p.site;
}

-- The result of parsing a part: the value, or that there is none, or memory ran out.
abbrev pub Reads : {X Y : Type 0} → (X → Y) → Result X ParseStop → Option Y → Type 0
Reads view (Ok x) o = o ≡ Some (view x)
Reads view (Err NoForm) o = o ≡ None
Reads view (Err NoMemory) o = Unit {0}

-- The result of parsing a text: the value, or the offset where it fails, or memory ran out. It has no limit.
abbrev pub Gives : {X Y : Type 0} → (X → Y) → Result X FormStop → Result Y ℕ → Type 0
Gives view (Ok x) r = r ≡ Ok (view x)
Gives view (Err (stops.Form at)) r = r ≡ Err at
Gives view (Err (stops.Limit at)) r = ⊥
Gives view (Err stops.NoMemory) r = Unit {0}
