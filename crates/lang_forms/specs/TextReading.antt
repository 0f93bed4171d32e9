-- Internal: the parser of whole source texts, and the offset where it fails.
use Rattle.std.specs.Prelude.{ℕ, ◌&&◌, List, [], ◌∷◌, ◌++◌, map, Bool, true, false, Option, Some, None, Result, Ok, Err}
use Rattle.lang_ast.specs.Terms.{Func}
use Rattle.lang_ast.specs.declared.program.State.{State}
use Rattle.lang_ast.specs.declared.program.Version.{Version}
use Rattle.lang_ast.specs.declared.script.DoForm.{DoForm}
use Rattle.lang_forms.specs.Sources.{Source}
use Rattle.lang_forms.specs.Forms.{KnownNames, state_name, function_name}
use Rattle.lang_forms.specs.Readings.{◌>>=◌, when, Top, StateTop, FunctionTop, DoTop, Seen, offset_of, top_at, header_at}

-- The part of a source text that is parsed already, and the number of the next statement.
pub record PartialSource : Type 0 where
  pub header : ℕ
  pub version : Version
  pub states : List State
  pub functions : List Func
  pub script : List DoForm
  pub site : ℕ

abbrev pub known_names : PartialSource → KnownNames
known_names p = record { states = map state_name p.states; functions = map function_name p.functions }

abbrev pub source : PartialSource → Source
source p = record {
  program = record { header = p.header; version = p.version; states = p.states; functions = p.functions };
  script = p.script;
}

abbrev pub is_none : {A : Type 0} → List A → Bool
is_none [] = true
is_none (a ∷ more) = false

-- The part with a further top form. None if that is out of order: a state after a function, or a state or a function
-- after a script. k is the number of the next statement.
abbrev pub source_with_form : PartialSource → Top → ℕ → Option PartialSource
source_with_form p (StateTop s) k =
    when (is_none p.functions && is_none p.script)
    (record {
      header = p.header;
      version = p.version;
      states = p.states ++ s ∷ [];
      functions = p.functions;
      script = p.script;
      site = k;
    })
source_with_form p (FunctionTop c) k =
    when (is_none p.script)
    (record {
      header = p.header;
      version = p.version;
      states = p.states;
      functions = p.functions ++ c ∷ [];
      script = p.script;
      site = k;
    })
source_with_form p (DoTop d) k = Some
    (record {
      header = p.header;
      version = p.version;
      states = p.states;
      functions = p.functions;
      script = p.script ++ d ∷ [];
      site = k;
    })

-- The part with a further tree. None if that is no top form, or out of order.
abbrev pub source_with_tree : PartialSource → Seen → Option PartialSource
source_with_tree p s = top_at (known_names p) p.site s >>= λ t. source_with_form p t.0 t.1

-- The part with what a tree is parsed as and with the trees after it, or the offset of the tree.
abbrev pub source_with_rest : {A : Type 0} → ℕ → Option A → (A → Result PartialSource ℕ) → Result PartialSource ℕ
source_with_rest at None go = Err at
source_with_rest at (Some q) go = go q

-- The part with all the trees, or the offset of the first that is no top form or out of order.
unfoldable pub tops_of : PartialSource → List Seen → Result PartialSource ℕ
tops_of p [] = Ok p
tops_of p (s ∷ ss) = source_with_rest (offset_of s) (source_with_tree p s) (λ q. tops_of q ss)

-- The part that has only a header.
abbrev pub start : ℕ → Version → PartialSource
start at v = record { header = at; version = v; states = []; functions = []; script = []; site = 1 }

-- The parsed trees of a text: the header, and the top forms after it. Without trees the header is missing at `end`.
unfoldable pub text_of : ℕ → List Seen → Result PartialSource ℕ
text_of end [] = Err end
text_of end (s ∷ ss) = source_with_rest (offset_of s) (header_at s) (λ v. tops_of (start (offset_of s) v) ss)

-- The program and the script that are parsed.
abbrev pub source_or_offset : Result PartialSource ℕ → Result Source ℕ
source_or_offset (Ok p) = Ok (source p)
source_or_offset (Err at) = Err at

-- The program with its script that the trees are parsed as, or the offset where parsing fails.
abbrev pub source_of : ℕ → List Seen → Result Source ℕ
source_of end ss = source_or_offset (text_of end ss)
