-- Internal: what the functions that write forms promise one another.
use Rattle.std.specs.Prelude.{◌≡◌, ℕ, ℤ, List, codes, None}
use Rattle.sexp_text.specs.Forest.{joined_trees}
use Rattle.sexp_text.specs.View.{forest_view}
use Rattle.sexp_text.specs.declared.tree.Tree.{Tree}
use Rattle.lang_ast.specs.Terms.{Expr, Exprs, Head, Stmts}
use Rattle.lang_ast.specs.declared.syntax.Ident.{Ident}
use Rattle.lang_ast.specs.declared.script.SnapshotRef.{SnapshotRef}
use Rattle.lang_ast.specs.declared.script.CallForm.{CallForm}
use Rattle.lang_ast.specs.declared.script.StepForm.{StepForm}
use Rattle.rt_values.specs.declared.names.Kind.{Kind}
use Rattle.rt_values.specs.declared.value.Value.{Value}
use Rattle.lang_forms.specs.Sketch.{Sketch, nothing, numeral, group, unplaced_sketch}
use Rattle.rt_values.specs.Keywords.{kind_word}
use Rattle.lang_forms.specs.Forms.{word, name, literal, expr_forms, exprs_forms, head_forms, stmts_forms, snapshot_forms, calls_forms, steps_forms}

-- The trees grew by those of a form, whatever comes after it.
abbrev pub AppendsForms : List Tree → List Tree → (Sketch → Sketch) → Type 0
AppendsForms old new form = (g : Sketch) →
    joined_trees (forest_view new) (unplaced_sketch g) ≡ joined_trees (forest_view old) (unplaced_sketch (form g))

-- The trees are those of the start of a form, whatever comes after it.
abbrev pub StartsForm : List Tree → (Sketch → Sketch) → Type 0
StartsForm trees start = (g : Sketch) →
    joined_trees (forest_view trees) (unplaced_sketch g) ≡ unplaced_sketch (start g)

abbrev pub bound_start : List ℕ → Ident → Expr → Sketch → Sketch
bound_start w n e g = word w (name n (expr_forms e g))

abbrev pub block_sketch : Head → Stmts → Sketch → Sketch
block_sketch h body g = group None (head_forms h (stmts_forms body)) g

abbrev pub call_sketch : Ident → Exprs → Sketch → Sketch
call_sketch n es g = group None (word (codes "call") (name n (exprs_forms es))) g

abbrev pub state_sketch : SnapshotRef → Ident → Sketch → Sketch
state_sketch s n g = snapshot_forms s (name n g)

abbrev pub take_sketch : Ident → Kind → SnapshotRef → Sketch → Sketch
take_sketch n k s g = group None (word (codes "take") (name n (word (kind_word k) (snapshot_forms s nothing)))) g

abbrev pub read_sketch : SnapshotRef → Ident → Sketch → Sketch
read_sketch s n g = group None (word (codes "read") (state_sketch s n nothing)) g

abbrev pub write_sketch : SnapshotRef → Ident → Value → Sketch → Sketch
write_sketch s n v g = group None (word (codes "write") (state_sketch s n (literal None v nothing))) g

abbrev pub add_sketch : SnapshotRef → Ident → ℤ → Sketch → Sketch
add_sketch s n amount g = group None (word (codes "add") (state_sketch s n (numeral None amount nothing))) g

abbrev pub only_sketch : List ℕ → SnapshotRef → Sketch → Sketch
only_sketch w s g = group None (word w (snapshot_forms s nothing)) g

abbrev pub during_sketch : List CallForm → Sketch → Sketch
during_sketch cs g = group None (word (codes "frame") (group None (word (codes "during") (calls_forms cs)) nothing)) g

abbrev pub repeat_sketch : ℤ → List StepForm → Sketch → Sketch
repeat_sketch times ss g = group None (word (codes "repeat") (numeral None times (steps_forms ss))) g
