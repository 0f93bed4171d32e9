use Rattle.std.proofs.Common.{◌≡◌, ◌∙◌, ap, sym, subst, []}
use Rattle.sexp_text.specs.View.{forest_view}
use Rattle.lang_ast.specs.declared.program.Program.{Program}
use Rattle.lang_ast.specs.Programs.{functions_of}
use Rattle.lang_limits.specs.LeastOffset.{least}
use Rattle.lang_limits.specs.Tokens.{oversized_script_offsets}
use Rattle.lang_limits.specs.Sizes.{program_limits}
use Rattle.lang_limits.specs.Clamped.{clamped_trees}
use Rattle.lang_forms.specs.Sources.{parsed_source_view}
use Rattle.lang_forms.specs.Forms.{HasForms}
use Rattle.lang_script.specs.ScriptFaults.{script_refusal}
use Rattle.play_core.proofs.Uniques.{is_text}
use Rattle.play_core.proofs.text.parse_forms.Goals as goal

pub returns-clause-ok : goal.returns-clause-ok
returns-clause-ok c = λ bytes spelled shallow.
    let f = forest_view c.args.trees.items in
    let t = parsed_source_view (c.in_ok-program.program, c.in_ok-program.rest) in
    let same = c.in_ok-program-2.ensures.same in
    let runs = ap (λ ss. script_refusal c.args.threads ss.items c.in_ok-program.rest.first_oversized
    c.in_ok-program.rest.forms.items) (sym (ap (λ (p : Program). p.states) same)) ∙ c.in_ok-script.ensures.fine in
    let items = c.deref.ensures.value in
    let forms = subst (λ ts. HasForms (clamped_trees (forest_view ts)) t) items c.in_ok-program.ensures.forms in
    let small = subst (λ ts. program_limits (forest_view ts) t.program ≡ []) items c.in_ok-program.ensures.small in
    let first_oversized = subst (λ ts. c.in_ok-program.rest.first_oversized
    ≡ least (oversized_script_offsets (forest_view ts))) items c.in_ok-program.ensures.first_oversized in
    record {
      spelled = spelled;
      read = record {
        source = t;
        text = is_text c.args.threads bytes f t c.in_ok-program.rest.first_oversized spelled shallow forms small
            first_oversized c.in_ok-program-2.ensures.fine runs;
        states_are = ap (λ (p : Program). p.states.items) same;
        functions_are = ap functions_of same;
        actors_are = c.in_ok-script.ensures.actors;
        forms_are = c.in_ok-script.ensures.forms;
      };
    }
