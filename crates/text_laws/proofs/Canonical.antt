-- The canonical text of a text.
use Rattle.std.proofs.Common.{◌≡◌, ℕ, Bool, List, [], sym, ap, ◌∙◌, subst, arith}
use Rattle.sexp_text.specs.Forest.{Forest, list_nesting, without_offsets}
use Rattle.sexp_text.specs.Layout.{lines, CanBeSpelled}
use Rattle.sexp_text.proofs.Printed.{printed_spells, spells_can}
use Rattle.lang_ast.specs.Programs.{Program}
use Rattle.lang_ast.proofs.Limits.{none_in}
use Rattle.lang_limits.specs.Sizes.{program_limits, program_sizes}
use Rattle.lang_limits.specs.Tokens.{oversized_offsets, program_trees, script_trees, oversized_script_offsets}
use Rattle.lang_forms.specs.Sources.{Source}
use Rattle.lang_forms.specs.Forms.{HasForms, text_forms}
use Rattle.lang_forms.specs.Sketch.{unplaced_sketch}
use Rattle.lang_write.proofs.Written.{fits_unplaced}
use Rattle.play_core.specs.Texts.{IsText, check_output}
use Rattle.text_laws.specs.OtherOffsets.{placed_forest, placed_program, placed_source}
use Rattle.text_laws.specs.CanonicalTexts.{CheckIsIdempotent, IsTextAtOtherOffsets}
use Rattle.text_laws.proofs.PlacedForests.{place_spelled, can_without, without_twice, nesting-without, join_none, oversized-placed, program_trees-placed, script_trees-placed}
use Rattle.text_laws.proofs.PlacedForms.{unplaced-placed, text-placed, forms-placed}
use Rattle.text_laws.proofs.PlacedSizes.{program-sized}
use Rattle.text_laws.proofs.PlacedFaults.{program-fine}
use Rattle.text_laws.proofs.PlacedScripts.{script-fine}

-- The limits do not depend on offsets.

limits-placed : (g : ℕ → ℕ) (f : Forest) (p : Program) → program_limits f p ≡ []
    → program_limits (placed_forest g f) (placed_program g p) ≡ []
limits-placed g f p h =
    let both = none_in (oversized_offsets (program_trees f)) (program_sizes p) h in
    join_none _ _ (ap oversized_offsets (program_trees-placed g f) ∙ oversized-placed g (program_trees f) both.0)
    (program-sized g p both.1)

brief-placed : (g : ℕ → ℕ) (f : Forest) → oversized_script_offsets f ≡ [] → oversized_script_offsets (placed_forest g f) ≡ []
brief-placed g f h = ap oversized_offsets (script_trees-placed g f) ∙ oversized-placed g (script_trees f) h

-- The canonical text does not depend on offsets.
pub same_output : (g : ℕ → ℕ) (t : Source) → check_output (placed_source g t) ≡ check_output t
unfolding check_output
same_output g t =
    ap (λ s. lines (unplaced_sketch s)) (text-placed g t) ∙ ap lines (unplaced-placed g (text_forms t))

-- The lines of the forms of a text are a text with the same trees.
reads_again : (threads : Bool) (bytes : List ℕ) (t : Source) → IsText threads bytes t
    → IsTextAtOtherOffsets threads (lines (unplaced_sketch (text_forms t))) t
reads_again threads bytes t h =
    let f = h.forest in
    let trees : Forest = unplaced_sketch (text_forms t) in
    let unplaced : without_offsets h.forest ≡ unplaced_sketch (text_forms t) =
    fits_unplaced h.forest (text_forms t) h.forms.fits in
    let can : CanBeSpelled (unplaced_sketch (text_forms t)) =
    subst CanBeSpelled unplaced (can_without h.forest (spells_can bytes h.forest h.spelled)) in
    let u = printed_spells trees can in
    let same : without_offsets h.forest ≡ without_offsets u.forest =
    sym (without_twice h.forest) ∙ ap without_offsets unplaced ∙ sym u.same in
    let s = h.spelled in
    let placed = place_spelled s.spelling 0 u.forest s.well_spelled (ap without_offsets (sym s.forest_is) ∙ same) in
    let g = placed.places in
    let moved : placed_forest g h.forest ≡ u.forest = ap (placed_forest g) s.forest_is ∙ placed.is in
    let depth : list_nesting u.forest ≡ list_nesting h.forest =
    u.deep ∙ ap list_nesting (sym unplaced) ∙ nesting-without h.forest in (
      g,
      record {
        forest = u.forest;
        spelled = u.spells;
        shallow = let shallow = h.shallow in omega (arith, depth, shallow);
        forms = subst (λ e. HasForms e (placed_source g t)) moved (forms-placed g h.forest t h.forms);
        small = subst (λ e. program_limits e (placed_program g t.program) ≡ []) moved
            (limits-placed g h.forest t.program h.small);
        brief = subst (λ e. oversized_script_offsets e ≡ []) moved (brief-placed g h.forest h.brief);
        sound = program-fine g t.program h.sound;
        runs = script-fine g threads t.program.states t.script h.runs;
      },
      same_output g t,
    )

pub check_is_idempotent : CheckIsIdempotent
unfolding check_output
check_is_idempotent threads bytes t h = reads_again threads bytes t h
