-- The lines of a run are those of its parts, one after the other.
use Rattle.std.proofs.Common.{◌≡◌, List, [], ◌∷◌, ◌++◌, Option, Some, None, refl, sym, ap, ◌∙◌, append_assoc}
use Rattle.lang_ast.specs.Terms.{Func}
use Rattle.snap_policy.specs.Table.{table}
use Rattle.snap_api.specs.declared.data.Request.{Request}
use Rattle.snap_api.specs.declared.data.Entry.{Entry}
use Rattle.snap_api.specs.World.{call}
use Rattle.lang_script.specs.StepCalls.{ActorPart, request_of, notes_after, entry, sequential}
use Rattle.script_lang.specs.Lines.{LineStyle, lines, lines_at, next, run_text}
use Rattle.play_run.specs.RunOutput.{Run, first_run, request_lines, run_after_request, part_lines, part_after, parts_lines, parts_after}
use Rattle.play_run.specs.RunState.{flat}
use Rattle.play_run.proofs.RunLogs.{next_world}

module _ (t : LineStyle) (functions : List Func) where
  step_lines : (r : Run) (p : ActorPart) (ps : List ActorPart) (o : Option Request) →
      ((r' : Run) → lines t functions r'.standing (sequential r'.standing.world r'.notes ps)
      ≡ parts_lines t functions r' ps) →
      lines t functions r.standing
      (elim o [
        | None ↦ sequential r.standing.world r.notes ps
        | Some q ↦ entry r.standing.world p.actor
            q ∷ sequential (call table r.standing.world p.actor q).0 (notes_after r.notes p.part
            (call table r.standing.world p.actor q).1) ps
      ])
      ≡ request_lines t functions r p.actor o ++ parts_lines t functions (run_after_request functions r p o) ps
  step_lines r p ps None rest = rest r
  step_lines r p ps (Some q) rest =
      let e = entry r.standing.world p.actor q in
      let notes = notes_after r.notes p.part (call table r.standing.world p.actor q).1 in
      ap (λ l. lines_at t functions r.standing e ++ l)
      (ap (λ w. lines t functions (next functions r.standing e) (sequential w notes ps))
      (sym (next_world functions r.standing e)) ∙ rest (run_after_request functions r p (Some q)))

  pub run_lines : (r : Run) (ps : List ActorPart)
      → lines t functions r.standing (sequential r.standing.world r.notes ps) ≡ parts_lines t functions r ps
  run_lines r [] = refl
  run_lines r (p ∷ ps) = step_lines r p ps (request_of r.notes p.part) (λ r'. run_lines r' ps)

-- All that a run prints.
pub run_text_is : (t : LineStyle) (functions : List Func) (log : Option (List Entry)) (ps : List ActorPart)
    → run_text t functions ps ≡ flat (parts_lines t functions (first_run t.titles.states log) ps)
unfolding run_text
run_text_is t functions log ps = ap flat (run_lines t functions (first_run t.titles.states log) ps)

-- The parts of two lists, one after the other.
module _ (t : LineStyle) (functions : List Func) where
  pub lines_append : (r : Run) (ps qs : List ActorPart)
      → parts_lines t functions r (ps ++ qs)
      ≡ parts_lines t functions r ps ++ parts_lines t functions (parts_after functions r ps) qs
  lines_append r [] qs = refl
  lines_append r (p ∷ ps) qs = ap (λ l. part_lines t functions r p ++ l) (lines_append (part_after functions r p) ps qs)
      ∙ sym (append_assoc (part_lines t functions r p) _ _)

  pub after_append : (r : Run) (ps qs : List ActorPart)
      → parts_after functions r (ps ++ qs) ≡ parts_after functions (parts_after functions r ps) qs
  after_append r [] qs = refl
  after_append r (p ∷ ps) qs = after_append (part_after functions r p) ps qs
