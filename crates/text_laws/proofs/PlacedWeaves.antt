-- A script has the same weaves at other offsets, so each command has the same outputs.
use Rattle.std.proofs.Common.{◌≡◌, ℕ, ◌==◌, Bool, true, false, List, [], ◌∷◌, map, length, refl, sym, ap, ◌∙◌, subst, cond, Option, Some, None}
use Rattle.std.specs.List.{flat_map}
use Rattle.rt_groups.specs.Frames.{no_last_frame}
use Rattle.lang_ast.specs.Terms.{Func}
use Rattle.lang_ast.specs.declared.program.State.{State}
use Rattle.lang_ast.specs.declared.script.DoForm.{DoForm}
use Rattle.snap_policy.specs.Table.{table}
use Rattle.snap_api.specs.World.{History, IsLegal, start, world_after_watch}
use Rattle.snap_api.specs.declared.data.Reply.{Reply}
use Rattle.snap_api.specs.declared.data.Request.{Request}
use Rattle.snap_shared.specs.SharedCalls.{own_calls}
use Rattle.lang_script.specs.Scripts.{actors_of}
use Rattle.lang_script.specs.StepCalls.{Notes, ActorPart, no_notes, request_of, notes_after, script_parts, opening_world}
use Rattle.lang_script.specs.StepLaws.{BeginsWith, Spells}
use Rattle.script_lang.specs.Lines.{lines, initial_standing}
use Rattle.script_lang.specs.declared.flags.Flags.{Flags}
use Rattle.play_laws.specs.Woven.{parts_of_actor, initial_actor, IsWoven}
use Rattle.play_laws.specs.Laws.{text_of}
use Rattle.play_threads.specs.WovenText.{IsWovenText}
use Rattle.lang_forms.specs.Sources.{Source}
use Rattle.play_args.specs.declared.command.Command.TheVariants.{Run, Threads, Check, Gen}
use Rattle.play_core.specs.Texts.{style}
use Rattle.text_laws.specs.OtherOffsets.{placed_state, placed_function, placed_do, placed_source}
use Rattle.text_laws.specs.CanonicalTexts.{OffsetsChangeNoOutput}
use Rattle.text_laws.proofs.Canonical.{same_output}
use Rattle.text_laws.proofs.PlacedScripts.{actors_from-placed}
use Rattle.text_laws.proofs.PlacedRuns.{placed_part, placed_actor_part, request-placed, notes-placed, script_parts-placed, with_states-placed, lines-placed, run-output-placed}

module _ (g : ℕ → ℕ) where
  abbrev parts_at : List ActorPart → List ActorPart
  parts_at ps = map (placed_actor_part g) ps

  -- What the calls of parts must be, by the request of the first part.
  abbrev Begins : Notes → ActorPart → (Reply → History → Type 0) → (History → Type 0) → Option Request → History → Type 0
  Begins n p go rest o h = elim o [ None ↦ rest h | Some q ↦ BeginsWith p.actor q go h ]

  spells-to : (n : Notes) (ps : List ActorPart) (h : History) → Spells n (parts_at ps) h → Spells n ps h
  spells-to n [] h s = s
  spells-to n (p ∷ ps) h s =
      by (request_of n p.part) h (λ k es t. spells-to k ps es t)
      (subst (λ o. Begins n p (λ r es. Spells (notes_after n (placed_part g p.part) r) (parts_at ps) es)
      (λ es. Spells n (parts_at ps) es) o h) (request-placed g n p.part) s)
    where
      by : (o : Option Request) (h : History)
          → ((k : Notes) (es : History) → Spells k (parts_at ps) es → Spells k ps es)
          → Begins n p (λ r es. Spells (notes_after n (placed_part g p.part) r) (parts_at ps) es)
          (λ es. Spells n (parts_at ps) es) o h
          → Begins n p (λ r es. Spells (notes_after n p.part r) ps es) (λ es. Spells n ps es) o h
      by None h go s = go n h s
      by (Some q) [] go s = absurd s
      by (Some q) (e ∷ es) go s = (
        s.0,
        s.1,
        go (notes_after n p.part e.reply) es
            (subst (λ k. Spells k (parts_at ps) es) (notes-placed g n p.part e.reply) s.2),
      )

  spells-from : (n : Notes) (ps : List ActorPart) (h : History) → Spells n ps h → Spells n (parts_at ps) h
  spells-from n [] h s = s
  spells-from n (p ∷ ps) h s =
      subst (λ o. Begins n p (λ r es. Spells (notes_after n (placed_part g p.part) r) (parts_at ps) es)
      (λ es. Spells n (parts_at ps) es) o h) (sym (request-placed g n p.part))
      (by (request_of n p.part) h (λ k es t. spells-from k ps es t) s)
    where
      by : (o : Option Request) (h : History)
          → ((k : Notes) (es : History) → Spells k ps es → Spells k (parts_at ps) es)
          → Begins n p (λ r es. Spells (notes_after n p.part r) ps es) (λ es. Spells n ps es) o h
          → Begins n p (λ r es. Spells (notes_after n (placed_part g p.part) r) (parts_at ps) es)
          (λ es. Spells n (parts_at ps) es) o h
      by None h go s = go n h s
      by (Some q) [] go s = absurd s
      by (Some q) (e ∷ es) go s = (
        s.0,
        s.1,
        subst (λ k. Spells k (parts_at ps) es) (sym (notes-placed g n p.part e.reply))
            (go (notes_after n p.part e.reply) es s.2),
      )

  parts_of-placed : (a : ℕ) (ps : List ActorPart) → parts_of_actor a (parts_at ps) ≡ parts_at (parts_of_actor a ps)
  parts_of-placed a [] = refl
  parts_of-placed a (p ∷ ps) = by (p.actor == a) (parts_of-placed a ps)
    where
      by : (b : Bool) → parts_of_actor a (parts_at ps) ≡ parts_at (parts_of_actor a ps)
          → cond b (placed_actor_part g p ∷ parts_of_actor a (parts_at ps)) (parts_of_actor a (parts_at ps))
          ≡ parts_at (cond b (p ∷ parts_of_actor a ps) (parts_of_actor a ps))
      by true e = ap (λ l. placed_actor_part g p ∷ l) e
      by false e = e

  woven-to : (n : ℕ) (ps : List ActorPart) (h : History) → IsWoven n (initial_actor (parts_at ps)) h
      → IsWoven n (initial_actor ps) h
  woven-to n ps h w = record {
    each = λ a below. spells-to no_notes (parts_of_actor a ps) (own_calls a h)
        (subst (λ l. Spells no_notes l (own_calls a h)) (parts_of-placed a ps) (w.each a below));
    others = w.others;
  }

  woven-from : (n : ℕ) (ps : List ActorPart) (h : History) → IsWoven n (initial_actor ps) h
      → IsWoven n (initial_actor (parts_at ps)) h
  woven-from n ps h w = record {
    each = λ a below. subst (λ l. Spells no_notes l (own_calls a h)) (sym (parts_of-placed a ps))
        (spells-from no_notes (parts_of_actor a ps) (own_calls a h) (w.each a below));
    others = w.others;
  }

  module _ (flags : Flags) (t : Source) where
    abbrev states : List State
    states = t.program.states

    abbrev states' : List State
    states' = map (placed_state g) t.program.states

    abbrev functions' : List Func
    functions' = map (placed_function g) t.program.functions

    abbrev forms' : List DoForm
    forms' = map (placed_do g) t.script

    abbrev actors : List (List ℕ)
    actors = actors_of t.script

    same_actors : actors_of forms' ≡ actors_of t.script
    same_actors = actors_from-placed g [] t.script

    same_opening : opening_world states' ≡ opening_world t.program.states
    same_opening = ap world_after_watch (with_states-placed g (start 0) t.program.states)

    same_text : (h : History) → text_of (style (placed_source g t) flags) functions' (initial_standing states') h
        ≡ text_of (style t flags) t.program.functions (initial_standing t.program.states) h
    same_text h =
        ap (λ a. flat_map (λ l. l) (lines (record {
          titles = record { states = states'; actors = a };
          flags = flags;
        }) functions' (initial_standing states') h)) same_actors
        ∙ ap (λ w. flat_map (λ l. l) (lines (record {
          titles = record { states = states'; actors = actors };
          flags = flags;
        }) functions' (record { world = w; kept = no_last_frame; frames = [] }) h)) same_opening
        ∙ ap (flat_map (λ l. l)) (lines-placed g states actors t.program.functions flags (initial_standing states) h)

    weave-to : (bytes : List ℕ) → IsWovenText (style (placed_source g t) flags) functions' forms' bytes
        → IsWovenText (style t flags) t.program.functions t.script bytes
    weave-to bytes w = record {
      history = w.history;
      possible = record {
        legal = subst (λ o. IsLegal table o w.history) same_opening w.possible.legal;
        woven = woven-to (length actors) (script_parts actors t.script) w.history
            (subst (λ ps. IsWoven (length actors) (initial_actor ps) w.history) (script_parts-placed g actors t.script)
            (subst (λ a. IsWoven (length a) (initial_actor (script_parts a forms')) w.history) same_actors
            w.possible.woven));
      };
      is = w.is ∙ same_text w.history;
    }

    weave-from : (bytes : List ℕ) → IsWovenText (style t flags) t.program.functions t.script bytes
        → IsWovenText (style (placed_source g t) flags) functions' forms' bytes
    weave-from bytes w = record {
      history = w.history;
      possible = record {
        legal = subst (λ o. IsLegal table o w.history) (sym same_opening) w.possible.legal;
        woven = subst (λ a. IsWoven (length a) (initial_actor (script_parts a forms')) w.history) (sym same_actors)
            (subst (λ ps. IsWoven (length actors) (initial_actor ps) w.history)
            (sym (script_parts-placed g actors t.script))
            (woven-from (length actors) (script_parts actors t.script) w.history w.possible.woven));
      };
      is = w.is ∙ sym (same_text w.history);
    }

pub offsets_change_no_output : OffsetsChangeNoOutput
offsets_change_no_output g (Run flags) t bytes =
    (λ e. e ∙ run-output-placed g flags t, λ e. e ∙ sym (run-output-placed g flags t))
offsets_change_no_output g (Threads flags) t bytes = (weave-to g flags t bytes, weave-from g flags t bytes)
offsets_change_no_output g Check t bytes = (λ e. e ∙ same_output g t, λ e. e ∙ sym (same_output g t))
offsets_change_no_output g (Gen number size) t bytes = (λ e. e, λ e. e)
