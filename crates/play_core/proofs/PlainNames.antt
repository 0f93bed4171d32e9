-- The actors of a source text have names without a colon, and so the lines of `threads` tell their history.
use Rattle.std.proofs.Common.{◌≡◌, ◌≢◌, ℕ, zero, suc, ◌&&◌, not, Bool, true, false, List, [], ◌∷◌, ◌++◌, length, nat_lt, refl, sym, ap, ◌∙◌, cond, slice_index}
use Rattle.std.specs.List.{list_all}
use Rattle.std.proofs.lemmas.Bool.{and_parts as both}
use Rattle.lang_ast.specs.declared.script.DoForm.{DoForm}
use Rattle.lang_forms.specs.Names.{is_letter, is_name_byte, is_kept_word, is_name}
use Rattle.lang_forms.specs.Forms.{SpelledScripts}
use Rattle.lang_forms.specs.Sources.{Source}
use Rattle.script_lang.specs.Lines.{actor_name}
use Rattle.lang_script.specs.Scripts.{most_actors, is_among, with_actor, actors_from, actors_of}
use Rattle.play_laws.specs.Laws.{HasNoColon, AreActorNames}
use Rattle.play_laws.proofs.ActorNames.{actor_names_are_distinct}
use Rattle.play_threads.proofs.Texts.{text_tells}
use Rattle.play_core.specs.Texts.{IsText, style}
use Rattle.play_core.specs.ThreadsOutput.{OutputTellsItsHistory}

-- A byte of a name is no colon.
no_byte : (c : ℕ) → is_name_byte c ≡ true → c ≢ 58
no_byte c h e = let not_colon : false ≡ true = sym (ap is_name_byte e) ∙ h in absurd cc

no_colon : (cs : List ℕ) → list_all is_name_byte cs ≡ true → HasNoColon cs
no_colon [] h = tt
no_colon (c ∷ cs) h =
    let parts = both (is_name_byte c) (list_all is_name_byte cs) h in (no_byte c parts.0, no_colon cs parts.1)

plain_name : (a : List ℕ) → is_name a ≡ true → HasNoColon a
plain_name a h =
    let one = both (is_letter (slice_index a 0) && list_all is_name_byte a) (not (is_kept_word a)) h in
    no_colon a (both (is_letter (slice_index a 0)) (list_all is_name_byte a) one.0).1

abbrev ArePlain : List (List ℕ) → Type 0
ArePlain [] = Unit {0}
ArePlain (x ∷ xs) = HasNoColon x × ArePlain xs

plain_snoc : (xs : List (List ℕ)) (x : List ℕ) → ArePlain xs → HasNoColon x → ArePlain (xs ++ x ∷ [])
plain_snoc [] x h k = (k, tt)
plain_snoc (y ∷ ys) x h k = (h.0, plain_snoc ys x h.1 k)

plain_with : (xs : List (List ℕ)) (x : List ℕ) → ArePlain xs → HasNoColon x → ArePlain (with_actor xs x)
plain_with xs x h k = by (is_among x xs) (nat_lt (length xs) most_actors) where
  by : (b c : Bool) → ArePlain (cond b xs (cond c (xs ++ x ∷ []) xs))
  by true c = h
  by false true = plain_snoc xs x h k
  by false false = h

plain_from : (m : List (List ℕ)) (ds : List DoForm) (xs : List (List ℕ)) → SpelledScripts m ds → ArePlain xs
    → ArePlain (actors_from xs ds)
plain_from m [] xs s h = h
plain_from m (d ∷ ds) xs s h =
    plain_from m ds (with_actor xs d.actor.text) s.2 (plain_with xs d.actor.text h (plain_name d.actor.text s.0))

plain_at : (xs : List (List ℕ)) (a : ℕ) → ArePlain xs → HasNoColon (actor_name xs a)
plain_at [] a h = tt
plain_at (x ∷ xs) zero h = h.0
plain_at (x ∷ xs) (suc a) h = plain_at xs a h.1

pub are_actor_names : (bytes : List ℕ) (t : Source) → IsText true bytes t
    → AreActorNames (length (actors_of t.script)) (actor_name (actors_of t.script))
are_actor_names bytes t text = record {
  plain = λ a below. plain_at (actors_of t.script) a (plain_from _ t.script [] text.forms.spelled.script tt);
  distinct = λ a b ha hb e. actor_names_are_distinct t.script a b ha hb e;
}

pub output_tells : OutputTellsItsHistory
output_tells flags bytes t h k text one other e =
    text_tells (style t flags) t.program.functions t.script h k (are_actor_names bytes t text) one other e
