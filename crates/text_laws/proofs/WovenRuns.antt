-- A run is woven: what an actor's calls depend on is the same with one table of names as with a table of its own.
use Rattle.std.proofs.Common.{◌≡◌, ◌≢◌, ℕ, zero, suc, ◌≤◌, ◌==◌, Bool, true, false, not, List, [], ◌∷◌, ◌++◌, length, map, refl, sym, ap, ◌∙◌, subst, cond, Option, Some, None, inl, inr, arith}
use Rattle.std.proofs.lemmas.Bool.{ltb-true}
use Rattle.std.proofs.lemmas.Bool.Decides.{eqb_tells}
use Rattle.std.specs.Cmp.Lexicographic.{bytes_decides}
use Rattle.std.specs.Option.{unwrap_or}
use Rattle.std.specs.Str.{bytes_eq}
use Rattle.snap_policy.specs.declared.policy.BuiltIn.{BuiltIn}
use Rattle.snap_policy.specs.Table.{table}
use Rattle.snap_api.specs.declared.data.Request.{Request}
use Rattle.snap_api.specs.declared.data.Request.TheVariants as request
use Rattle.snap_api.specs.declared.data.Reply.{Reply}
use Rattle.snap_api.specs.World.{World, History, call}
use Rattle.snap_shared.specs.SharedCalls.{own_calls}
use Rattle.snap_shared.proofs.OwnCalls.{itself}
use Rattle.lang_ast.proofs.Limits.{none_in}
use Rattle.lang_ast.specs.declared.script.SnapshotRef.{SnapshotRef}
use Rattle.lang_ast.specs.declared.script.SnapshotRef.TheVariants.{Global, Named}
use Rattle.lang_ast.specs.declared.script.CallForm.{CallForm}
use Rattle.lang_ast.specs.declared.script.CallForm.TheVariants as form
use Rattle.lang_ast.specs.declared.script.StepForm.{StepForm}
use Rattle.lang_ast.specs.declared.script.StepForm.TheVariants as step
use Rattle.lang_ast.specs.declared.script.ScriptForm.{ScriptForm}
use Rattle.lang_ast.specs.declared.script.ScriptForm.TheVariants.{Once, Repeat}
use Rattle.lang_ast.specs.declared.script.DoForm.{DoForm}
use Rattle.lang_script.specs.SnapshotNames.{latest, never_taken, snapshot_number}
use Rattle.lang_script.specs.Scripts.{actors_of, index_of, is_among, written_out, times_of, repeated_steps}
use Rattle.lang_script.specs.ScriptFaults.{text_step, text_steps, text_calls, text_forms, text_script, no_uses, fault_if, further_actors}
use Rattle.lang_script.specs.declared.faults.ScriptStop.TheVariants as stop
use Rattle.lang_script.specs.StepCalls.{Part, Take, Read, Write, WriteSum, Apply, Dispose, BeginFrame, EndFrame, ActorPart, of_actor, call_parts, calls_parts, step_parts, steps_parts, script_parts, Notes, no_notes, request_of, sum_request, end_request, notes_after, number_taken, entry, sequential, opening_world}
use Rattle.lang_script.specs.StepLaws.{Spells, BeginsWith}
use Rattle.lang_script.proofs.Sequential.{spelled}
use Rattle.script_lang.specs.Lines.{run_text}
use Rattle.play_laws.specs.Woven.{parts_of_actor, actor_parts}
use Rattle.play_laws.proofs.Callers.{differs, own_calls-first, own_calls-skip, parts_are_of_script}
use Rattle.play_core.specs.Texts.{run_output}
use Rattle.text_laws.specs.WovenRuns.{RunIsWoven, RunWritesAnOutputOfThreads}
use Rattle.text_laws.proofs.OwnNames.{Owners, OwnsSnapshot, OwnsCall, AreOwned, owned_append, not_false, have_owners, no_faults}

module _ (owner : Owners) where
  -- What a part needs: its names are its actor's own, the last read before a write of a sum is its actor's, and so is
  -- the open frame before its end. `v` is the actor of the last read, `f` that of the last frame.
  abbrev Needs : Option ℕ → Option ℕ → ℕ → Part → Type 0
  Needs v f a (Take name kind parent) = (owner name ≡ Some a) × OwnsSnapshot owner a parent
  Needs v f a (Read s x) = OwnsSnapshot owner a s
  Needs v f a (Write s x value) = OwnsSnapshot owner a s
  Needs v f a (WriteSum s x amount) = OwnsSnapshot owner a s × (v ≡ Some a)
  Needs v f a (Apply s) = OwnsSnapshot owner a s
  Needs v f a (Dispose s) = OwnsSnapshot owner a s
  Needs v f a BeginFrame = Unit {0}
  Needs v f a EndFrame = f ≡ Some a

  abbrev reader_after : Option ℕ → ℕ → Part → Option ℕ
  reader_after v a (Read s x) = Some a
  reader_after v a _ = v

  abbrev framer_after : Option ℕ → ℕ → Part → Option ℕ
  framer_after f a BeginFrame = Some a
  framer_after f a _ = f

  abbrev Fit : Option ℕ → Option ℕ → List ActorPart → Type 0
  Fit v f [] = Unit {0}
  Fit v f (p ∷ ps) = Needs v f p.actor p.part × Fit (reader_after v p.actor p.part) (framer_after f p.actor p.part) ps

  -- The common notes and the actors' own notes agree on the names that each actor owns, on the last read for the actor
  -- that made it, and on the frame for the actor that began it.
  record Agree (n : Notes) (own : ℕ → Notes) (v f : Option ℕ) : Type 0 where
    names : (a : ℕ) (x : List ℕ) → owner x ≡ Some a → latest n.names x ≡ latest (own a).names x
    value : (a : ℕ) → v ≡ Some a → n.value ≡ (own a).value
    frame : (a : ℕ) → f ≡ Some a → n.frame ≡ (own a).frame

  module _ (n : Notes) (own : ℕ → Notes) (v f : Option ℕ) (agree : Agree n own v f) (a : ℕ) where
    same_number : (s : SnapshotRef) → OwnsSnapshot owner a s
        → snapshot_number n.names s ≡ snapshot_number (own a).names s
    same_number Global h = refl
    same_number (Named name) h = ap (λ o. unwrap_or o never_taken) (agree.names a name.text h)

    same_request : (p : Part) → Needs v f a p → request_of n p ≡ request_of (own a) p
    same_request (Take name kind parent) h = ap (λ k. Some (request.Take k kind)) (same_number parent h.1)
    same_request (Read s x) h = ap (λ k. Some (request.Read k x)) (same_number s h)
    same_request (Write s x value) h = ap (λ k. Some (request.Write k x value)) (same_number s h)
    same_request (WriteSum s x amount) h =
        ap (λ k. sum_request k x amount n.value) (same_number s h.0)
        ∙ ap (λ o. sum_request (snapshot_number (own a).names s) x amount o) (agree.value a h.1)
    same_request (Apply s) h = ap (λ k. Some (request.Apply k)) (same_number s h)
    same_request (Dispose s) h = ap (λ k. Some (request.Dispose k)) (same_number s h)
    same_request BeginFrame h = refl
    same_request EndFrame h = ap end_request (agree.frame a h)

  -- A part without a call has no last read and no frame of its own.
  passes : (n : Notes) (v f : Option ℕ) (a : ℕ) (p : Part) → request_of n p ≡ None
      → (reader_after v a p ≡ v) × (framer_after f a p ≡ f)
  passes n v f a (Take name kind parent) e = absurd cc
  passes n v f a (Read s x) e = absurd cc
  passes n v f a (Write s x value) e = absurd cc
  passes n v f a (WriteSum s x amount) e = (refl, refl)
  passes n v f a (Apply s) e = absurd cc
  passes n v f a (Dispose s) e = absurd cc
  passes n v f a BeginFrame e = absurd cc
  passes n v f a EndFrame e = (refl, refl)

  -- The own notes of all actors after those of one changed.
  abbrev with_notes : (ℕ → Notes) → ℕ → Notes → ℕ → Notes
  with_notes own c k a = cond (c == a) k (own a)

  -- One reply changes two notes alike.
  module _ (n m : Notes) (r : Reply) where
    own_names : (p : Part) (x : List ℕ) → latest n.names x ≡ latest m.names x
        → latest (notes_after n p r).names x ≡ latest (notes_after m p r).names x
    own_names (Take name kind parent) x e = ap (λ o. cond (bytes_eq name x) (Some (number_taken r)) o) e
    own_names (Read s y) x e = e
    own_names (Write s y value) x e = e
    own_names (WriteSum s y amount) x e = e
    own_names (Apply s) x e = e
    own_names (Dispose s) x e = e
    own_names BeginFrame x e = e
    own_names EndFrame x e = e

    own_value : (v : Option ℕ) (c : ℕ) (p : Part) → (v ≡ Some c → n.value ≡ m.value) → reader_after v c p ≡ Some c
        → (notes_after n p r).value ≡ (notes_after m p r).value
    own_value v c (Take name kind parent) h e = h e
    own_value v c (Read s y) h e = refl
    own_value v c (Write s y value) h e = h e
    own_value v c (WriteSum s y amount) h e = h e
    own_value v c (Apply s) h e = h e
    own_value v c (Dispose s) h e = h e
    own_value v c BeginFrame h e = h e
    own_value v c EndFrame h e = h e

    own_frame : (f : Option ℕ) (c : ℕ) (p : Part) → (f ≡ Some c → n.frame ≡ m.frame) → framer_after f c p ≡ Some c
        → (notes_after n p r).frame ≡ (notes_after m p r).frame
    own_frame f c (Take name kind parent) h e = h e
    own_frame f c (Read s y) h e = h e
    own_frame f c (Write s y value) h e = h e
    own_frame f c (WriteSum s y amount) h e = h e
    own_frame f c (Apply s) h e = h e
    own_frame f c (Dispose s) h e = h e
    own_frame f c BeginFrame h e = refl
    own_frame f c EndFrame h e = refl

    -- What another actor's notes agree on is not changed.
    other_names : (v f : Option ℕ) (c a : ℕ) (p : Part) (x : List ℕ) → c ≢ a → owner x ≡ Some a → Needs v f c p
        → latest (notes_after n p r).names x ≡ latest n.names x
    other_names v f c a (Take name kind parent) x ne o h = by (bytes_eq name x) refl
      where
        by : (b : Bool) → bytes_eq name x ≡ b → cond b (Some (number_taken r)) (latest n.names x) ≡ latest n.names x
        by true same =
            let equal : name ≡ x = (bytes_decides name x).0 same in
            let two : owner x ≡ Some c = ap owner (sym equal) ∙ h.0 in
            let both : c ≡ a = cc in
            absurd (ne both)
        by false other = refl
    other_names v f c a (Read s y) x ne o h = refl
    other_names v f c a (Write s y value) x ne o h = refl
    other_names v f c a (WriteSum s y amount) x ne o h = refl
    other_names v f c a (Apply s) x ne o h = refl
    other_names v f c a (Dispose s) x ne o h = refl
    other_names v f c a BeginFrame x ne o h = refl
    other_names v f c a EndFrame x ne o h = refl

    other_value : (v : Option ℕ) (c a : ℕ) (p : Part) → c ≢ a → (v ≡ Some a → n.value ≡ m.value)
        → reader_after v c p ≡ Some a → (notes_after n p r).value ≡ m.value
    other_value v c a (Take name kind parent) ne h e = h e
    other_value v c a (Read s y) ne h e = let same : c ≡ a = cc in absurd (ne same)
    other_value v c a (Write s y value) ne h e = h e
    other_value v c a (WriteSum s y amount) ne h e = h e
    other_value v c a (Apply s) ne h e = h e
    other_value v c a (Dispose s) ne h e = h e
    other_value v c a BeginFrame ne h e = h e
    other_value v c a EndFrame ne h e = h e

    other_frame : (v f : Option ℕ) (c a : ℕ) (p : Part) → c ≢ a → (f ≡ Some a → n.frame ≡ m.frame) → Needs v f c p
        → framer_after f c p ≡ Some a → (notes_after n p r).frame ≡ m.frame
    other_frame v f c a (Take name kind parent) ne h k e = h e
    other_frame v f c a (Read s y) ne h k e = h e
    other_frame v f c a (Write s y value) ne h k e = h e
    other_frame v f c a (WriteSum s y amount) ne h k e = h e
    other_frame v f c a (Apply s) ne h k e = h e
    other_frame v f c a (Dispose s) ne h k e = h e
    other_frame v f c a BeginFrame ne h k e = let same : c ≡ a = cc in absurd (ne same)
    other_frame v f c a EndFrame ne h k e = let same : c ≡ a = cc in absurd (ne same)

  -- The notes agree after a reply.
  agree_after : (n : Notes) (own : ℕ → Notes) (v f : Option ℕ) (c : ℕ) (p : Part) (r : Reply) → Needs v f c p
      → Agree n own v f
      → Agree (notes_after n p r) (with_notes own c (notes_after (own c) p r)) (reader_after v c p) (framer_after f c p)
  agree_after n own v f c p r need agree = record {
    names = λ a x o. elim (eqb_tells c a) [
      | inl e ↦
          let mine = subst (λ (b : ℕ). latest n.names x ≡ latest (own b).names x) (sym e.1) (agree.names a x o) in
          own_names n (own c) r p x mine ∙ sym (ap (λ (k : Notes). latest k.names x) (here a e.0))
      | inr e ↦
          other_names n (own a) r v f c a p x e.1 o need ∙ agree.names a x o
          ∙ sym (ap (λ (k : Notes). latest k.names x) (there a e.0))
    ];
    value = λ a m. elim (eqb_tells c a) [
      | inl e ↦
          own_value n (own c) r v c p (λ q. agree.value c q) (m ∙ ap Some (sym e.1))
          ∙ sym (ap (λ (k : Notes). k.value) (here a e.0))
      | inr e ↦
          other_value n (own a) r v c a p e.1 (λ q. agree.value a q) m
          ∙ sym (ap (λ (k : Notes). k.value) (there a e.0))
    ];
    frame = λ a m. elim (eqb_tells c a) [
      | inl e ↦
          own_frame n (own c) r f c p (λ q. agree.frame c q) (m ∙ ap Some (sym e.1))
          ∙ sym (ap (λ (k : Notes). k.frame) (here a e.0))
      | inr e ↦
          other_frame n (own a) r v f c a p e.1 (λ q. agree.frame a q) need m
          ∙ sym (ap (λ (k : Notes). k.frame) (there a e.0))
    ];
  }
    where
      here : (a : ℕ) → (c == a) ≡ true → with_notes own c (notes_after (own c) p r) a ≡ notes_after (own c) p r
      here a e = ap (λ b. cond b (notes_after (own c) p r) (own a)) e

      there : (a : ℕ) → (c == a) ≡ false → with_notes own c (notes_after (own c) p r) a ≡ own a
      there a e = ap (λ b. cond b (notes_after (own c) p r) (own a)) e

  -- One part, and then all others.
  module _ (p : ActorPart) (ps : List ActorPart) (w : World BuiltIn) (n : Notes) (own : ℕ → Notes) (v f : Option ℕ)
      (need : Needs v f p.actor p.part) (agree : Agree n own v f)
      (go : (w' : World BuiltIn) (n' : Notes) (own' : ℕ → Notes)
      → Agree n' own' (reader_after v p.actor p.part) (framer_after f p.actor p.part) → (a : ℕ)
      → Spells (own' a) (parts_of_actor a ps) (own_calls a (sequential w' n' ps))) where
    abbrev c : ℕ
    c = p.actor

    -- The history from this part on, by its request.
    abbrev then : Option Request → History
    then o = elim o [
      | None ↦ sequential w n ps
      | Some q ↦ entry w p.actor q ∷ sequential (call table w p.actor q).0 (notes_after n p.part
          (call table w p.actor q).1) ps
    ]

    -- What its actor's history must begin with.
    abbrev Begins : Option Request → History → Type 0
    Begins o h = elim o [
      | None ↦ Spells (own c) (parts_of_actor c ps) h
      | Some q ↦ BeginsWith p.actor q (λ r es. Spells (notes_after (own c) p.part r) (parts_of_actor c ps) es) h
    ]

    parts_mine : parts_of_actor c (p ∷ ps) ≡ p ∷ parts_of_actor c ps
    parts_mine = ap (λ b. cond b (p ∷ parts_of_actor c ps) (parts_of_actor c ps)) (itself c)

    parts_others : (a : ℕ) → c ≢ a → parts_of_actor a (p ∷ ps) ≡ parts_of_actor a ps
    parts_others a ne = ap (λ b. cond b (p ∷ parts_of_actor a ps) (parts_of_actor a ps)) (differs c a ne)

    agree_passed : request_of n p.part ≡ None
        → Agree n own (reader_after v p.actor p.part) (framer_after f p.actor p.part)
    agree_passed e =
        let same = passes n v f p.actor p.part e in
        subst (λ o. Agree n own o (framer_after f p.actor p.part)) (sym same.0)
        (subst (λ o. Agree n own v o) (sym same.1) agree)

    abbrev reply_to : Request → Reply
    reply_to q = (call table w p.actor q).1

    abbrev own_next : Request → ℕ → Notes
    own_next q = with_notes own c (notes_after (own c) p.part (reply_to q))

    rest_of : (q : Request) (a : ℕ) → Spells (own_next q a) (parts_of_actor a ps)
        (own_calls a (sequential (call table w p.actor q).0 (notes_after n p.part (reply_to q)) ps))
    rest_of q a = go (call table w p.actor q).0 (notes_after n p.part (reply_to q)) (own_next q)
        (agree_after n own v f c p.part (reply_to q) need agree) a

    mine : (o : Option Request) → request_of n p.part ≡ o → Spells (own c) (parts_of_actor c (p ∷ ps)) (own_calls c (then o))
    mine o e =
        subst (λ l. Spells (own c) l (own_calls c (then o))) (sym parts_mine)
        (subst (λ q. Begins q (own_calls c (then o))) (sym e ∙ same_request n own v f agree c p.part need) (by o e))
      where
        by : (o : Option Request) → request_of n p.part ≡ o → Begins o (own_calls c (then o))
        by None e = go w n own (agree_passed e) c
        by (Some q) e =
            let es = sequential (call table w p.actor q).0 (notes_after n p.part (reply_to q)) ps in
            let own_is : own_next q c ≡ notes_after (own c) p.part (reply_to q) =
            ap (λ b. cond b (notes_after (own c) p.part (reply_to q)) (own c)) (itself c) in
            subst (λ h. Begins (Some q) h) (sym (own_calls-first (entry w p.actor q) es))
            (refl, refl, subst (λ (k : Notes). Spells k (parts_of_actor c ps) (own_calls c es)) own_is (rest_of q c))

    others : (a : ℕ) → c ≢ a → (o : Option Request) → request_of n p.part ≡ o
        → Spells (own a) (parts_of_actor a (p ∷ ps)) (own_calls a (then o))
    others a ne o e = subst (λ l. Spells (own a) l (own_calls a (then o))) (sym (parts_others a ne)) (by o e)
      where
        by : (o : Option Request) → request_of n p.part ≡ o → Spells (own a) (parts_of_actor a ps) (own_calls a (then o))
        by None e = go w n own (agree_passed e) a
        by (Some q) e =
            let es = sequential (call table w p.actor q).0 (notes_after n p.part (reply_to q)) ps in
            let own_is : own_next q a ≡ own a =
            ap (λ b. cond b (notes_after (own c) p.part (reply_to q)) (own a)) (differs c a ne) in
            subst (λ h. Spells (own a) (parts_of_actor a ps) h) (sym (own_calls-skip (entry w p.actor q) es a ne))
            (subst (λ (k : Notes). Spells k (parts_of_actor a ps) (own_calls a es)) own_is (rest_of q a))

    one_and_rest : (a : ℕ) → Spells (own a) (parts_of_actor a (p ∷ ps)) (own_calls a (sequential w n (p ∷ ps)))
    one_and_rest a = elim (eqb_tells c a) [
      | inl e ↦ subst (λ (b : ℕ). Spells (own b) (parts_of_actor b (p ∷ ps)) (own_calls b (sequential w n (p ∷ ps)))) e.1
          (mine (request_of n p.part) refl)
      | inr e ↦ others a e.1 (request_of n p.part) refl
    ]

  -- The calls of each actor in a run are those that its own parts make.
  woven : (ps : List ActorPart) (w : World BuiltIn) (n : Notes) (own : ℕ → Notes) (v f : Option ℕ) → Fit v f ps
      → Agree n own v f → (a : ℕ) → Spells (own a) (parts_of_actor a ps) (own_calls a (sequential w n ps))
  woven [] w n own v f fit agree a = refl
  woven (p ∷ ps) w n own v f fit agree a = one_and_rest p ps w n own v f fit.0 agree
      (λ w' n' own' agree' a'. woven ps w' n' own' (reader_after v p.actor p.part) (framer_after f p.actor p.part)
      fit.1 agree' a') a

  -- The parts of a script have what they need.
  module _ (a : ℕ) (rest : List ActorPart) where
    -- The parts of an actor, and then others.
    abbrev and_then : List Part → List ActorPart
    and_then ps = map (of_actor a) ps ++ rest

    call_fits : (f : Option ℕ) (c : CallForm) (ps : List Part) → OwnsCall owner a c
        → ((v : Option ℕ) → Fit v f (and_then ps)) → (v : Option ℕ) → Fit v f (and_then (call_parts c ++ ps))
    call_fits f (form.Take at name kind parent) ps h k v = (h, k v)
    call_fits f (form.Read at s state x) ps h k v = (h, k (Some a))
    call_fits f (form.Write at s state x value) ps h k v = (h, k v)
    call_fits f (form.Add at s state x d) ps h k v = (h, ((h, refl), k (Some a)))
    call_fits f (form.Apply at s) ps h k v = (h, k v)
    call_fits f (form.Dispose at s) ps h k v = (h, k v)

    during_fits : (cs : List CallForm) (ps : List Part) → AreOwned owner (text_calls a cs)
        → ((v : Option ℕ) → Fit v (Some a) (and_then ps)) → (v : Option ℕ)
        → Fit v (Some a) (and_then ((calls_parts cs ++ EndFrame ∷ []) ++ ps))
    during_fits [] ps h k v = (refl, k v)
    during_fits (form.Take at name kind parent ∷ more) ps h k v = (h.0, during_fits more ps h.1 k v)
    during_fits (form.Read at s state x ∷ more) ps h k v = (h.0, during_fits more ps h.1 k (Some a))
    during_fits (form.Write at s state x value ∷ more) ps h k v = (h.0, during_fits more ps h.1 k v)
    during_fits (form.Add at s state x d ∷ more) ps h k v = (h.0, ((h.0, refl), during_fits more ps h.1 k (Some a)))
    during_fits (form.Apply at s ∷ more) ps h k v = (h.0, during_fits more ps h.1 k v)
    during_fits (form.Dispose at s ∷ more) ps h k v = (h.0, during_fits more ps h.1 k v)

    step_fits : (s : StepForm) (ps : List Part) → AreOwned owner (text_step a s)
        → ((v f : Option ℕ) → Fit v f (and_then ps)) → (v f : Option ℕ) → Fit v f (and_then (step_parts s ++ ps))
    step_fits (step.Call c) ps h k v f = call_fits f c ps h.0 (λ u. k u f) v
    step_fits (step.Frame at) ps h k v f = (tt, (refl, k v (Some a)))
    step_fits (step.FrameDuring at during) ps h k v f = (tt, during_fits during ps h (λ u. k u (Some a)) v)

    -- Each step is of an actor that owns what it names.
    abbrev Owned : List StepForm → Type 0
    Owned [] = Unit {0}
    Owned (s ∷ more) = AreOwned owner (text_step a s) × Owned more

    steps_fit : (ss : List StepForm) → Owned ss → ((v f : Option ℕ) → Fit v f rest) → (v f : Option ℕ)
        → Fit v f (and_then (steps_parts ss))
    steps_fit [] h k v f = k v f
    steps_fit (s ∷ more) h k v f = step_fits s (steps_parts more) h.0 (λ u g. steps_fit more h.1 k u g) v f

    owned-append : (xs ys : List StepForm) → Owned xs → Owned ys → Owned (xs ++ ys)
    owned-append [] ys h k = k
    owned-append (x ∷ xs) ys h k = (h.0, owned-append xs ys h.1 k)

    owned_repeated : (times : ℕ) (ss : List StepForm) → Owned ss → Owned (repeated_steps times ss)
    owned_repeated zero ss h = tt
    owned_repeated (suc times) ss h = owned-append ss (repeated_steps times ss) h (owned_repeated times ss h)

    owned_steps : (ss : List StepForm) → AreOwned owner (text_steps a ss) → Owned ss
    owned_steps [] h = tt
    owned_steps (s ∷ more) h = let both = owned_append owner (text_step a s) (text_steps a more) h in
        (both.0, owned_steps more both.1)

    owned_written : (fs : List ScriptForm) → AreOwned owner (text_forms a fs) → Owned (written_out fs)
    owned_written [] h = tt
    owned_written (Once s ∷ more) h = let both = owned_append owner (text_step a s) (text_forms a more) h in
        (both.0, owned_written more both.1)
    owned_written (Repeat at times steps ∷ more) h =
        let both = owned_append owner (text_steps a steps) (text_forms a more) h in
        owned-append (repeated_steps (times_of times) steps) (written_out more)
        (owned_repeated (times_of times) steps (owned_steps steps both.0)) (owned_written more both.1)

  script_fits : (actors : List (List ℕ)) (forms : List DoForm) → AreOwned owner (text_script actors forms)
      → (v f : Option ℕ) → Fit v f (script_parts actors forms)
  script_fits actors [] h v f = tt
  script_fits actors (d ∷ more) h v f =
      let a = index_of d.actor.text actors in
      let both = owned_append owner (text_forms a d.steps) (text_script actors more) h in
      let rest = script_parts actors more in
      steps_fit a rest (written_out d.steps) (owned_written a rest d.steps both.0)
      (λ u g. script_fits actors more both.1 u g) v f

-- No one else has parts.
no_fault : (b : Bool) (at : ℕ) → fault_if b (stop.Limit at) ≡ [] → b ≡ false
no_fault true at h = absurd cc
no_fault false at h = refl

no_parts : (actors : List (List ℕ)) (forms : List DoForm) (k : ℕ) → length actors ≤ k
    → further_actors actors forms ≡ [] → actor_parts k actors forms ≡ []
no_parts actors [] k far h = refl
no_parts actors (d ∷ more) k far h =
    let both = none_in (fault_if (not (is_among d.actor.text actors)) (stop.Limit d.at)) _ h in
    let among = ltb-true (index_of d.actor.text actors) (length actors) (not_false _ (no_fault _ d.at both.0)) in
    ap (λ b. cond b (map (of_actor k) (steps_parts (written_out d.steps)) ++ actor_parts k actors more)
    (actor_parts k actors more))
    (differs (index_of d.actor.text actors) k (λ e. omega (arith, e, among, far)))
    ∙ no_parts actors more k far both.1

pub run_is_woven : RunIsWoven
run_is_woven states first forms fine =
    let actors = actors_of forms in
    let parts = script_parts actors forms in
    let none = no_faults states first forms fine in
    let owners = have_owners states (text_script actors forms) no_uses none.steps in
    let each = woven owners.owner parts (opening_world states) no_notes (λ a. no_notes) None None
    (script_fits owners.owner actors forms owners.owned None None)
    (record { names = λ a x o. refl; value = λ a e. refl; frame = λ a e. refl }) in
    record {
      each = λ a below. each a;
      others = λ k far.
          subst (λ l. Spells no_notes l (own_calls k (sequential (opening_world states) no_notes parts)))
          (parts_are_of_script k actors forms ∙ no_parts actors forms k far none.actors) (each k);
    }

pub run_writes_an_output_of_threads : RunWritesAnOutputOfThreads
unfolding run_output run_text
run_writes_an_output_of_threads flags bytes t text =
    let parts = script_parts (actors_of t.script) t.script in
    let opening = opening_world t.program.states in
    record {
      history = sequential opening no_notes parts;
      possible = record {
        legal = (spelled opening no_notes parts).0;
        woven = run_is_woven t.program.states None t.script text.runs;
      };
      is = refl;
    }
