-- Trees that are parsed as steps have their forms.
use Rattle.std.proofs.Common.{◌≡◌, inl, inr, ℕ, List, ◌∷◌, Some, None, Bool, true, false, cond, refl, sym, ap, ◌∙◌, subst, codes}
use Rattle.std.specs.Option.{option_map}
use Rattle.std.proofs.lemmas.Option.{cond_some}
use Rattle.sexp_text.specs.Forest.{Forest, empty, atom, text, list}
use Rattle.lang_ast.specs.declared.syntax.Ident.{Ident}
use Rattle.lang_ast.specs.declared.script.SnapshotRef.{SnapshotRef}
use Rattle.lang_ast.specs.declared.script.SnapshotRef.TheVariants.{Global, Named as NamedSnapshot}
use Rattle.lang_ast.specs.declared.script.CallForm.{CallForm}
use Rattle.lang_ast.specs.declared.script.CallForm.TheVariants as call
use Rattle.lang_ast.specs.declared.script.StepForm.{StepForm}
use Rattle.lang_ast.specs.declared.script.StepForm.TheVariants as step
use Rattle.lang_ast.specs.declared.script.ScriptForm.{ScriptForm}
use Rattle.lang_ast.specs.declared.script.ScriptForm.TheVariants.{Once}
use Rattle.lang_forms.specs.Names.{is_name, number_of_name}
use Rattle.lang_forms.specs.Sketch.{Sketch, nothing, Fits}
use Rattle.lang_forms.specs.Forms.{name, snapshot_forms, call_forms, calls_forms, step_forms, steps_forms, actor_step_forms, actor_forms, is_snapshot, SpelledCall, SpelledCalls, SpelledStep, SpelledSteps, SpelledActorStep, SpelledActor}
use Rattle.lang_forms.specs.Words.{kind_for_word}
use Rattle.lang_forms.specs.Readings.{◌>>=◌, when, Seen, seen_trees, is_end, word_of, name_of, keyword_of, literal_of, number_of_first, snapshot_of, state_in_snapshot, take_form, read_form, write_form, add_form, only_snapshot, plain_step_form, plain_steps_of, during_form, during_of, frame_form, step_form, steps_of, repeat_form, actor_step_form, actor_steps_of}
use Rattle.lang_forms.proofs.KeywordTables.{kind_table}
use Rattle.lang_forms.proofs.Found.{inject, bind_some, map_some, choose_some, Worded, word_found, name_next, keyword_next, literal_next, number_next, end_next, tail}
use Rattle.lang_forms.proofs.ReadHasForms.{either}

-- Snapshots.

-- A first tree that is a snapshot, and the trees after it.
record SnapshotFits (i : Forest) (s : SnapshotRef × List Seen) : Type 0 where
  rest : Forest
  behind : s.1 ≡ seen_trees rest
  fit : (g : Sketch) → Fits rest g → Fits i (snapshot_forms s.0 g)
  good : is_snapshot s.0 ≡ true

snapshot_found : (i : Forest) (s : SnapshotRef × List Seen) → snapshot_of (seen_trees i) ≡ Some s → SnapshotFits i s
unfolding snapshot_of
snapshot_found i s h = elim (choose_some (word_of (codes "global") (seen_trees i)) (λ r. Some (Global, r)) _ s h) [
  | inl x ↦
      let w = word_found (codes "global") i x.0 x.1 in
      let same : (Global, x.0) ≡ s = inject x.2 in
      subst (λ (y : SnapshotRef × List Seen). SnapshotFits i y) same
      (record { rest = w.rest; behind = w.behind; fit = λ g r. (w.at, w.rest, w.is, tt, r); good = refl })
  | inr x ↦
      let n = map_some (name_of (seen_trees i)) (λ (n : Ident × List Seen). (NamedSnapshot n.0, n.1)) s x.1 in
      let y = name_next i (seen_trees i) n.0 refl n.1 in
      subst (λ (y : SnapshotRef × List Seen). SnapshotFits i y) n.2
      (record { rest = y.rest; behind = y.behind; fit = λ g r. (n.0.0.at, y.rest, y.is, refl, r); good = y.good })
]

snapshot_next : (i : Forest) (rs : List Seen) (s : SnapshotRef × List Seen) → rs ≡ seen_trees i
    → snapshot_of rs ≡ Some s → SnapshotFits i s
snapshot_next i rs s is h = snapshot_found i s (ap snapshot_of (sym is) ∙ h)

-- A first tree that is a snapshot, the name after it, and the trees after both.
record InSnapshot (i : Forest) (x : (SnapshotRef × Ident) × List Seen) : Type 0 where
  rest : Forest
  behind : x.1 ≡ seen_trees rest
  fit : (g : Sketch) → Fits rest g → Fits i (snapshot_forms x.0.0 (name x.0.1 g))
  good : is_snapshot x.0.0 ≡ true
  named : is_name x.0.1.text ≡ true

in_snapshot : (i : Forest) (rs : List Seen) (x : (SnapshotRef × Ident) × List Seen) → rs ≡ seen_trees i
    → state_in_snapshot rs ≡ Some x → InSnapshot i x
unfolding state_in_snapshot
in_snapshot i rs x is h =
    let s = bind_some (snapshot_of rs) _ x h in
    let y = snapshot_next i rs s.0 is s.1 in
    let n = bind_some (name_of s.0.1) _ x s.2 in
    let z = name_next y.rest s.0.1 n.0 y.behind n.1 in
    let same : ((s.0.0, n.0.0), n.0.1) ≡ x = inject n.2 in
    subst (λ (p : (SnapshotRef × Ident) × List Seen). InSnapshot i p) same
    (record {
      rest = z.rest;
      behind = z.behind;
      fit = λ g r. y.fit (name n.0.0 g) (n.0.0.at, z.rest, z.is, refl, r);
      good = y.good;
      named = z.good;
    })

-- Steps without inner steps.

record CallFits (m : List (List ℕ)) (at : ℕ) (i : Forest) (c : CallForm) : Type 0 where
  fits : (f : Forest) (g : Sketch) → Fits f g → Fits (list at i f) (call_forms c g)
  spelled : SpelledCall m c

take_found : (m : List (List ℕ)) (at : ℕ) (i : Forest) (c : CallForm) (ss : List Seen) → Worded i (codes "take") ss → take_form at ss ≡ Some c → CallFits m at i c
unfolding take_form
take_found m at i c ss w h =
    let n = bind_some (name_of ss) _ c h in
    let x = name_next w.rest ss n.0 w.behind n.1 in
    let k = bind_some (keyword_of kind_for_word n.0.1) _ c n.2 in
    let y = keyword_next kind_table x.rest n.0.1 k.0 x.behind k.1 in
    let s = bind_some (snapshot_of k.0.1) _ c k.2 in
    let z = snapshot_next y.rest k.0.1 s.0 y.behind s.1 in
    let made : CallForm = call.Take at n.0.0 k.0.0 s.0.0 in
    let d = cond_some (is_end s.0.1) made c s.2 in
    let over = end_next z.rest s.0.1 z.behind d.0 in
    subst (λ (q : CallForm). CallFits m at i q) d.1 (record {
      fits = λ f g rest. (
        at,
        i,
        f,
        refl,
        refl,
        (w.at, w.rest, w.is, tt, (n.0.0.at, x.rest, x.is, refl, (y.at, y.rest, y.is, tt, z.fit nothing over))),
        rest,
      );
      spelled = (x.good, z.good);
    })

read_found : (m : List (List ℕ)) (at : ℕ) (i : Forest) (c : CallForm) (ss : List Seen) → Worded i (codes "read") ss → read_form m at ss ≡ Some c → CallFits m at i c
unfolding read_form
read_found m at i c ss w h =
    let x = bind_some (state_in_snapshot ss) _ c h in
    let y = in_snapshot w.rest ss x.0 w.behind x.1 in
    let made : CallForm = call.Read at x.0.0.0 x.0.0.1 (number_of_name x.0.0.1.text m) in
    let d = cond_some (is_end x.0.1) made c x.2 in
    let over = end_next y.rest x.0.1 y.behind d.0 in
    subst (λ (q : CallForm). CallFits m at i q) d.1 (record {
      fits = λ f g rest. (at, i, f, refl, refl, (w.at, w.rest, w.is, tt, y.fit nothing over), rest);
      spelled = (y.good, y.named, refl);
    })

write_found : (m : List (List ℕ)) (at : ℕ) (i : Forest) (c : CallForm) (ss : List Seen) → Worded i (codes "write") ss → write_form m at ss ≡ Some c → CallFits m at i c
unfolding write_form
write_found m at i c ss w h =
    let x = bind_some (state_in_snapshot ss) _ c h in
    let y = in_snapshot w.rest ss x.0 w.behind x.1 in
    let v = bind_some (literal_of x.0.1) _ c x.2 in
    let z = literal_next y.rest x.0.1 v.0 y.behind v.1 in
    let made : CallForm = call.Write at x.0.0.0 x.0.0.1 (number_of_name x.0.0.1.text m) v.0.0 in
    let d = cond_some (is_end v.0.1) made c v.2 in
    let over = end_next (tail y.rest) v.0.1 z.behind d.0 in
    subst (λ (q : CallForm). CallFits m at i q) d.1 (record {
      fits = λ f g rest. (at, i, f, refl, refl, (w.at, w.rest, w.is, tt, y.fit _ (z.fit nothing over)), rest);
      spelled = (y.good, y.named, refl, z.whole);
    })

add_found : (m : List (List ℕ)) (at : ℕ) (i : Forest) (c : CallForm) (ss : List Seen) → Worded i (codes "add") ss → add_form m at ss ≡ Some c → CallFits m at i c
unfolding add_form
add_found m at i c ss w h =
    let x = bind_some (state_in_snapshot ss) _ c h in
    let y = in_snapshot w.rest ss x.0 w.behind x.1 in
    let v = bind_some (number_of_first x.0.1) _ c x.2 in
    let z = number_next y.rest x.0.1 v.0 y.behind v.1 in
    let made : CallForm = call.Add at x.0.0.0 x.0.0.1 (number_of_name x.0.0.1.text m) v.0.0 in
    let d = cond_some (is_end v.0.1) made c v.2 in
    let over = end_next z.rest v.0.1 z.behind d.0 in
    subst (λ (q : CallForm). CallFits m at i q) d.1 (record {
      fits = λ f g rest. (at, i, f, refl, refl, (w.at, w.rest, w.is, tt, y.fit _ (z.at, z.rest, z.is, tt, over)), rest);
      spelled = (y.good, y.named, refl, z.good);
    })

-- A snapshot and nothing after it.
record OnlySnapshot (i : Forest) (s : SnapshotRef) : Type 0 where
  fits : Fits i (snapshot_forms s nothing)
  good : is_snapshot s ≡ true

only_found : (i : Forest) (ss : List Seen) (s : SnapshotRef) → ss ≡ seen_trees i → only_snapshot ss ≡ Some s
    → OnlySnapshot i s
unfolding only_snapshot
only_found i ss s is h =
    let x = bind_some (snapshot_of ss) _ s h in
    let y = snapshot_next i ss x.0 is x.1 in
    let d = cond_some (is_end x.0.1) x.0.0 s x.2 in
    let over = end_next y.rest x.0.1 y.behind d.0 in
    subst (λ (q : SnapshotRef). OnlySnapshot i q) d.1 (record { fits = y.fit nothing over; good = y.good })

apply_found : (m : List (List ℕ)) (at : ℕ) (i : Forest) (c : CallForm) (ss : List Seen) → Worded i (codes "apply") ss → option_map (call.Apply at) (only_snapshot ss) ≡ Some c → CallFits m at i c
apply_found m at i c ss w h =
    let s = map_some (only_snapshot ss) (call.Apply at) c h in
    let y = only_found w.rest ss s.0 w.behind s.1 in
    subst (λ (q : CallForm). CallFits m at i q) s.2
    (record { fits = λ f g rest. (at, i, f, refl, refl, (w.at, w.rest, w.is, tt, y.fits), rest); spelled = y.good })

dispose_found : (m : List (List ℕ)) (at : ℕ) (i : Forest) (c : CallForm) (ss : List Seen) → Worded i (codes "dispose") ss → option_map (call.Dispose at) (only_snapshot ss) ≡ Some c → CallFits m at i c
dispose_found m at i c ss w h =
    let s = map_some (only_snapshot ss) (call.Dispose at) c h in
    let y = only_found w.rest ss s.0 w.behind s.1 in
    subst (λ (q : CallForm). CallFits m at i q) s.2
    (record { fits = λ f g rest. (at, i, f, refl, refl, (w.at, w.rest, w.is, tt, y.fits), rest); spelled = y.good })

call_found : (m : List (List ℕ)) (at : ℕ) (i : Forest) (c : CallForm) → plain_step_form m at (seen_trees i) ≡ Some c
    → CallFits m at i c
unfolding plain_step_form
call_found m at i c h =
    let C = CallFits m at i c in
    either C (word_of (codes "take") (seen_trees i)) (take_form at) _ c h (λ ss w x. take_found m at i c ss (word_found (codes "take") i ss w) x) (λ h1.
    either C (word_of (codes "read") (seen_trees i)) (read_form m at) _ c h1 (λ ss w x. read_found m at i c ss (word_found (codes "read") i ss w) x) (λ h2.
    either C (word_of (codes "write") (seen_trees i)) (write_form m at) _ c h2 (λ ss w x. write_found m at i c ss (word_found (codes "write") i ss w) x) (λ h3.
    either C (word_of (codes "add") (seen_trees i)) (add_form m at) _ c h3 (λ ss w x. add_found m at i c ss (word_found (codes "add") i ss w) x) (λ h4.
    either C (word_of (codes "apply") (seen_trees i)) (λ r. option_map (call.Apply at) (only_snapshot r)) _ c h4 (λ ss w x. apply_found m at i c ss (word_found (codes "apply") i ss w) x) (λ h5.
    either C (word_of (codes "dispose") (seen_trees i)) (λ r. option_map (call.Dispose at) (only_snapshot r)) None c h5 (λ ss w x. dispose_found m at i c ss (word_found (codes "dispose") i ss w) x) (λ h6.
    absurd (cc (h6))))))))

calls_found : (m : List (List ℕ)) (f : Forest) (cs : List CallForm) → plain_steps_of m (seen_trees f) ≡ Some cs
    → Fits f (calls_forms cs) × SpelledCalls m cs
unfolding plain_steps_of
calls_found m empty cs h = rw (← inject h) (refl, tt)
calls_found m (atom at a f) cs h = absurd (cc)
calls_found m (text at s f) cs h = absurd (cc)
calls_found m (list at i f) cs h =
    let c = bind_some (plain_step_form m at (seen_trees i)) _ cs h in
    let rest = map_some (plain_steps_of m (seen_trees f)) (λ (l : List CallForm). c.0 ∷ l) cs c.2 in
    let all = calls_found m f rest.0 rest.1 in
    let one = call_found m at i c.0 c.1 in
    subst (λ (l : List CallForm). Fits (list at i f) (calls_forms l) × SpelledCalls m l) rest.2
    (one.fits f (calls_forms rest.0) all.0, (one.spelled, all.1))

-- Frames.

record StepFits (m : List (List ℕ)) (at : ℕ) (i : Forest) (t : StepForm) : Type 0 where
  fits : (f : Forest) (g : Sketch) → Fits f g → Fits (list at i f) (step_forms t g)
  spelled : SpelledStep m t

-- A first tree that is a list of steps during a frame, and the trees after it.
record DuringFirst (m : List (List ℕ)) (f : Forest) (d : List CallForm × List Seen) : Type 0 where
  at : ℕ
  word : ℕ
  inner : Forest
  rest : Forest
  is : f ≡ list at (atom word (codes "during") inner) rest
  behind : d.1 ≡ seen_trees rest
  fits : Fits inner (calls_forms d.0)
  spelled : SpelledCalls m d.0

during_found : (m : List (List ℕ)) (f : Forest) (d : List CallForm × List Seen) → during_of m (seen_trees f) ≡ Some d
    → DuringFirst m f d
unfolding during_form
during_found m empty d h = absurd (cc)
during_found m (atom at a f) d h = absurd (cc)
during_found m (text at a f) d h = absurd (cc)
during_found m (list at i f) d h =
    let x = map_some (during_form m (seen_trees i)) (λ (cs : List CallForm). (cs, seen_trees f)) d h in
    let w = bind_some (word_of (codes "during") (seen_trees i)) (plain_steps_of m) x.0 x.1 in
    let y = word_found (codes "during") i w.0 w.1 in
    let all = calls_found m y.rest x.0 (ap (plain_steps_of m) (sym y.behind) ∙ w.2) in
    subst (λ (p : List CallForm × List Seen). DuringFirst m (list at i f) p) x.2
    (record {
      at = at;
      word = y.at;
      inner = y.rest;
      rest = f;
      is = ap (λ (j : Forest). list at j f) y.is;
      behind = refl;
      fits = all.0;
      spelled = all.1;
    })

frame_found : (m : List (List ℕ)) (at : ℕ) (i : Forest) (t : StepForm) (ss : List Seen) → Worded i (codes "frame") ss → frame_form m at ss ≡ Some t → StepFits m at i t
unfolding frame_form
frame_found m at i t ss w h = by (is_end ss) refl h
  where
    by : (b : Bool) → is_end ss ≡ b
        → cond b (Some (step.Frame at)) (during_of m ss >>= λ d. when (is_end d.1) (step.FrameDuring at d.0)) ≡ Some t
        → StepFits m at i t
    by true e k =
        let over = end_next w.rest ss w.behind e in
        subst (λ (q : StepForm). StepFits m at i q) (inject k)
        (record { fits = λ f g rest. (at, i, f, refl, refl, (w.at, w.rest, w.is, tt, over), rest); spelled = tt })
    by false e k =
        let d = bind_some (during_of m ss) _ t k in
        let x = during_found m w.rest d.0 (ap (during_of m) (sym w.behind) ∙ d.1) in
        let made : StepForm = step.FrameDuring at d.0.0 in
        let c = cond_some (is_end d.0.1) made t d.2 in
        let over = end_next x.rest d.0.1 x.behind c.0 in
        subst (λ (q : StepForm). StepFits m at i q) c.1 (record {
          fits = λ f g rest. (at, i, f, refl, refl, (w.at, w.rest, w.is, tt, (x.at, atom x.word (codes "during") x.inner, x.rest, x.is, tt, (x.word, x.inner, refl, tt, x.fits), over)), rest);
          spelled = x.spelled;
        })

step_found : (m : List (List ℕ)) (at : ℕ) (i : Forest) (t : StepForm) → step_form m at (seen_trees i) ≡ Some t
    → StepFits m at i t
unfolding step_form
step_found m at i t h =
    either (StepFits m at i t) (word_of (codes "frame") (seen_trees i)) (frame_form m at) _ t h (λ ss w x. frame_found m at i t ss (word_found (codes "frame") i ss w) x) (λ h1.
    let c = map_some (plain_step_form m at (seen_trees i)) step.Call t h1 in
    let one = call_found m at i c.0 c.1 in
    subst (λ (q : StepForm). StepFits m at i q) c.2 (record { fits = one.fits; spelled = one.spelled }))

steps_found : (m : List (List ℕ)) (f : Forest) (ts : List StepForm) → steps_of m (seen_trees f) ≡ Some ts
    → Fits f (steps_forms ts) × SpelledSteps m ts
unfolding steps_of
steps_found m empty ts h = rw (← inject h) (refl, tt)
steps_found m (atom at a f) ts h = absurd (cc)
steps_found m (text at s f) ts h = absurd (cc)
steps_found m (list at i f) ts h =
    let t = bind_some (step_form m at (seen_trees i)) _ ts h in
    let rest = map_some (steps_of m (seen_trees f)) (λ (l : List StepForm). t.0 ∷ l) ts t.2 in
    let all = steps_found m f rest.0 rest.1 in
    let one = step_found m at i t.0 t.1 in
    subst (λ (l : List StepForm). Fits (list at i f) (steps_forms l) × SpelledSteps m l) rest.2
    (one.fits f (steps_forms rest.0) all.0, (one.spelled, all.1))

-- Repeats, and the steps of an actor.

record ScriptFits (m : List (List ℕ)) (at : ℕ) (i : Forest) (t : ScriptForm) : Type 0 where
  fits : (f : Forest) (g : Sketch) → Fits f g → Fits (list at i f) (actor_step_forms t g)
  spelled : SpelledActorStep m t

repeat_found : (m : List (List ℕ)) (at : ℕ) (i : Forest) (t : ScriptForm) (ss : List Seen) → Worded i (codes "repeat") ss → repeat_form m at ss ≡ Some t → ScriptFits m at i t
unfolding repeat_form
repeat_found m at i t ss w h =
    let z = bind_some (number_of_first ss) _ t h in
    let x = number_next w.rest ss z.0 w.behind z.1 in
    let ts = bind_some (steps_of m z.0.1) _ t z.2 in
    let all = steps_found m x.rest ts.0 (ap (steps_of m) (sym x.behind) ∙ ts.1) in
    subst (λ (q : ScriptForm). ScriptFits m at i q) (inject ts.2)
    (record {
      fits = λ f g rest. (
        at,
        i,
        f,
        refl,
        refl,
        (w.at, w.rest, w.is, tt, (x.at, x.rest, x.is, tt, all.0)),
        rest,
      );
      spelled = (x.good, all.1);
    })

script_found : (m : List (List ℕ)) (at : ℕ) (i : Forest) (t : ScriptForm) → actor_step_form m at (seen_trees i) ≡ Some t
    → ScriptFits m at i t
unfolding actor_step_form
script_found m at i t h =
    either (ScriptFits m at i t) (word_of (codes "repeat") (seen_trees i)) (repeat_form m at) _ t h (λ ss w x. repeat_found m at i t ss (word_found (codes "repeat") i ss w) x) (λ h1.
    let s = map_some (step_form m at (seen_trees i)) Once t h1 in
    let one = step_found m at i s.0 s.1 in
    subst (λ (q : ScriptForm). ScriptFits m at i q) s.2 (record { fits = one.fits; spelled = one.spelled }))

-- Trees that are parsed as the steps of an actor have their forms.
pub actor_found : (m : List (List ℕ)) (f : Forest) (ts : List ScriptForm) → actor_steps_of m (seen_trees f) ≡ Some ts
    → Fits f (actor_forms ts) × SpelledActor m ts
unfolding actor_steps_of
actor_found m empty ts h = rw (← inject h) (refl, tt)
actor_found m (atom at a f) ts h = absurd (cc)
actor_found m (text at s f) ts h = absurd (cc)
actor_found m (list at i f) ts h =
    let t = bind_some (actor_step_form m at (seen_trees i)) _ ts h in
    let rest = map_some (actor_steps_of m (seen_trees f)) (λ (l : List ScriptForm). t.0 ∷ l) ts t.2 in
    let all = actor_found m f rest.0 rest.1 in
    let one = script_found m at i t.0 t.1 in
    subst (λ (l : List ScriptForm). Fits (list at i f) (actor_forms l) × SpelledActor m l) rest.2
    (one.fits f (actor_forms rest.0) all.0, (one.spelled, all.1))
