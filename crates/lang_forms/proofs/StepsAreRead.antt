-- Trees with the forms of steps are parsed as them.
use Rattle.std.proofs.Common.{◌≡◌, ℕ, List, [], ◌∷◌, Option, Some, None, Bool, true, false, true≢false, ℤ, refl, sym, ap, ◌∙◌, codes}
use Rattle.std.specs.Fmt.{signed_decimal}
use Rattle.std.specs.Option.{option_map}
use Rattle.std.specs.Str.{bytes_eq}
use Rattle.std.proofs.lemmas.Option.{cond_some}
use Rattle.std.proofs.lemmas.Slice.Eq.{bytes_eq-Decides}
use Rattle.sexp_text.specs.Forest.{Forest, empty, atom, list}
use Rattle.rt_values.specs.declared.names.Kind.{Kind}
use Rattle.rt_values.specs.declared.value.Value.{Value}
use Rattle.lang_ast.specs.declared.syntax.Ident.{Ident}
use Rattle.lang_ast.specs.declared.script.SnapshotRef.{SnapshotRef}
use Rattle.lang_ast.specs.declared.script.SnapshotRef.TheVariants.{Global, Named as NamedSnapshot}
use Rattle.lang_ast.specs.declared.script.CallForm.{CallForm}
use Rattle.lang_ast.specs.declared.script.CallForm.TheVariants as call
use Rattle.lang_ast.specs.declared.script.StepForm.{StepForm}
use Rattle.lang_ast.specs.declared.script.StepForm.TheVariants as step
use Rattle.lang_ast.specs.declared.script.ScriptForm.{ScriptForm}
use Rattle.lang_ast.specs.declared.script.ScriptForm.TheVariants.{Once, Repeat}
use Rattle.lang_limits.specs.Tokens.{fits}
use Rattle.lang_forms.specs.Names.{is_name, number_of_name}
use Rattle.rt_values.specs.Keywords.{kind_word}
use Rattle.lang_forms.specs.Sketch.{Sketch, nothing, Fits}
use Rattle.lang_forms.specs.Forms.{name, snapshot_forms, call_forms, calls_forms, step_forms, steps_forms, actor_step_forms, actor_forms, is_snapshot, SpelledCall, SpelledCalls, SpelledStep, SpelledSteps, SpelledActorStep, SpelledActor}
use Rattle.lang_forms.specs.Readings.{when, Seen, seen_trees, word, chars, form, word_of, name_of, literal_at, number_of_first, snapshot_of, state_in_snapshot, take_form, read_form, write_form, add_form, only_snapshot, plain_step_form, plain_steps_of, during_form, frame_form, step_form, steps_of, repeat_form, actor_step_form, actor_steps_of}
use Rattle.lang_forms.proofs.KeywordTables.{kind_table, keyword_there}
use Rattle.lang_forms.proofs.FormsAreRead.{First, name_there, number_there, literal_read, literal_there, list_with_word}
use Rattle.lang_forms.proofs.ReadHasForms.{either}

-- A first tree that is a list, with what its trees are parsed as.
record ListFirst {A : Type 0} (f : Forest) (read : ℕ → List Seen → Option A) (a : A) (g : Sketch) : Type 0 where
  at : ℕ
  inner : Forest
  rest : Forest
  is : f ≡ list at inner rest
  as_read : read at (seen_trees inner) ≡ Some a
  behind : Fits rest g

-- Trees that are equal to those of a form.
one_form : {A : Type 0} (read : ℕ → List Seen → Option A) (at p : ℕ) (f i j r : Forest) (a : A) (g : Sketch)
    → f ≡ list at i r → at ≡ p → i ≡ j → read p (seen_trees j) ≡ Some a → Fits r g → ListFirst f read a g
one_form read at p f i j r a g is told same h rest = record {
  at = at;
  inner = i;
  rest = r;
  is = is;
  as_read = ap (λ (q : ℕ). read q (seen_trees i)) told ∙ ap (λ (x : Forest). read p (seen_trees x)) same ∙ h;
  behind = rest;
}

-- Snapshots.

-- A first tree that is a snapshot.
record SnapshotFirst (f : Forest) (s : SnapshotRef) (g : Sketch) : Type 0 where
  rest : Forest
  read : snapshot_of (seen_trees f) ≡ Some (s, seen_trees rest)
  behind : Fits rest g

global_there : (a : ℕ) (r : Forest) → snapshot_of (seen_trees (atom a (codes "global") r)) ≡ Some (Global, seen_trees r)
unfolding snapshot_of word_of
global_there a r = refl

name_no_global : (n : List ℕ) → is_name n ≡ true → bytes_eq n (codes "global") ≡ false
name_no_global n h = by (bytes_eq n (codes "global")) refl
  where
    by : (b : Bool) → bytes_eq n (codes "global") ≡ b → b ≡ false
    by true e = absurd (true≢false (sym h ∙ ap is_name ((bytes_eq-Decides n (codes "global")).0 e)))
    by false e = refl

named_there : (n : Ident) (r : Forest) → is_name n.text ≡ true
    → snapshot_of (seen_trees (atom n.at n.text r)) ≡ Some (NamedSnapshot n, seen_trees r)
unfolding snapshot_of word_of
named_there n r h = rw (name_no_global n.text h, name_there n r h)

snapshot_read : (s : SnapshotRef) (f : Forest) (g : Sketch) → is_snapshot s ≡ true → Fits f (snapshot_forms s g)
    → SnapshotFirst f s g
snapshot_read Global f g s h = record {
  rest = h.1;
  read = ap (λ (x : Forest). snapshot_of (seen_trees x)) h.2 ∙ global_there h.0 h.1;
  behind = h.4;
}
snapshot_read (NamedSnapshot n) f g s h =
    record {
      rest = h.1;
      read = ap (λ (x : Forest). snapshot_of (seen_trees x))
          (h.2 ∙ ap (λ (p : ℕ). atom p n.text h.1) h.3) ∙ named_there n h.1 s;
      behind = h.4;
    }

-- A first tree that is a snapshot, and a name after it.
record StateFirst (f : Forest) (s : SnapshotRef) (n : Ident) (g : Sketch) : Type 0 where
  rest : Forest
  read : state_in_snapshot (seen_trees f) ≡ Some ((s, n), seen_trees rest)
  behind : Fits rest g

state_first : (s : SnapshotRef) (n : Ident) (f : Forest) (g : Sketch) → is_snapshot s ≡ true → is_name n.text ≡ true
    → Fits f (snapshot_forms s (name n g)) → StateFirst f s n g
unfolding state_in_snapshot
state_first s n f g good named h =
    let x = snapshot_read s f (name n g) good h in
    let y = x.behind in
    let there : name_of (seen_trees x.rest) ≡ Some (n, seen_trees y.1) =
    ap (λ (r : Forest). name_of (seen_trees r)) (y.2 ∙ ap (λ (p : ℕ). atom p n.text y.1) y.3)
    ∙ name_there n y.1 named in
    record { rest = y.1; read = rw (x.read, there); behind = y.4 }

-- Steps without inner steps.

take_inside : (at b : ℕ) (n : Ident) (k : Kind) (p : SnapshotRef) (f : Forest) → is_name n.text ≡ true
    → SnapshotFirst f p nothing →
    take_form at (seen_trees (atom n.at n.text (atom b (kind_word k) f))) ≡ Some (call.Take at n k p)
unfolding take_form
take_inside at b n k p f h one = rw (name_there n _ h, keyword_there kind_table k b f, one.read, one.behind)

take_there : (m : List (List ℕ)) (at a b : ℕ) (n : Ident) (k : Kind) (p : SnapshotRef) (f : Forest)
    → is_name n.text ≡ true → SnapshotFirst f p nothing →
    plain_step_form m at (seen_trees (atom a (codes "take") (atom n.at n.text (atom b (kind_word k) f)))) ≡ Some (call.Take at n k p)
unfolding plain_step_form word_of
take_there m at a b n k p f h one = rw (take_inside at b n k p f h one)

read_there : (m : List (List ℕ)) (at a : ℕ) (s : SnapshotRef) (n : Ident) (f : Forest) → StateFirst f s n nothing →
    plain_step_form m at (seen_trees (atom a (codes "read") f)) ≡ Some (call.Read at s n (number_of_name n.text m))
unfolding plain_step_form read_form word_of
read_there m at a s n f one = rw (one.read, one.behind)

write_there : (m : List (List ℕ)) (at a : ℕ) (s : SnapshotRef) (n : Ident) (v : Value) (f : Forest) (g : Sketch)
    → (one : StateFirst f s n g) → First one.rest literal_at v nothing →
    plain_step_form m at (seen_trees (atom a (codes "write") f)) ≡ Some (call.Write at s n (number_of_name n.text m) v)
unfolding plain_step_form write_form word_of
write_there m at a s n v f g one x = rw (one.read, literal_there v one.rest nothing x, x.behind)

add_there : (m : List (List ℕ)) (at a b : ℕ) (s : SnapshotRef) (n : Ident) (z : ℤ) (f : Forest) (g : Sketch)
    → fits z ≡ true → (one : StateFirst f s n g) → one.rest ≡ atom b (signed_decimal z) empty →
    plain_step_form m at (seen_trees (atom a (codes "add") f)) ≡ Some (call.Add at s n (number_of_name n.text m) z)
unfolding plain_step_form add_form word_of
add_there m at a b s n z f g fit one is =
    let there : number_of_first (seen_trees one.rest) ≡ Some (z, []) =
    ap (λ (x : Forest). number_of_first (seen_trees x)) is ∙ number_there z b empty fit in
    rw (one.read, there)

only_there : (s : SnapshotRef) (f : Forest) → SnapshotFirst f s nothing → only_snapshot (seen_trees f) ≡ Some s
unfolding only_snapshot
only_there s f one = rw (one.read, one.behind)

apply_there : (m : List (List ℕ)) (at a : ℕ) (s : SnapshotRef) (f : Forest) → SnapshotFirst f s nothing → plain_step_form m at (seen_trees (atom a (codes "apply") f)) ≡ Some (call.Apply at s)
unfolding plain_step_form word_of
apply_there m at a s f one = rw (only_there s f one)

dispose_there : (m : List (List ℕ)) (at a : ℕ) (s : SnapshotRef) (f : Forest) → SnapshotFirst f s nothing → plain_step_form m at (seen_trees (atom a (codes "dispose") f)) ≡ Some (call.Dispose at s)
unfolding plain_step_form word_of
dispose_there m at a s f one = rw (only_there s f one)

call_read : (m : List (List ℕ)) (c : CallForm) (f : Forest) (g : Sketch) → SpelledCall m c → Fits f (call_forms c g)
    → ListFirst f (plain_step_form m) c g
call_read m (call.Take at n k p) f g s h =
    let w = h.5 in
    let x = w.4 in
    let y = x.4 in
    one_form (plain_step_form m) h.0 at f h.1 _ h.2 _ g h.3 h.4
    (list_with_word h.1 w.1 x.1 w.0 x.0 (codes "take") n w.2 x.2 x.3 ∙ ap (λ (i : Forest). atom w.0 (codes "take") (atom n.at n.text i)) y.2)
    (take_there m at w.0 y.0 n k p y.1 s.0 (snapshot_read p y.1 nothing s.1 y.4)) h.6
call_read m (call.Read at x n object) f g s h =
    let w = h.5 in
    one_form (plain_step_form m) h.0 at f h.1 _ h.2 _ g h.3 h.4 w.2
    (read_there m at w.0 x n w.1 (state_first x n w.1 nothing s.0 s.1 w.4)
    ∙ ap (λ (c : ℕ). Some (call.Read at x n c)) (sym s.2)) h.6
call_read m (call.Write at x n object v) f g s h =
    let w = h.5 in
    let one = state_first x n w.1 _ s.0 s.1 w.4 in
    one_form (plain_step_form m) h.0 at f h.1 _ h.2 _ g h.3 h.4 w.2
    (write_there m at w.0 x n v w.1 _ one (literal_read v one.rest nothing s.3 one.behind)
    ∙ ap (λ (c : ℕ). Some (call.Write at x n c v)) (sym s.2)) h.6
call_read m (call.Add at x n object z) f g s h =
    let w = h.5 in
    let one = state_first x n w.1 _ s.0 s.1 w.4 in
    let y = one.behind in
    one_form (plain_step_form m) h.0 at f h.1 _ h.2 _ g h.3 h.4 w.2
    (add_there m at w.0 y.0 x n z w.1 _ s.3 one (y.2 ∙ ap (atom y.0 (signed_decimal z)) y.4)
    ∙ ap (λ (c : ℕ). Some (call.Add at x n c z)) (sym s.2)) h.6
call_read m (call.Apply at x) f g s h =
    let w = h.5 in
    one_form (plain_step_form m) h.0 at f h.1 _ h.2 _ g h.3 h.4 w.2
    (apply_there m at w.0 x w.1 (snapshot_read x w.1 nothing s w.4)) h.6
call_read m (call.Dispose at x) f g s h =
    let w = h.5 in
    one_form (plain_step_form m) h.0 at f h.1 _ h.2 _ g h.3 h.4 w.2
    (dispose_there m at w.0 x w.1 (snapshot_read x w.1 nothing s w.4)) h.6

calls_read : (m : List (List ℕ)) (cs : List CallForm) (f : Forest) → SpelledCalls m cs → Fits f (calls_forms cs)
    → plain_steps_of m (seen_trees f) ≡ Some cs
unfolding plain_steps_of
calls_read m [] f s h = rw h
calls_read m (c ∷ cs) f s h =
    let one = call_read m c f (calls_forms cs) s.0 h in
    ap (λ (y : Forest). plain_steps_of m (seen_trees y)) one.is
    ∙ rw (one.as_read, calls_read m cs one.rest s.1 one.behind)

-- Trees whose first word is another.

other_word : (w v : List ℕ) (ss r : List Seen) → bytes_eq w v ≡ false → word_of w ss ≡ Some r → word_of v ss ≡ None
unfolding word_of
other_word w v [] r e h = absurd (cc)
other_word w v (word at a ∷ ss) r e h =
    let c = cond_some (bytes_eq a w) ss r h in
    ap (λ (x : List ℕ). when (bytes_eq x v) ss) ((bytes_eq-Decides a w).0 c.0) ∙ ap (λ (b : Bool). when b ss) e
other_word w v (chars at s ∷ ss) r e h = absurd (cc)
other_word w v (form at x ∷ ss) r e h = absurd (cc)

-- A step without inner steps begins with no other word.
call_no_word : (m : List (List ℕ)) (at : ℕ) (v : List ℕ) (ss : List Seen) (c : CallForm) → bytes_eq (codes "take") v ≡ false → bytes_eq (codes "read") v ≡ false → bytes_eq (codes "write") v ≡ false
    → bytes_eq (codes "add") v ≡ false → bytes_eq (codes "apply") v ≡ false → bytes_eq (codes "dispose") v ≡ false → plain_step_form m at ss ≡ Some c → word_of v ss ≡ None
unfolding plain_step_form
call_no_word m at v ss c e0 e1 e2 e3 e4 e5 h =
    let C = word_of v ss ≡ None in
    either C (word_of (codes "take") ss) (take_form at) _ c h (λ r w x. other_word (codes "take") v ss r e0 w) (λ h1.
    either C (word_of (codes "read") ss) (read_form m at) _ c h1 (λ r w x. other_word (codes "read") v ss r e1 w) (λ h2.
    either C (word_of (codes "write") ss) (write_form m at) _ c h2 (λ r w x. other_word (codes "write") v ss r e2 w) (λ h3.
    either C (word_of (codes "add") ss) (add_form m at) _ c h3 (λ r w x. other_word (codes "add") v ss r e3 w) (λ h4.
    either C (word_of (codes "apply") ss) (λ r. option_map (call.Apply at) (only_snapshot r)) _ c h4 (λ r w x. other_word (codes "apply") v ss r e4 w) (λ h5.
    either C (word_of (codes "dispose") ss) (λ r. option_map (call.Dispose at) (only_snapshot r)) None c h5 (λ r w x. other_word (codes "dispose") v ss r e5 w) (λ h6.
    absurd (cc (h6))))))))

called : (m : List (List ℕ)) (at : ℕ) (ss : List Seen) (c : CallForm) → plain_step_form m at ss ≡ Some c
    → step_form m at ss ≡ Some (step.Call c)
unfolding step_form
called m at ss c h = rw (call_no_word m at (codes "frame") ss c refl refl refl refl refl refl h, h)

step_no_repeat : (m : List (List ℕ)) (at : ℕ) (ss : List Seen) (t : StepForm) → step_form m at ss ≡ Some t → word_of (codes "repeat") ss ≡ None
unfolding step_form
step_no_repeat m at ss t h =
    either (word_of (codes "repeat") ss ≡ None) (word_of (codes "frame") ss) (frame_form m at) _ t h (λ r w x. other_word (codes "frame") (codes "repeat") ss r refl w)
    (λ h1. by (plain_step_form m at ss) refl h1)
  where
    by : (o : Option CallForm) → plain_step_form m at ss ≡ o → option_map step.Call o ≡ Some t → word_of (codes "repeat") ss ≡ None
    by None e k = absurd (cc)
    by (Some c) e k = call_no_word m at (codes "repeat") ss c refl refl refl refl refl refl e

once : (m : List (List ℕ)) (at : ℕ) (ss : List Seen) (t : StepForm) → step_form m at ss ≡ Some t
    → actor_step_form m at ss ≡ Some (Once t)
unfolding actor_step_form
once m at ss t h = rw (step_no_repeat m at ss t h, h)

-- Frames, repeats and the steps of actors.

frame_there : (m : List (List ℕ)) (at a : ℕ) → step_form m at (seen_trees (atom a (codes "frame") empty)) ≡ Some (step.Frame at)
unfolding step_form frame_form word_of
frame_there m at a = refl

during_there : (m : List (List ℕ)) (at a b p : ℕ) (cs : List CallForm) (f : Forest)
    → plain_steps_of m (seen_trees f) ≡ Some cs →
    step_form m at (seen_trees (atom a (codes "frame") (list p (atom b (codes "during") f) empty))) ≡ Some (step.FrameDuring at cs)
unfolding step_form frame_form during_form word_of
during_there m at a b p cs f h = rw h

step_read : (m : List (List ℕ)) (t : StepForm) (f : Forest) (g : Sketch) → SpelledStep m t → Fits f (step_forms t g)
    → ListFirst f (step_form m) t g
step_read m (step.Call c) f g s h =
    let one = call_read m c f g s h in
    record {
      at = one.at;
      inner = one.inner;
      rest = one.rest;
      is = one.is;
      as_read = called m one.at (seen_trees one.inner) c one.as_read;
      behind = one.behind;
    }
step_read m (step.Frame at) f g s h =
    let w = h.5 in
    one_form (step_form m) h.0 at f h.1 _ h.2 _ g h.3 h.4 (w.2 ∙ ap (atom w.0 (codes "frame")) w.4) (frame_there m at w.0) h.6
step_read m (step.FrameDuring at cs) f g s h =
    let w = h.5 in
    let x = w.4 in
    let y = x.5 in
    let inner : w.1 ≡ list x.0 (atom y.0 (codes "during") y.1) empty = x.3 ∙ ap (λ (i : Forest). list x.0 i x.2) y.2 ∙ ap (list x.0 (atom y.0 (codes "during") y.1)) x.6 in
    one_form (step_form m) h.0 at f h.1 _ h.2 _ g h.3 h.4 (w.2 ∙ ap (atom w.0 (codes "frame")) inner) (during_there m at w.0 y.0 x.0 cs y.1 (calls_read m cs y.1 s y.4)) h.6

steps_read : (m : List (List ℕ)) (ts : List StepForm) (f : Forest) → SpelledSteps m ts → Fits f (steps_forms ts)
    → steps_of m (seen_trees f) ≡ Some ts
unfolding steps_of
steps_read m [] f s h = rw h
steps_read m (t ∷ ts) f s h =
    let one = step_read m t f (steps_forms ts) s.0 h in
    ap (λ (y : Forest). steps_of m (seen_trees y)) one.is ∙ rw (one.as_read, steps_read m ts one.rest s.1 one.behind)

repeat_there : (m : List (List ℕ)) (at a b : ℕ) (z : ℤ) (ts : List StepForm) (f : Forest) → fits z ≡ true
    → steps_of m (seen_trees f) ≡ Some ts →
    actor_step_form m at (seen_trees (atom a (codes "repeat") (atom b (signed_decimal z) f))) ≡ Some (Repeat at z ts)
unfolding actor_step_form repeat_form word_of
repeat_there m at a b z ts f fit h = rw (number_there z b f fit, h)

script_read : (m : List (List ℕ)) (t : ScriptForm) (f : Forest) (g : Sketch) → SpelledActorStep m t
    → Fits f (actor_step_forms t g) → ListFirst f (actor_step_form m) t g
script_read m (Once t) f g s h =
    let one = step_read m t f g s h in
    record {
      at = one.at;
      inner = one.inner;
      rest = one.rest;
      is = one.is;
      as_read = once m one.at (seen_trees one.inner) t one.as_read;
      behind = one.behind;
    }
script_read m (Repeat at z ts) f g s h =
    let w = h.5 in
    let x = w.4 in
    one_form (actor_step_form m) h.0 at f h.1 _ h.2 _ g h.3 h.4 (w.2 ∙ ap (atom w.0 (codes "repeat")) x.2) (repeat_there m at w.0 x.0 z ts x.1 s.0 (steps_read m ts x.1 s.1 x.4)) h.6

-- Trees with the forms of the steps of an actor are parsed as them.
pub actor_read : (m : List (List ℕ)) (ts : List ScriptForm) (f : Forest) → SpelledActor m ts → Fits f (actor_forms ts)
    → actor_steps_of m (seen_trees f) ≡ Some ts
unfolding actor_steps_of
actor_read m [] f s h = rw h
actor_read m (t ∷ ts) f s h =
    let one = script_read m t f (actor_forms ts) s.0 h in
    ap (λ (y : Forest). actor_steps_of m (seen_trees y)) one.is
    ∙ rw (one.as_read, actor_read m ts one.rest s.1 one.behind)
