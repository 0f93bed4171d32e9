-- The printed calls of a history, call by call, with the open frame before each call.
use Rattle.std.proofs.Common.{◌≡◌, ◌⊎◌, inl, inr, ℕ, ◌==◌, List, [], ◌∷◌, ◌++◌, Bool, true, false, not, cond, ◌||◌, ◌&&◌, refl, sym, ap, ◌∙◌, subst, Option, Some, None, append-nil, if◌then◌else◌}
use Rattle.std.specs.List.{filter}
use Rattle.std.specs.Option.{is_some}
use Rattle.std.proofs.lemmas.Bool.{eqb-true}
use Rattle.std.proofs.lemmas.Bool.Decides.{eqb_tells}
use Rattle.lang_ast.specs.Terms.{Func}
use Rattle.snap_api.specs.World.{History}
use Rattle.snap_api.specs.declared.data.Entry.{Entry}
use Rattle.snap_api.specs.declared.data.Reply.{Reply}
use Rattle.snap_api.specs.declared.data.Reply.TheVariants as reply
use Rattle.snap_api.specs.declared.data.Request.{Request}
use Rattle.snap_api.specs.declared.data.Request.TheVariants as request
use Rattle.script_lang.specs.Lines.{LineStyle, Standing, ends_frame, frame_taken, lines, lines_at, name_in, next}
use Rattle.script_lang.specs.PrintedCalls.{reads_frame, frames_after}
use Rattle.play_laws.specs.FramesInTurn.{OpenFrame, AreInTurn, frame_opened}
use Rattle.play_laws.specs.PrintedHistory.{with_frames, printed_from}
use Rattle.play_run.specs.CallsInFrames.{frames_by, is_frame_read, frame_after, IsInTurn, call_lines, standing_then, object_asked}

-- While a frame is open, what is required of a call, by whether the call ends the frame.
abbrev pub Turn : Bool → ℕ → ℕ → List ℕ → Type 0
Turn b caller own taken = elim b [ true ↦ caller ≡ own | false ↦ taken ≡ [] ]

-- What is required of the call and of the history after it.
abbrev Turns : Bool → OpenFrame → Entry → History → Type 0
Turns b f e es = elim b [
  | true ↦ (e.caller ≡ f.caller) × AreInTurn None es
  | false ↦ (frame_taken e.request e.reply ≡ []) × AreInTurn (Some f) es
]

-- The first call of a history in which frames are in turn, and the rest.
turn_first : (b : Bool) (f : OpenFrame) (e : Entry) (es : History) → Turns b f e es →
    Turn b e.caller f.caller (frame_taken e.request e.reply) × AreInTurn (if b then None else Some f) es
turn_first true f e es h = h
turn_first false f e es h = h

in_turn_first : (frame : Option OpenFrame) (e : Entry) (es : History) → AreInTurn frame (e ∷ es)
    → IsInTurn frame e × AreInTurn (frame_after frame e) es
in_turn_first None e es h = (tt, h)
in_turn_first (Some f) e es h = turn_first (ends_frame (f.name ∷ []) e.request) f e es h

-- A number and itself.
pub itself : (n : ℕ) → (n == n) ≡ true
itself n = elim (eqb_tells n n) [ inl e ↦ e.0 | inr e ↦ absurd (e.1 refl) ]

-- What is printed depends only on the open frames of each caller.
pub printed_same : (f g : ℕ → List ℕ) → ((a : ℕ) → f a ≡ g a) → (h : History) → printed_from f h ≡ printed_from g h
printed_same f g same [] = refl
printed_same f g same (e ∷ es) =
    let a = e.caller in
    let own = frames_after (g a) e in
    let b = reads_frame (g a) e.request in
    ap (λ l. cond (reads_frame l e.request) (printed_from f es)
    (e ∷ printed_from (with_frames f a (frames_after l e)) es)) (same a)
    ∙ ap (λ l. cond b l (e ∷ printed_from (with_frames f a own) es)) (printed_same f g same es)
    ∙ ap (λ l. cond b (printed_from g es) (e ∷ l))
    (printed_same (with_frames f a own) (with_frames g a own) (λ c. ap (λ l. cond (a == c) own l) (same c)) es)

-- A call that ends no frame if none is open.
ends_none : (q : Request) → ends_frame [] q ≡ false
ends_none (request.Take parent kind) = refl
ends_none (request.TakeFor watcher) = refl
ends_none (request.Read n x) = refl
ends_none (request.Write n x v) = refl
ends_none (request.Apply n) = refl
ends_none (request.Dispose n) = refl

-- A call takes one snapshot at most for a frame.
one_taken_for : (watcher : ℕ) (y : Reply)
    → (frame_taken (request.TakeFor watcher) y ≡ [])
    ⊎ ((name : ℕ) × (frame_taken (request.TakeFor watcher) y ≡ name ∷ []))
one_taken_for watcher (reply.TakenFor name changed) = inr (name, refl)
one_taken_for watcher (reply.Taken n) = inl refl
one_taken_for watcher (reply.Got v) = inl refl
one_taken_for watcher (reply.Wrote b) = inl refl
one_taken_for watcher reply.Applied = inl refl
one_taken_for watcher reply.Disposed = inl refl
one_taken_for watcher (reply.Refused e) = inl refl

one_taken : (q : Request) (y : Reply) → (frame_taken q y ≡ []) ⊎ ((name : ℕ) × (frame_taken q y ≡ name ∷ []))
one_taken (request.TakeFor watcher) y = one_taken_for watcher y
one_taken (request.Take parent kind) y = inl refl
one_taken (request.Read n x) y = inl refl
one_taken (request.Write n x v) y = inl refl
one_taken (request.Apply n) y = inl refl
one_taken (request.Dispose n) y = inl refl

-- The open frames after a call while no frame is open.
none_in_either : (b : Bool) → cond {A = List ℕ} b [] [] ≡ []
none_in_either true = refl
none_in_either false = refl

frames_opened : (e : Entry) (a : ℕ)
    → with_frames (frames_by None) e.caller (frames_after [] e) a
    ≡ frames_by (frame_opened e.caller (frame_taken e.request e.reply)) a
frames_opened e a =
    ap (λ b. cond (e.caller == a)
    (cond b (filter (λ n. not (n == name_in e.request)) []) (frame_taken e.request e.reply)) [])
    (ends_none e.request)
    ∙ elim (one_taken e.request e.reply) [
      | inl none ↦ ap (λ l. cond (e.caller == a) l []) none ∙ none_in_either (e.caller == a)
          ∙ ap (λ l. frames_by (frame_opened e.caller l) a) (sym none)
      | inr one ↦ ap (λ l. cond (e.caller == a) l []) one.1
          ∙ ap (λ l. frames_by (frame_opened e.caller l) a) (sym one.1)
    ]

-- The call that ends a frame disposes its snapshot.
pub dispose_name : (name : ℕ) (q : Request) → ends_frame (name ∷ []) q ≡ true → q ≡ request.Dispose name
dispose_name name (request.Take parent kind) ends = absurd cc
dispose_name name (request.TakeFor watcher) ends = absurd cc
dispose_name name (request.Read n x) ends = absurd cc
dispose_name name (request.Write n x v) ends = absurd cc
dispose_name name (request.Apply n) ends = absurd cc
dispose_name name (request.Dispose n) ends = by (name == n) refl ends
  where
    by : (b : Bool) → (name == n) ≡ b → b || false ≡ true → request.Dispose n ≡ request.Dispose name
    by true is ends = ap (λ k. request.Dispose k) (sym (eqb-true name n is))
    by false is ends = absurd cc

module _ (f : OpenFrame) where
  -- The frame's caller has this frame, and no one else has a frame.
  own_frames : frames_by (Some f) f.caller ≡ f.name ∷ []
  own_frames = ap (λ b. cond b (f.name ∷ []) []) (itself f.caller)

  -- The open frames after the call that ends the frame.
  disposed_frames : (y : Reply) (a : ℕ)
      → with_frames (frames_by (Some f)) f.caller
      (frames_after (frames_by (Some f) f.caller)
      (record { caller = f.caller; request = request.Dispose f.name; reply = y })) a ≡ []
  disposed_frames y a =
      let e : Entry = record { caller = f.caller; request = request.Dispose f.name; reply = y } in
      ap (λ l. with_frames (frames_by (Some f)) f.caller (frames_after l e) a) own_frames
      ∙ ap (λ b. cond (f.caller == a) (cond (b || false) (cond (not b) (f.name ∷ []) []) ((f.name ∷ []) ++ []))
      (cond (f.caller == a) (f.name ∷ []) [])) (itself f.name)
      ∙ by (f.caller == a)
    where
      by : (b : Bool) → cond b [] (cond b (f.name ∷ []) []) ≡ []
      by true = refl
      by false = refl

  frames_ended : (e : Entry) → e.caller ≡ f.caller → e.request ≡ request.Dispose f.name → (a : ℕ)
      → with_frames (frames_by (Some f)) e.caller (frames_after (frames_by (Some f) e.caller) e) a ≡ []
  frames_ended e own asks a =
      ap (λ (p : ℕ × Request). with_frames (frames_by (Some f)) p.0
      (frames_after (frames_by (Some f) p.0) (record { caller = p.0; request = p.1; reply = e.reply })) a)
      (ap (λ c. (c, e.request)) own ∙ ap (λ q. (f.caller, q)) asks)
      ∙ disposed_frames e.reply a

  -- The open frames after a call that neither ends the frame nor begins one.
  ends_unless : (b : Bool) (q : Request) → ends_frame (f.name ∷ []) q ≡ false
      → ends_frame (cond b (f.name ∷ []) []) q ≡ false
  ends_unless true q unended = unended
  ends_unless false q unended = ends_none q

  same_frames : (F : ℕ → List ℕ) (c a : ℕ) (own : List ℕ) → own ≡ F c → with_frames F c own a ≡ F a
  same_frames F c a own is = by (c == a) refl
    where
      by : (b : Bool) → (c == a) ≡ b → cond b own (F a) ≡ F a
      by true same = is ∙ ap F (eqb-true c a same)
      by false other = refl

  frames_stay : (e : Entry) → ends_frame (f.name ∷ []) e.request ≡ false → frame_taken e.request e.reply ≡ [] → (a : ℕ)
      → with_frames (frames_by (Some f)) e.caller (frames_after (frames_by (Some f) e.caller) e) a
      ≡ frames_by (Some f) a
  frames_stay e unended untaken a =
      let own = frames_by (Some f) e.caller in
      same_frames (frames_by (Some f)) e.caller a (frames_after own e)
      (ap (λ b. cond b (filter (λ n. not (n == name_in e.request)) own) (own ++ frame_taken e.request e.reply))
      (ends_unless (f.caller == e.caller) e.request unended)
      ∙ ap (λ l. own ++ l) untaken ∙ append-nil own)

  frames_open : (e : Entry) → IsInTurn (Some f) e → (a : ℕ)
      → with_frames (frames_by (Some f)) e.caller (frames_after (frames_by (Some f) e.caller) e) a
      ≡ frames_by (frame_after (Some f) e) a
  frames_open e turn a = by (ends_frame (f.name ∷ []) e.request) refl turn
    where
      by : (b : Bool) → ends_frame (f.name ∷ []) e.request ≡ b
          → Turn b e.caller f.caller (frame_taken e.request e.reply) →
          with_frames (frames_by (Some f)) e.caller (frames_after (frames_by (Some f) e.caller) e) a
          ≡ frames_by (if b then None else Some f) a
      by true ends own = frames_ended e own (dispose_name f.name e.request ends) a
      by false unended untaken = frames_stay e unended untaken a

-- The open frames after a printed call.
frames_next : (o : Option OpenFrame) (e : Entry) → IsInTurn o e → (a : ℕ)
    → with_frames (frames_by o) e.caller (frames_after (frames_by o e.caller) e) a ≡ frames_by (frame_after o e) a
frames_next None e turn a = frames_opened e a
frames_next (Some f) e turn a = frames_open f e turn a

-- No read is of a frame if none is open.
pub reads_none : (q : Request) → reads_frame [] q ≡ false
reads_none (request.Take parent kind) = refl
reads_none (request.TakeFor watcher) = refl
reads_none (request.Read n x) = refl
reads_none (request.Write n x v) = refl
reads_none (request.Apply n) = refl
reads_none (request.Dispose n) = refl

-- A read of the frame neither ends it nor begins one.
read_only : (frames : List ℕ) (name : ℕ) (q : Request) (y : Reply) → reads_frame frames q ≡ true
    → (ends_frame (name ∷ []) q ≡ false) × (frame_taken q y ≡ [])
read_only frames name (request.Read n x) y reads = (refl, refl)
read_only frames name (request.Take parent kind) y reads = absurd cc
read_only frames name (request.TakeFor watcher) y reads = absurd cc
read_only frames name (request.Write n x v) y reads = absurd cc
read_only frames name (request.Apply n) y reads = absurd cc
read_only frames name (request.Dispose n) y reads = absurd cc

pub read_stays : (o : Option OpenFrame) (e : Entry) → is_frame_read o e ≡ true → IsInTurn o e × (frame_after o e ≡ o)
read_stays None e reads = (let two : true ≡ false = sym reads ∙ reads_none e.request in absurd cc)
read_stays (Some f) e reads =
    let only = read_only (frames_by (Some f) e.caller) f.name e.request e.reply reads in (
      subst (λ b. Turn b e.caller f.caller (frame_taken e.request e.reply)) (sym only.0) only.1,
      ap (λ b. if b then None else Some f) only.0,
    )

-- The first call of a history: it is in turn, and so are the frames after it.
pub record FirstCall (o : Option OpenFrame) (e : Entry) (es : History) : Type 0 where
  pub turn : IsInTurn o e
  pub rest : AreInTurn (frame_after o e) (printed_from (frames_by (frame_after o e)) es)
  pub printed_are : printed_from (frames_by o) (e ∷ es)
      ≡ (let later = printed_from (frames_by (frame_after o e)) es in cond (is_frame_read o e) later (e ∷ later))
  pub lines_are : (style : LineStyle) (functions : List Func) (s : Standing)
      → lines style functions s (printed_from (frames_by o) (e ∷ es))
      ≡ call_lines style functions o s e
      ++ lines style functions (standing_then functions o s e) (printed_from (frames_by (frame_after o e)) es)

module _ (o : Option OpenFrame) (e : Entry) (es : History) where
  first_read : is_frame_read o e ≡ true → AreInTurn o (printed_from (frames_by o) es) → FirstCall o e es
  first_read reads turn =
      let stays = read_stays o e reads in
      record {
        turn = stays.0;
        rest = subst (λ p. AreInTurn p (printed_from (frames_by p) es)) (sym stays.1) turn;
        printed_are = ap (λ b. cond b (printed_from (frames_by o) es)
            (e ∷ printed_from (with_frames (frames_by o) e.caller (frames_after (frames_by o e.caller) e)) es)) reads
            ∙ ap (λ p. printed_from (frames_by p) es) (sym stays.1)
            ∙ ap (λ b. cond b (printed_from (frames_by (frame_after o e)) es)
            (e ∷ printed_from (frames_by (frame_after o e)) es)) (sym reads);
        lines_are = λ style functions s.
            ap (λ b. lines style functions s
            (cond b (printed_from (frames_by o) es)
            (e ∷ printed_from (with_frames (frames_by o) e.caller (frames_after (frames_by o e.caller) e)) es)))
            reads
            ∙ ap (λ p. lines style functions s (printed_from (frames_by p) es)) (sym stays.1)
            ∙ ap (λ b. cond b [] (lines_at style functions s e)
            ++ lines style functions (cond b s (next functions s e))
            (printed_from (frames_by (frame_after o e)) es)) (sym reads);
      }

  first_printed : is_frame_read o e ≡ false
      → AreInTurn o (e ∷ printed_from (with_frames (frames_by o) e.caller (frames_after (frames_by o e.caller) e)) es)
      → FirstCall o e es
  first_printed prints turn =
      let first = in_turn_first o e _ turn in
      let same = printed_same _ (frames_by (frame_after o e)) (frames_next o e first.0) es in
      record {
        turn = first.0;
        rest = subst (AreInTurn (frame_after o e)) same first.1;
        printed_are = ap (λ b. cond b (printed_from (frames_by o) es)
            (e ∷ printed_from (with_frames (frames_by o) e.caller (frames_after (frames_by o e.caller) e)) es)) prints
            ∙ ap (λ h. e ∷ h) same
            ∙ ap (λ b. cond b (printed_from (frames_by (frame_after o e)) es)
            (e ∷ printed_from (frames_by (frame_after o e)) es)) (sym prints);
        lines_are = λ style functions s.
            ap (λ b. lines style functions s
            (cond b (printed_from (frames_by o) es)
            (e ∷ printed_from (with_frames (frames_by o) e.caller (frames_after (frames_by o e.caller) e)) es)))
            prints
            ∙ ap (λ h. lines_at style functions s e ++ lines style functions (next functions s e) h) same
            ∙ ap (λ b. cond b [] (lines_at style functions s e)
            ++ lines style functions (cond b s (next functions s e))
            (printed_from (frames_by (frame_after o e)) es)) (sym prints);
      }

  pub first_call : AreInTurn o (printed_from (frames_by o) (e ∷ es)) → FirstCall o e es
  first_call turn = by (is_frame_read o e) refl turn
    where
      by : (b : Bool) → is_frame_read o e ≡ b
          → AreInTurn o (cond b (printed_from (frames_by o) es)
          (e ∷ printed_from (with_frames (frames_by o) e.caller (frames_after (frames_by o e.caller) e)) es))
          → FirstCall o e es
      by true reads t = first_read reads t
      by false prints t = first_printed prints t

-- Frames are in turn if the first call is in turn, and the frames after it are.
turn_before_rest : (b : Bool) (f : OpenFrame) (e : Entry) (es : History)
    → Turn b e.caller f.caller (frame_taken e.request e.reply) → AreInTurn (if b then None else Some f) es
    → Turns b f e es
turn_before_rest true f e es turn rest = (turn, rest)
turn_before_rest false f e es turn rest = (turn, rest)

in_turn_before : (o : Option OpenFrame) (e : Entry) (es : History) → IsInTurn o e → AreInTurn (frame_after o e) es
    → AreInTurn o (e ∷ es)
in_turn_before None e es turn rest = rest
in_turn_before (Some f) e es turn rest = turn_before_rest (ends_frame (f.name ∷ []) e.request) f e es turn rest

pub turn_before : (o : Option OpenFrame) (e : Entry) (es : History) → IsInTurn o e
    → AreInTurn (frame_after o e) (printed_from (frames_by (frame_after o e)) es)
    → AreInTurn o (printed_from (frames_by o) (e ∷ es))
turn_before o e es turn rest = by (is_frame_read o e) refl
  where
    by : (b : Bool) → is_frame_read o e ≡ b
        → AreInTurn o (cond b (printed_from (frames_by o) es)
        (e ∷ printed_from (with_frames (frames_by o) e.caller (frames_after (frames_by o e.caller) e)) es))
    by true reads = subst (λ p. AreInTurn p (printed_from (frames_by p) es)) (read_stays o e reads).1 rest
    by false prints =
        let same = printed_same _ (frames_by (frame_after o e)) (frames_next o e turn) es in
        subst (λ h. AreInTurn o (e ∷ h)) (sym same) (in_turn_before o e _ turn rest)

-- A read of the open frame, by the object that is asked for.
asked_by : (x : ℕ) (own here : Bool) (name : ℕ) (n : ℕ) → (name == n) ≡ here
    → is_some (cond (own && here) (Some x) None) ≡ reads_frame (cond own (name ∷ []) []) (request.Read n x)
asked_by x true true name n is = ap (λ b. b || false) (sym is)
asked_by x true false name n is = ap (λ b. b || false) (sym is)
asked_by x false here name n is = refl

pub asked_is_read : (f : OpenFrame) (caller : ℕ) (q : Request)
    → is_some (object_asked f caller q) ≡ reads_frame (frames_by (Some f) caller) q
asked_is_read f caller (request.Take parent kind) = refl
asked_is_read f caller (request.TakeFor watcher) = refl
asked_is_read f caller (request.Write n x v) = refl
asked_is_read f caller (request.Apply n) = refl
asked_is_read f caller (request.Dispose n) = refl
asked_is_read f caller (request.Read n x) = asked_by x (f.caller == caller) (f.name == n) f.name n refl
