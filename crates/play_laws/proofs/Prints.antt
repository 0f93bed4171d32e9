-- What is printed of a history.
use Rattle.std.proofs.Common.{◌≡◌, ℕ, ◌==◌, Bool, true, false, List, [], ◌∷◌, ◌++◌, map, refl, sym, ap, ◌∙◌, subst, cond, append-nil}
use Rattle.std.proofs.lemmas.Bool.{eqb-true}
use Rattle.snap_policy.specs.Rules.{Rules}
use Rattle.snap_api.proofs.ReadLemmas.{call-read}
use Rattle.snap_api.specs.World.{World, History, IsLegal, world_after, call}
use Rattle.snap_api.specs.declared.data.Entry.{Entry}
use Rattle.snap_api.specs.declared.data.Request.{Request}
use Rattle.snap_api.specs.declared.data.Request.TheVariants as request
use Rattle.snap_api.specs.DeskReads.{call_of, reads_of}
use Rattle.rt_values.specs.Maps.{contains}
use Rattle.snap_shared.specs.SharedCalls.{own_calls, HasOnlyCallersBelow}
use Rattle.script_lang.specs.PrintedCalls.{reads_frame, frames_after, printed_calls}
use Rattle.play_laws.specs.PrintedHistory.{no_frames, with_frames, printed_from, printed_history, frames_after_calls}
use Rattle.play_laws.specs.Woven.{SpellsAll}
use Rattle.play_laws.specs.Laws.{PrintedIsLegal, PrintedByCaller, PrintedIsWoven, CallIsPrinted, FrameReadsAreLeftOut}
use Rattle.play_laws.proofs.Lists.{head_or, tail_of}

-- The open frames after a call that is printed.
abbrev next : (ℕ → List ℕ) → Entry → ℕ → List ℕ
next fs e = with_frames fs e.caller (frames_after (fs e.caller) e)

module _ {P : Type 0} (rules : Rules P) where
  -- A read of a frame leaves the world.
  frame_read-leaves : (frames : List ℕ) (w : World P) (a : ℕ) (q : Request) → reads_frame frames q ≡ true
      → (call rules w a q).0 ≡ w
  frame_read-leaves frames w a (request.Read name x) h = call-read rules w a name x
  frame_read-leaves frames w a (request.Take p k) h = absurd cc
  frame_read-leaves frames w a (request.TakeFor n) h = absurd cc
  frame_read-leaves frames w a (request.Write n x v) h = absurd cc
  frame_read-leaves frames w a (request.Apply n) h = absurd cc
  frame_read-leaves frames w a (request.Dispose n) h = absurd cc

  legal_from : (w : World P) (fs : ℕ → List ℕ) (h : History) → IsLegal rules w h →
      IsLegal rules w (printed_from fs h) × (world_after rules w (printed_from fs h) ≡ world_after rules w h)
  legal_from w fs [] l = (tt, refl)
  legal_from w fs (e ∷ es) l = by (λ gs. legal_from (call rules w e.caller e.request).0 gs es l.1)
      (reads_frame (fs e.caller) e.request) refl where
        by : ((gs : ℕ → List ℕ) → IsLegal rules (call rules w e.caller e.request).0 (printed_from gs es)
            × (world_after rules (call rules w e.caller e.request).0 (printed_from gs es)
            ≡ world_after rules (call rules w e.caller e.request).0 es)) → (b : Bool)
            → reads_frame (fs e.caller) e.request ≡ b →
            IsLegal rules w (cond b (printed_from fs es) (e ∷ printed_from (next fs e) es))
            × (world_after rules w (cond b (printed_from fs es) (e ∷ printed_from (next fs e) es))
            ≡ world_after rules w (e ∷ es))
        by rest true h =
            let same = frame_read-leaves (fs e.caller) w e.caller e.request h in
            let more = rest fs in (
              subst (λ (v : World P). IsLegal rules v (printed_from fs es)) same more.0,
              ap (λ (v : World P). world_after rules v (printed_from fs es)) (sym same) ∙ more.1,
            )
        by rest false h = let more = rest (next fs e) in ((l.0, more.0), more.1)

  pub printed_is_legal : PrintedIsLegal rules
  printed_is_legal w h l = legal_from w no_frames h l

by_caller : (a : ℕ) (h : History) (fs : ℕ → List ℕ)
    → own_calls a (printed_from fs h) ≡ printed_calls (fs a) (own_calls a h)
by_caller a [] fs = refl
by_caller a (e ∷ es) fs =
    by (λ gs. by_caller a es gs) (e.caller == a) refl (reads_frame (fs e.caller) e.request) refl where
      by : ((gs : ℕ → List ℕ) → own_calls a (printed_from gs es) ≡ printed_calls (gs a) (own_calls a es)) → (mine : Bool)
          → (e.caller == a) ≡ mine → (b : Bool) → reads_frame (fs e.caller) e.request ≡ b →
          own_calls a (cond b (printed_from fs es) (e ∷ printed_from (next fs e) es))
          ≡ printed_calls (fs a) (cond mine (e ∷ own_calls a es) (own_calls a es))
      by rest false m true r = rest fs
      by rest false m false r =
          ap (λ b. cond b (e ∷ own_calls a (printed_from (next fs e) es)) (own_calls a (printed_from (next fs e) es))) m
          ∙ rest (next fs e) ∙ ap (λ b. printed_calls (cond b (frames_after (fs e.caller) e) (fs a)) (own_calls a es)) m
      by rest true m true r =
          let read : reads_frame (fs a) e.request ≡ true =
          subst (λ (c : ℕ). reads_frame (fs c) e.request ≡ true) (eqb-true e.caller a m) r in
          rest fs ∙ ap (λ b. cond b (printed_calls (fs a) (own_calls a es))
          (e ∷ printed_calls (frames_after (fs a) e) (own_calls a es))) (sym read)
      by rest true m false r =
          let same = eqb-true e.caller a m in
          let read : reads_frame (fs a) e.request ≡ false =
          subst (λ (c : ℕ). reads_frame (fs c) e.request ≡ false) same r in
          ap (λ b. cond b (e ∷ own_calls a (printed_from (next fs e) es)) (own_calls a (printed_from (next fs e) es))) m
          ∙ ap (λ l. e ∷ l) (rest (next fs e)
          ∙ ap (λ b. printed_calls (cond b (frames_after (fs e.caller) e) (fs a)) (own_calls a es)) m
          ∙ ap (λ c. printed_calls (frames_after (fs c) e) (own_calls a es)) same)
          ∙ ap (λ b. cond b (printed_calls (fs a) (own_calls a es))
          (e ∷ printed_calls (frames_after (fs a) e) (own_calls a es))) (sym read)

pub printed_by_caller : PrintedByCaller
printed_by_caller a h = by_caller a h no_frames

-- No one else is printed.
pub printed_callers : (n : ℕ) (h : History) → HasOnlyCallersBelow n h → HasOnlyCallersBelow n (printed_history h)
printed_callers n h others a far = printed_by_caller a h ∙ ap (printed_calls []) (others a far)

pub printed_is_woven : {P : Type 0} (rules : Rules P) → PrintedIsWoven rules
printed_is_woven rules n actors w h legal spells others = (
  (printed_is_legal rules w h legal).0,
  record {
    each = λ a below. subst (λ (l : History). SpellsAll (actors a) l) (sym (printed_by_caller a h)) (spells a below);
    others = printed_callers n h others;
  },
)

printed-append : (fs : List ℕ) (xs ys : History)
    → printed_calls fs (xs ++ ys) ≡ printed_calls fs xs ++ printed_calls (frames_after_calls fs xs) ys
printed-append fs [] ys = refl
printed-append fs (x ∷ xs) ys = by (λ gs. printed-append gs xs ys) (reads_frame fs x.request) where
  by : ((gs : List ℕ) → printed_calls gs (xs ++ ys)
      ≡ printed_calls gs xs ++ printed_calls (frames_after_calls gs xs) ys) → (b : Bool) →
      cond b (printed_calls fs (xs ++ ys)) (x ∷ printed_calls (frames_after fs x) (xs ++ ys))
      ≡ cond b (printed_calls fs xs) (x ∷ printed_calls (frames_after fs x) xs)
      ++ printed_calls (cond b (frames_after_calls fs xs) (frames_after_calls (frames_after fs x) xs)) ys
  by rest true = rest fs
  by rest false = ap (λ l. x ∷ l) (rest (frames_after fs x))

frames-append : (fs : List ℕ) (xs ys : History)
    → frames_after_calls fs (xs ++ ys) ≡ frames_after_calls (frames_after_calls fs xs) ys
frames-append fs [] ys = refl
frames-append fs (x ∷ xs) ys = by (λ gs. frames-append gs xs ys) (reads_frame fs x.request) where
  by : ((gs : List ℕ) → frames_after_calls gs (xs ++ ys) ≡ frames_after_calls (frames_after_calls gs xs) ys)
      → (b : Bool) →
      cond b (frames_after_calls fs (xs ++ ys)) (frames_after_calls (frames_after fs x) (xs ++ ys))
      ≡ frames_after_calls (cond b (frames_after_calls fs xs) (frames_after_calls (frames_after fs x) xs)) ys
  by rest true = rest fs
  by rest false = rest (frames_after fs x)

pub call_is_printed : CallIsPrinted
call_is_printed h e reads =
    let fs = frames_after_calls [] h in (
      printed-append [] h (e ∷ []) ∙ ap (λ b. printed_calls [] h ++ cond b [] (e ∷ [])) reads,
      frames-append [] h (e ∷ []) ∙ ap (λ b. cond b fs (frames_after fs e)) reads,
    )

reads_drop : (more : History) (a name : ℕ) (xs fs : List ℕ) → contains name fs ≡ true
    → map call_of more ≡ reads_of a name xs →
    (printed_calls fs more ≡ []) × (frames_after_calls fs more ≡ fs)
reads_drop [] a name xs fs h e = (refl, refl)
reads_drop (x ∷ more) a name [] fs h e = absurd cc
reads_drop (x ∷ more) a name (o ∷ xs) fs h e =
    let first : x.request ≡ request.Read name o =
    ap (λ (p : ℕ × Request). p.1) (ap (λ l. head_or (a, request.Read name o) l) e) in
    let read : reads_frame fs x.request ≡ true = ap (reads_frame fs) first ∙ h in
    let rest = reads_drop more a name xs fs h (ap tail_of e) in (
      ap (λ b. cond b (printed_calls fs more) (x ∷ printed_calls (frames_after fs x) more)) read ∙ rest.0,
      ap (λ b. cond b (frames_after_calls fs more) (frames_after_calls (frames_after fs x) more)) read ∙ rest.1,
    )

pub frame_reads_are_left_out : FrameReadsAreLeftOut
frame_reads_are_left_out h more a name xs opened reads =
    let rest = reads_drop more a name xs (frames_after_calls [] h) opened reads in (
      printed-append [] h more ∙ ap (λ l. printed_calls [] h ++ l) rest.0 ∙ append-nil (printed_calls [] h),
      frames-append [] h more ∙ rest.1,
    )
