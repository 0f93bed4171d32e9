-- The line of a call, and what a call that had memory did.
use Rattle.std.proofs.Common.{◌≡◌, ℕ, List, [], ◌∷◌, ◌++◌, false, Option, Err, sym, ap, ◌∙◌, append_assoc}
use Rattle.rt_streams.proofs.Parts.{part-none}
use Rattle.snap_policy.specs.declared.policy.BuiltIn.{BuiltIn}
use Rattle.snap_policy.specs.Table.{table}
use Rattle.snap_api.specs.Calls.{Does, is_no_memory}
use Rattle.snap_api.specs.World.{World, call}
use Rattle.snap_api.specs.declared.data.Entry.{Entry}
use Rattle.snap_api.specs.declared.data.Refusal.{Refusal}
use Rattle.snap_api.specs.declared.data.Refusal.TheVariants as refusal
use Rattle.snap_api.specs.declared.data.Reply.{Reply}
use Rattle.snap_api.specs.declared.data.Reply.TheVariants as reply
use Rattle.snap_api.specs.declared.data.Request.{Request}
use Rattle.lang_script.specs.StepCalls.{entry}
use Rattle.script_lang.specs.Lines.{Titles, call_text, reply_text, line, entry_line}
use Rattle.play_run.specs.RunPromise.{WritesBytes}

-- A refused call has the plain world's reply.
refused : {W : Type 0} (before after : W → Type 0) (step : W → W × Reply) (e : Refusal)
    → is_no_memory (reply.Refused e) ≡ false → Does before after step (reply.Refused e) → (w : W) → before w
    → reply.Refused e ≡ (step w).1
refused before after step refusal.NoMemory had h w at = absurd cc
refused before after step refusal.Spent had h w at = (h w at).0
refused before after step (refusal.Closed n) had h w at = (h w at).0
refused before after step refusal.Global had h w at = (h w at).0
refused before after step (refusal.NotYours n) had h w at = (h w at).0
refused before after step refusal.UnknownObject had h w at = (h w at).0
refused before after step refusal.UnknownWatcher had h w at = (h w at).0
refused before after step refusal.ReadOnly had h w at = (h w at).0
refused before after step (refusal.WrongType t) had h w at = (h w at).0
refused before after step refusal.BadPolicy had h w at = (h w at).0
refused before after step refusal.ParentClosed had h w at = (h w at).0
refused before after step (refusal.Conflict x) had h w at = (h w at).0

-- A call that had memory has the plain world's reply.
pub replied : {W : Type 0} (before after : W → Type 0) (step : W → W × Reply) (y : Reply) → is_no_memory y ≡ false
    → Does before after step y → (w : W) → before w → y ≡ (step w).1
replied before after step (reply.Refused e) had h w at = refused before after step e had h w at
replied before after step (reply.Taken n) had h w at = (h w at).0
replied before after step (reply.TakenFor n c) had h w at = (h w at).0
replied before after step (reply.Got v) had h w at = (h w at).0
replied before after step (reply.Wrote b) had h w at = (h w at).0
replied before after step reply.Applied had h w at = (h w at).0
replied before after step reply.Disposed had h w at = (h w at).0

-- The line of a call, from its two parts.
pub whole_line : (t : Titles) (e : Entry) (first : List ℕ) → first ≡ call_text t e.caller e.request
    → first ++ line (reply_text t e.reply) ≡ entry_line t e
whole_line t e first is = ap (λ l. l ++ line (reply_text t e.reply)) is
    ∙ sym (append_assoc (call_text t e.caller e.request) (reply_text t e.reply) (10 ∷ []))

-- The line of a call that was made.
pub made_line : (t : Titles) (w : World BuiltIn) (actor : ℕ) (q : Request) (y : Reply) (first : List ℕ)
    → first ≡ call_text t actor q → y ≡ (call table w actor q).1
    → first ++ line (reply_text t y) ≡ entry_line t (entry w actor q)
made_line t w actor q y first is told =
    ap (λ (z : Reply). first ++ line (reply_text t z)) told ∙ whole_line t (entry w actor q) first is

-- Nothing was written.
pub nothing_said : {T E : Type 0} (e : E) (written : Option (List ℕ)) (bytes : List ℕ)
    → WritesBytes {T = T} written written bytes (Err e)
nothing_said e written bytes = record { all = tt; part = part-none written bytes }
