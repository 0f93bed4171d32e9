-- Law: a frame that is refused for its size leaves no trace.
use Rattle.std.specs.Prelude.{ℕ, List, [], ◌∷◌, ◌≡◌, ◌≢◌, None, ◌||◌}
use Rattle.rt_values.specs.Maps.{Map, contains}
use Rattle.rt_groups.specs.Frames.{LastFrame}
use Rattle.snap_policy.specs.Rules.{Rules}
use Rattle.snap_api.specs.Valid.{IsValid}
use Rattle.snap_api.specs.World.{World, History, call, world_after, snapshot_of, last_of}
use Rattle.snap_api.specs.declared.data.Reply.TheVariants as reply
use Rattle.snap_api.specs.declared.data.Request.TheVariants as request
use Rattle.lang_ast.specs.Terms.{Func}
use Rattle.compose_model.specs.Frame.{frame, kept_after}

-- Each frame after a refused frame is as if there had been no refused frame.
abbrev pub RefusedLeavesNoTrace : Type 0
RefusedLeavesNoTrace = (functions : List Func) (k : LastFrame) (m n : Map) → frame functions k m ≡ None →
    frame functions (kept_after k (frame functions k m)) n ≡ frame functions k n

-- No call takes a snapshot for this watcher.
abbrev pub TakeForOthers : ℕ → History → Type 0
TakeForOthers watcher [] = Unit {0}
TakeForOthers watcher (e ∷ es) = (e.request ≢ request.TakeFor watcher) × TakeForOthers watcher es

-- In world `w` a frame is refused after its take, which lists `early`. Other calls follow, then the take of the next
-- frame, which lists `late`. In world `single` the refused frame was not begun: global shows the same map as before the
-- second take, and the watcher has the last map that it has in `w`. The only take there lists `once`. Then the frames
-- after these two takes are equal, and `early` and `late` together have the objects of `once`.
abbrev pub RefusedThenGoodIsOneFrame : {P : Type 0} → Rules P → Type 0
RefusedThenGoodIsOneFrame {P} rules = (functions : List Func) (k : LastFrame) (w single : World P)
    (caller watcher first second only : ℕ) (early late once : List ℕ) (calls : History) → IsValid rules w →
    (call rules w caller (request.TakeFor watcher)).1 ≡ reply.TakenFor first early →
    let taken = (call rules w caller (request.TakeFor watcher)).0 in
    frame functions k (snapshot_of taken first).view ≡ None → TakeForOthers watcher calls →
    let later = world_after rules taken calls in
    (call rules later caller (request.TakeFor watcher)).1 ≡ reply.TakenFor second late →
    (snapshot_of single 0).view ≡ (snapshot_of later 0).view → last_of single watcher ≡ last_of w watcher →
    (call rules single caller (request.TakeFor watcher)).1 ≡ reply.TakenFor only once →
    let kept = kept_after k (frame functions k (snapshot_of taken first).view) in
    let shown = (snapshot_of (call rules later caller (request.TakeFor watcher)).0 second).view in
    let shown_single = (snapshot_of (call rules single caller (request.TakeFor watcher)).0 only).view in
    (frame functions kept shown ≡ frame functions k shown_single)
    × ((x : ℕ) → contains x once ≡ (contains x early || contains x late))
