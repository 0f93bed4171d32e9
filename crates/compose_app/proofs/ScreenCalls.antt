-- Calls on the world of a screen keep its composition at the same frame.
use Rattle.std.proofs.Common.{◌≡◌, ◌<◌, ℕ, List, length, refl, sym, subst, Option, Some, None}
use Rattle.std.specs.Prelude.{slice_index_or}
use Rattle.rt_groups.specs.Frames.{LastFrame}
use Rattle.rt_values.specs.Maps.{Map}
use Rattle.lang_ast.specs.declared.program.Program.{Program}
use Rattle.node_tree.specs.NodeTrees.{CursorTree}
use Rattle.snap_policy.specs.declared.policy.BuiltIn.{BuiltIn}
use Rattle.snap_policy.specs.Table.{table}
use Rattle.snap_policy.specs.TableLaws.{table_merge_keeps_type}
use Rattle.snap_api.proofs.LawsCases.{Did, did, refused, took, took_for, got, left, wrote, joined, gone, closed}
use Rattle.snap_api.proofs.ValidCalls.{valid_call}
use Rattle.snap_api.specs.Calls.{Calls}
use Rattle.snap_api.specs.Valid.{IsValid}
use Rattle.snap_api.specs.World.{World, call}
use Rattle.snap_api.specs.declared.data.Refusal.TheVariants as refusal
use Rattle.snap_api.specs.declared.data.Reply.{Reply}
use Rattle.snap_api.specs.declared.data.Reply.TheVariants as reply
use Rattle.snap_api.specs.declared.data.Request.{Request}
use Rattle.snap_api.specs.declared.data.Request.TheVariants as request
use Rattle.recomposer.specs.Compositions.{IsAt}
use Rattle.recomposer.specs.declared.composition.Composition.{Composition}
use Rattle.compose_app.specs.StateCalls.{AnswersFor}
use Rattle.compose_app.specs.Screens.{screen_parts, IsScreenAt, IsReadyScreen}

-- A call that is no take for a watcher.
abbrev pub IsPlainCall : Request → Type 0
IsPlainCall (request.TakeFor watcher) = ⊥
IsPlainCall _ = Unit {0}

module _ (w : World BuiltIn) (caller : ℕ) where
  keeps_lasts : (q : Request) (out : World BuiltIn × Reply) → Did table w caller q out → IsPlainCall q
      → out.0.lasts ≡ w.lasts
  keeps_lasts q out (refused request r) plain = refl
  keeps_lasts q out (took parent kind live) plain = refl
  keeps_lasts q out (took_for watcher) plain = absurd plain
  keeps_lasts q out (got n x) plain = refl
  keeps_lasts q out (left n x value) plain = refl
  keeps_lasts q out (wrote n x value live) plain = refl
  keeps_lasts q out (joined n m changed is live parent_live) plain = refl
  keeps_lasts q out (gone n) plain = refl
  keeps_lasts q out (closed n live) plain = refl

  -- A plain call keeps the last maps.
  pub plain_lasts : (q : Request) → IsPlainCall q → (call table w caller q).0.lasts ≡ w.lasts
  plain_lasts q plain = keeps_lasts q _ (did table w caller q) plain

module _ {V A : Type 0} (stands : V → World BuiltIn → Type 0) (tree : A → Option CursorTree) (p : Program)
    (c : Composition) (a : A) (v v' : V) where
  abbrev Before : LastFrame → World BuiltIn → Type 0
  Before = IsScreenAt stands tree (screen_parts p c v a)

  abbrev After : LastFrame → World BuiltIn → Type 0
  After = IsScreenAt stands tree (screen_parts p c v' a)

  -- The screen is in the same state over another world with the same last maps.
  pub moved : (k : LastFrame) (w w' : World BuiltIn) → Before k w → stands v' w' → IsValid table w'
      → w'.lasts ≡ w.lasts → After k w'
  moved k w w' h stood valid same = record {
    represents = stood;
    valid = valid;
    watched = subst (λ (ls : List (Option Map)). 0 < length ls) (sym same) h.watched;
    watcher = h.watcher;
    program = h.program;
    kept = subst (λ (ls : List (Option Map)). IsAt c k (slice_index_or ls 0 None)) (sym same) h.kept;
    mirrors = h.mirrors;
  }

  answered : (k : LastFrame) (q : Request) → IsPlainCall q → (w : World BuiltIn) → Before k w → (r : Reply)
      → (r ≡ (call table w 0 q).1) × stands v' (call table w 0 q).0
      → (r ≡ (call table w 0 q).1) × After k (call table w 0 q).0
  answered k q plain w h r told = (
    told.0,
    moved k w (call table w 0 q).0 h told.1 (valid_call h.valid table_merge_keeps_type 0 q) (plain_lasts w 0 q plain),
  )

  -- A plain call on the world has its effect on the screen.
  pub called : (q : Request) → IsPlainCall q → (r : Reply) → Calls table (stands v) (stands v') 0 q r → (k : LastFrame)
      → Calls table (Before k) (After k) 0 q r
  called q plain (reply.Refused refusal.NoMemory) does k = λ w h. moved k w w h (does w h.represents) h.valid refl
  called q plain (reply.Refused e) does k = λ w h. answered k q plain w h _ (does w h.represents)
  called q plain r does k = λ w h. answered k q plain w h _ (does w h.represents)

  -- After a plain call the screen is in some state.
  pub ready : (q : Request) → IsPlainCall q → (r : Reply) → Calls table (stands v) (stands v') 0 q r
      → IsReadyScreen stands tree (screen_parts p c v a) → IsReadyScreen stands tree (screen_parts p c v' a)
  ready q plain (reply.Refused refusal.NoMemory) does h = record {
    kept = h.kept;
    world = h.world;
    is_at = moved h.kept h.world h.world h.is_at (does h.world h.is_at.represents) h.is_at.valid refl;
  }
  ready q plain (reply.Refused e) does h = record {
    kept = h.kept;
    world = (call table h.world 0 q).0;
    is_at = (answered h.kept q plain h.world h.is_at _ (does h.world h.is_at.represents)).1;
  }
  ready q plain r does h = record {
    kept = h.kept;
    world = (call table h.world 0 q).0;
    is_at = (answered h.kept q plain h.world h.is_at _ (does h.world h.is_at.represents)).1;
  }

  -- A call on a state by its name has its effect on the screen.
  pub named_call : (ask : ℕ → Request) → ((x : ℕ) → IsPlainCall (ask x)) → (number : Option ℕ) (answer : Option Reply)
      → AnswersFor (stands v) (stands v') ask number answer → (k : LastFrame)
      → AnswersFor (Before k) (After k) ask number answer
  named_call ask plain (Some x) (Some r) told k = called (ask x) (plain x) r told k
  named_call ask plain None None told k = λ w h. moved k w w h (told w h.represents) h.valid refl
  named_call ask plain (Some x) None told k = absurd told
  named_call ask plain None (Some r) told k = absurd told

  pub named_ready : (ask : ℕ → Request) → ((x : ℕ) → IsPlainCall (ask x)) → (number : Option ℕ) (answer : Option Reply)
      → AnswersFor (stands v) (stands v') ask number answer
      → IsReadyScreen stands tree (screen_parts p c v a) → IsReadyScreen stands tree (screen_parts p c v' a)
  named_ready ask plain (Some x) (Some r) told h = ready (ask x) (plain x) r told h
  named_ready ask plain None None told h = record {
    kept = h.kept;
    world = h.world;
    is_at = moved h.kept h.world h.world h.is_at (told h.world h.is_at.represents) h.is_at.valid refl;
  }
  named_ready ask plain (Some x) None told h = absurd told
  named_ready ask plain None (Some r) told h = absurd told
