-- Entering a block, and what remains of the block after it.
use Rattle.std.proofs.Common.{ℕ, ◌+◌, ◌++◌, ◌≤◌, List, [], ◌∷◌, ◌≡◌, ap, ◌∙◌, sym, subst, length, length-append, Result, Ok, Err, Option, arith}
use Rattle.std.specs.Prelude.{IfOk, OnOk, OnErr}
use Rattle.rt_values.specs.Maps.{Map}
use Rattle.rt_groups.specs.declared.groups.GroupKind.{GroupKind as ListedKind}
use Rattle.rt_groups.specs.GroupForest.{GroupForest}
use Rattle.rt_groups.specs.Paths.{GroupKey}
use Rattle.rt_groups.specs.PreorderGroups.{flat_group}
use Rattle.lang_ast.specs.Terms.{Head, Func}
use Rattle.lang_ast.specs.Evaluation.{Bindings}
use Rattle.composer.specs.declared.blocks.Entered.{Entered}
use Rattle.composer.specs.declared.pending.Pending.{Pending}
use Rattle.composer.specs.declared.progress.Level.{Level}
use Rattle.composer.specs.declared.progress.Progress.{Progress}
use Rattle.composer.specs.declared.stop.ComposeStop.{ComposeStop}
use Rattle.composer.specs.OldSiblings.{KeyInfo}
use Rattle.composer.specs.BesideContracts.{OldSiblings}
use Rattle.composer.specs.ComposerState.{ComposerState}
use Rattle.composer.specs.WrittenGroups.{WrittenGroups, written_number, enter_group}
use Rattle.composer.specs.Recomposes.{ComposesBeside, Continues}
use Rattle.composer.specs.EntersBlock.{Remains, EntersBlock}
use Rattle.composer.proofs.Reaching.{reached_as}
use Rattle.composer.proofs.ReadCounts.{stopped}

-- The contract for an equal head.
pub enters_as : {W : Type 0} {shown : W → Map → Type 0} {asked : W → List ℕ} {kept : W → W → Type 0} {level : Level}
    {site : ℕ} {view view' : W} {made made' : Progress} {result : Result Entered ComposeStop} (h k : Head) → h ≡ k
    → EntersBlock shown asked kept level site k view view' made made' result
    → EntersBlock shown asked kept level site h view view' made made' result
enters_as {shown = shown} {asked = asked} {kept = kept} {level = level} {site = site} {view = view} {view' = view'} {made = made} {made' = made'} {result = result} h k e c =
    subst (λ (x : Head). EntersBlock shown asked kept level site x view view' made made' result) (sym e) c

-- What remains after an equal way to enter the block.
pub remains_as : {o : OldSiblings} {owed : List ℕ} {m : Map} {fs : List Func} {depth : ℕ} {left : Pending}
    {env : Bindings} {go : Bindings → GroupForest} {t : GroupForest} {s mid : ComposerState} (e f : Entered) → e ≡ f
    → Remains o owed m fs depth left env go t s mid e → Remains o owed m fs depth left env go t s mid f
remains_as {o = o} {owed = owed} {m = m} {fs = fs} {depth = depth} {left = left} {env = env} {go = go} {t = t} {s = s} {mid = mid} e f is r =
    subst (λ (x : Entered). Remains o owed m fs depth left env go t s mid x) is r

-- An error meets every promise about the value of a good result.
pub stopped_value : {U E : Type 0} (P : U → Type 0) (result : Result U E) (x : E) → result ≡ Err x → IfOk result P
stopped_value P (Ok u) x e = cc
stopped_value P (Err y) x e = tt

-- A fact without conditions is a fact about errors.
pub on_err : {U A E : Type 0} (result : Result U E) → A → OnErr result A
on_err (Ok u) a = tt
on_err (Err x) a = a

-- What an error leaves.
pub continues_stopped : {W U : Type 0} {shown : W → Map → Type 0} {asked : W → List ℕ} {kept : W → W → Type 0}
    {level : Level} {view view' : W} {made made' : Progress} (result : Result U ComposeStop) (x : ComposeStop)
    → result ≡ Err x → kept view view' → ((m : Map) → shown view m → shown view' m)
    → Continues shown asked kept level view view' made made' result
continues_stopped result x e keeps same = record {
  keeps = keeps;
  same = same;
  same_scope = stopped _ result x e;
  longer = stopped _ result x e;
  fits = stopped _ result x e;
  counted = λ m h. stopped _ result x e;
}

-- An error of the head is one of the block.
pub beside_failed : {U V : Type 0} {owed : List ℕ} {old : GroupForest} {d : ℕ} {seen : List GroupKey} {t : GroupForest}
    {s s' : ComposerState} {left after : Pending} (x : ComposeStop) (result : Result V ComposeStop) → result ≡ Err x
    → ComposesBeside owed old d seen t s s' left {U = U} (Err x) → ComposesBeside owed old d seen t s s' after result
beside_failed x (Ok u) e h = cc
beside_failed x (Err y) e h = record { reached = reached_as x (Err y) e h.reached; fits = tt }

-- The number of reads after a head, which reads `xs` before its group.
pub counted_entered : (w was : ℕ) (own own1 own2 a a1 a2 xs : List ℕ) → a1 ≡ a ++ xs → own1 ≡ own ++ xs
    → length own2 + length a1 ≡ length own1 + length a2 → was ≡ w
    → was + length own2 + length a ≡ w + length own + length a2
counted_entered w was own own1 own2 a a1 a2 xs e1 e2 e3 e4 =
    let f1 = ap (λ (l : List ℕ). length l) e1 in
    let f2 = ap (λ (l : List ℕ). length l) e2 in
    omega (arith, e3, e4, f1, f2, length-append a xs, length-append own xs)

-- There is room inside a group that is appended.
pub entered_deep : (d site : ℕ) (code : ListedKind) (k : Option KeyInfo) (written written' : WrittenGroups)
    → written' ≡ enter_group d site code k written → d ≤ length written.groups → d + 1 ≤ length written'.groups
entered_deep d site code k written written' e deep =
    let long = ap (λ (q : WrittenGroups). length q.groups) e in
    omega (arith, deep, long, length-append written.groups (flat_group d site (written_number code k written.next).0 code [] ∷ []))

-- Facts about good results, after the facts of a head.

pub then_same : {U A : Type 0} (a b c : A) (result : Result U ComposeStop) → OnOk result (a ≡ b) → b ≡ c
    → OnOk result (a ≡ c)
then_same a b c (Ok u) e f = e ∙ f
then_same a b c (Err x) e f = tt

pub counted_then : {U : Type 0} (result : Result U ComposeStop) (w w' w'' own own' own'' a a' a'' : ℕ)
    → w' + own' + a ≡ w + own + a' → OnOk result (w'' + own'' + a' ≡ w' + own' + a'')
    → OnOk result (w'' + own'' + a ≡ w + own + a'')
counted_then (Ok u) w w' w'' own own' own'' a a' a'' e f = omega (arith, e, f)
counted_then (Err x) w w' w'' own own' own'' a a' a'' e f = tt
