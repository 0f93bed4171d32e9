-- Results of frames, by what stopped them.
use Rattle.std.proofs.Common.{◌≡◌, ◌∙◌, ℕ, refl, ap, sym, subst, true, Option, Some, None, Result, Ok, Err, IfOk, OnOk, OnErr, arith}
use Rattle.rt_values.specs.Maps.{Map}
use Rattle.rt_groups.specs.Frames.{LastFrame, is_detached}
use Rattle.lang_ast.specs.declared.program.Program.{Program}
use Rattle.compose_model.specs.Frame.{frame}
use Rattle.lang_ast.specs.Programs.{functions_of}
use Rattle.node_tree.specs.NodeTrees.{CursorTree}
use Rattle.recomposer.specs.declared.composition.Composition.{Composition}
use Rattle.recomposer.specs.declared.composition.FrameStop.{FrameStop}
use Rattle.recomposer.specs.declared.composition.FrameStop.TheVariants.{TooManyGroups, ApplierFault, Spent, NoMemory}
use Rattle.recomposer.specs.AppliedFrames.{MayCall, UnlessFault, FaultHasCause, kept_after_fault}
use Rattle.recomposer.specs.Compositions.{IsAt, kept_after_stop}

-- A fact holds after any result.
pub on_ok : {U E X : Type 0} (r : Result U E) → X → OnOk r X
on_ok (Ok u) x = x
on_ok (Err e) x = tt

pub on_err : {U E X : Type 0} (r : Result U E) → X → OnErr r X
on_err (Ok u) x = tt
on_err (Err e) x = x

pub unless_fault : {U X : Type 0} (r : Result U FrameStop) → X → UnlessFault X r
unless_fault (Ok u) x = tt
unless_fault (Err ApplierFault) x = tt
unless_fault (Err TooManyGroups) x = x
unless_fault (Err Spent) x = x
unless_fault (Err NoMemory) x = x

-- A result that stopped, and a good one.
abbrev pub stops : {E : Type 0} (U : Type 0) → E → Result U E
stops U stop = Err stop

abbrev pub goods : {U : Type 0} (E : Type 0) → U → Result U E
goods E u = Ok u

-- A good frame did not stop, and a frame stopped for one reason.

pub same_stop : {U E : Type 0} {a b : E} → stops U a ≡ stops U b → a ≡ b
same_stop is = cc

pub same_good : {U E : Type 0} {a b : U} → goods E a ≡ goods E b → a ≡ b
same_good is = cc

pub err_not_good : {U E A : Type 0} {u : U} {e : E} → Err e ≡ Ok u → A
err_not_good is = absurd cc

-- A fact of a good result, and a fact that holds after any good one.
pub when_ok : {U E : Type 0} (P : U → Type 0) (r : Result U E) (u : U) → r ≡ Ok u → IfOk r P → P u
when_ok P (Ok v) u is p = subst P (same_good is) p
when_ok P (Err e) u is p = err_not_good is

pub on_good : {U E X : Type 0} (r : Result U E) (u : U) → r ≡ Ok u → OnOk r X → X
on_good (Ok v) u is x = x
on_good (Err e) u is x = err_not_good is

-- What holds of a known good result, and what stays of a good one after a step that may stop.
pub if_good : {U E : Type 0} (P : U → Type 0) (r : Result U E) (u : U) → r ≡ Ok u → P u → IfOk r P
if_good P (Ok v) u is p = subst P (sym (same_good is)) p
if_good P (Err e) u is p = err_not_good is

pub if_then : {U E F : Type 0} (X : Type 0) (P : U → Type 0) (r : Result U E) (q : Result U F)
    → IfOk q (λ u. (r ≡ Ok u) × X) → IfOk r P → IfOk q P
if_then X P r (Ok u) both p = when_ok P r u both.0 p
if_then X P r (Err e) both p = tt

pub good_not_err : {U E A : Type 0} {u : U} {e : E} → Ok u ≡ Err e → A
good_not_err is = absurd cc

pub memory_not_fault : {U A : Type 0} → stops U NoMemory ≡ stops U ApplierFault → A
memory_not_fault is = absurd cc

pub memory_not_many : {U A : Type 0} → stops U NoMemory ≡ stops U TooManyGroups → A
memory_not_many is = absurd cc

pub memory_not_spent : {U A : Type 0} → stops U NoMemory ≡ stops U Spent → A
memory_not_spent is = absurd cc

pub fault_not_many : {U A : Type 0} → stops U ApplierFault ≡ stops U TooManyGroups → A
fault_not_many is = absurd cc

pub fault_not_spent : {U A : Type 0} → stops U ApplierFault ≡ stops U Spent → A
fault_not_spent is = absurd cc

-- A count of faults that stays, if there is no fault of the applier.
pub no_cause : {U : Type 0} (n : ℕ) (r : Result U FrameStop) → (r ≡ Err ApplierFault → ⊥) → FaultHasCause n n r
no_cause n r none = record { later = omega arith; failed = λ e. absurd (none e) }

-- An applier may still be called.
pub may_be_called : (t : Option CursorTree) (at at' : LastFrame → Type 0) → MayCall t at
    → ((k : LastFrame) → at k → at' k) → MayCall t at'
may_be_called None at at' may go = tt
may_be_called (Some t) at at' may go = record { kept = may.kept; is_at = go may.kept may.is_at; mirrors = may.mirrors }

-- What is so unless the applier failed.
unfaulted : {U X : Type 0} (stop : FrameStop) (r : Result U FrameStop) → r ≡ Err stop → (stop ≡ ApplierFault → ⊥)
    → UnlessFault X r → X
unfaulted ApplierFault r is none x = absurd (none refl)
unfaulted {X = X} TooManyGroups r is none x = subst (λ (q : Result _ FrameStop). UnlessFault X q) is x
unfaulted {X = X} Spent r is none x = subst (λ (q : Result _ FrameStop). UnlessFault X q) is x
unfaulted {X = X} NoMemory r is none x = subst (λ (q : Result _ FrameStop). UnlessFault X q) is x

-- What is kept after a frame that stopped.
pub stopped_at : {U : Type 0} (c c' : Composition) (k : LastFrame) (m : Map) (stop : FrameStop) (r : Result U FrameStop)
    → r ≡ Err stop → UnlessFault (c' ≡ c) r
    → (r ≡ Err ApplierFault → IsAt c' (kept_after_fault k (frame (functions_of c.program.now) k m)) (Some m))
    → IsAt c k (Some m) → IsAt c' (kept_after_stop c.program.now k (Some m) stop) (Some m)
stopped_at c c' k m ApplierFault r is same fault h = fault is
stopped_at c c' k m TooManyGroups r is same fault h =
    subst (λ (s : Composition). IsAt s k (Some m)) (sym (unfaulted TooManyGroups r is (λ e. absurd cc) same)) h
stopped_at c c' k m Spent r is same fault h =
    subst (λ (s : Composition). IsAt s k (Some m)) (sym (unfaulted Spent r is (λ e. absurd cc) same)) h
stopped_at c c' k m NoMemory r is same fault h =
    subst (λ (s : Composition). IsAt s k (Some m)) (sym (unfaulted NoMemory r is (λ e. absurd cc) same)) h

-- After a fault of the applier the composition is detached.
pub stopped_detached : (p : Program) (k : LastFrame) (m : Map) (stop : FrameStop) → stop ≡ ApplierFault
    → is_detached (kept_after_fault k (frame (functions_of p) k m)) ≡ true
    → is_detached (kept_after_stop p k (Some m) stop) ≡ true
stopped_detached p k m stop e detached =
    ap (λ (s : FrameStop). is_detached (kept_after_stop p k (Some m) s)) e ∙ detached

-- A frame that did not begin keeps everything.
pub stopped_before : (p : Program) (k : LastFrame) (l : Option Map) (stop : FrameStop) → (stop ≡ ApplierFault → ⊥)
    → kept_after_stop p k l stop ≡ k
stopped_before p k None stop none = refl
stopped_before p k (Some m) ApplierFault none = absurd (none refl)
stopped_before p k (Some m) TooManyGroups none = refl
stopped_before p k (Some m) Spent none = refl
stopped_before p k (Some m) NoMemory none = refl
