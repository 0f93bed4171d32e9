-- Trusted: what the calls on a shared world promise. A seat's own calls are the entries of its caller in what it has
-- seen.
use Rattle.std.specs.Prelude.{◌≡◌, ℕ, zero, suc, ◌≤◌, List, [], ◌∷◌, ◌++◌, if◌then◌else◌}
use Rattle.snap_policy.specs.Rules.{Rules}
use Rattle.snap_api.specs.Calls.{is_no_memory, IsOwn}
use Rattle.snap_api.specs.World.{World, world_after}
use Rattle.snap_api.specs.declared.data.Entry.{Entry}
use Rattle.snap_api.specs.declared.data.Reply.{Reply}
use Rattle.snap_api.specs.declared.data.Reply.TheVariants as reply
use Rattle.snap_api.specs.declared.data.Request.{Request}
use Rattle.snap_api.specs.declared.data.Request.TheVariants as request
use Rattle.snap_shared.specs.Histories.{caller_of, calls_by, StartsWith, IsLegalFrom}

-- The entries of a caller, in order.
abbrev pub own_calls : ℕ → List Entry → List Entry
own_calls number log = calls_by caller_of number log

-- The entries that a call adds to the history: none if it ran out of memory, else the call with its reply.
abbrev pub entries_added : ℕ → Request → Reply → List Entry
entries_added number request r =
    if is_no_memory r then [] else record { caller = number; request = request; reply = r } ∷ []

-- History `new` is `old`, then calls of other callers only, then `last`.
pub record ContinuesWith (number : ℕ) (old new last : List Entry) : Type 0 where
  pub between : List Entry
  pub others : own_calls number between ≡ []
  pub is : new ≡ (old ++ between) ++ last

-- After a call the seat has seen a legal history, which continues what it had seen and ends with this call and its
-- reply. The own calls have grown by this entry alone. A call that ran out of memory adds no entry.
pub record SeesOwnCall {W P : Type 0} (rules : Rules P) (stands : W → World P → Type 0) (opening : W) (number : ℕ)
    (old new : List Entry) (request : Request) (r : Reply) : Type 0 where
  pub legal : IsLegalFrom rules stands opening new
  pub continues : ContinuesWith number old new (entries_added number request r)
  pub mine : own_calls number new ≡ own_calls number old ++ entries_added number request r

-- A dispose of a snapshot that is live and the caller's own after what the seat has seen is never refused, so it takes
-- no memory.
abbrev pub DisposesSeenOwn : {W P : Type 0} → Rules P → (W → World P → Type 0) → W → ℕ → List Entry → Request → Reply
    → Type 0
DisposesSeenOwn {W} {P} rules stands opening number seen (request.Dispose name) r =
    (o : World P) → stands opening o → IsOwn (world_after rules o seen) number name → r ≡ reply.Disposed
DisposesSeenOwn rules stands opening number seen _ r = Unit {0}

-- Two seats have seen one legal history, which continues what each had seen. It has no more calls of either caller.
pub record SeeOneHistory {W P : Type 0} (rules : Rules P) (stands : W → World P → Type 0) (opening : W) (one other : ℕ)
    (one_old other_old one_new other_new : List Entry) : Type 0 where
  pub legal : IsLegalFrom rules stands opening one_new
  pub same : other_new ≡ one_new
  pub one_on : ContinuesWith one one_old one_new []
  pub other_on : ContinuesWith other other_old other_new []

-- The history begins with what a seat has seen, and has of its caller exactly the seat's own calls.
abbrev pub ContainsSeat : List Entry → ℕ → List Entry → Type 0
ContainsSeat log number seen = StartsWith log seen × (own_calls number log ≡ own_calls number seen)

-- The history has no call of a caller with this number or a greater one.
abbrev pub HasOnlyCallersBelow : ℕ → List Entry → Type 0
HasOnlyCallersBelow count log = (k : ℕ) → count ≤ k → own_calls k log ≡ []

-- The numbers 0, 1, .. below n, in order.
abbrev pub numbers_below : ℕ → List ℕ
numbers_below zero = []
numbers_below (suc n) = numbers_below n ++ n ∷ []
