-- Trusted: the groups of a frame, made from those of the last frame in one walk.
use Rattle.std.specs.Prelude.{ℕ, ◌<◌, ◌≤◌, List, [], ◌∷◌, ◌≡◌, length, Bool, false, Some, take, if◌then◌else◌}
use Rattle.rt_values.specs.Maps.{Map, entry_at, value_at, contains, differ}
use Rattle.rt_groups.specs.GroupForest.{GroupForest, End, Read, Group, GroupKind, Call, asks, own_part}
use Rattle.rt_groups.specs.Frames.{meets}
use Rattle.lang_ast.specs.Terms.{Func}
use Rattle.compose_model.specs.Composing.{meanings, meaning_at, forest}

-- Whether a call with these old inner groups is owed: its own reads include an owed object.
abbrev pub is_owed : List ℕ → GroupForest → Bool
is_owed owed inside = meets (asks (own_part inside)) owed

-- The groups inside one group: composed again if the group is an owed call; else the walk goes on inside. Inside a
-- call, only earlier functions are called.
abbrev pub refreshed_inside : Map → List Func → GroupKind → Bool → (List Func → GroupForest) → GroupForest
refreshed_inside m functions (Call f vs) anew go =
    if anew then meaning_at (meanings m functions) f vs else go (take f functions)
refreshed_inside m functions _ anew go = go functions

-- The groups after the walk: calls whose own reads include an owed object are composed again, and the rest is kept.
abbrev pub refreshed_groups : Map → List ℕ → GroupForest → List Func → GroupForest
refreshed_groups m owed End functions = End
refreshed_groups m owed (Read x rest) functions = Read x (refreshed_groups m owed rest functions)
refreshed_groups m owed (Group site n what inside rest) functions =
    Group site n what (refreshed_inside m functions what (is_owed owed inside) (refreshed_groups m owed inside))
    (refreshed_groups m owed rest functions)

-- `SameBut owed m m'`: the objects outside `owed` have equal values in `m` and `m'`.
abbrev pub SameBut : List ℕ → Map → Map → Type 0
SameBut owed m m' = (x : ℕ) → contains x owed ≡ false → value_at m x ≡ value_at m' x

-- `SameReads owed xs m m'`: the objects of `xs` outside `owed` have equal values in `m` and `m'`.
abbrev pub SameReads : List ℕ → List ℕ → Map → Map → Type 0
SameReads owed [] m m' = Unit {0}
SameReads owed (x ∷ xs) m m' = (contains x owed ≡ false → value_at m x ≡ value_at m' x) × SameReads owed xs m m'

-- `StampsTell m m'`: an object of `m` whose stamp in `m'` is equal has an equal value there.
abbrev pub StampsTell : Map → Map → Type 0
StampsTell m m' = (x : ℕ) → x < length m → (entry_at m x).stamp ≡ (entry_at m' x).stamp → value_at m x ≡ value_at m' x

-- Law: between two maps of one world, only the objects whose stamps differ can have changed.
abbrev pub OwedIsWhatChanged : Type 0
OwedIsWhatChanged = (m m' : Map) → length m ≤ length m' → StampsTell m m' → SameBut (differ (Some m) m') m m'

-- Law: if every object that the forest read and that changed is owed, the walk over the forest of one map gives the
-- forest of the other.
abbrev pub RefreshingIsScratch : Type 0
RefreshingIsScratch = (m m' : Map) (owed : List ℕ) (functions : List Func) (root : ℕ) →
    SameReads owed (asks (forest functions root m)) m m' →
    refreshed_groups m' owed (forest functions root m) functions ≡ forest functions root m'
