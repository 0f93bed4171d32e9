-- When a part of a composition reaches a state, for each way to make a forest.
use Rattle.std.proofs.Common.{ℕ, ◌<◌, List, ◌≡◌, ap, ◌∙◌, sym, subst, length, length-append, Result, Ok, Err, IsErr, OnOk, Bool, arith}
use Rattle.rt_groups.specs.GroupForest.{GroupForest, Group, GroupKind}
use Rattle.rt_groups.specs.Paths.{GroupKey}
use Rattle.rt_groups.specs.PreorderGroups.{preorder}
use Rattle.rt_groups.specs.Frames.{most_groups}
use Rattle.composer.specs.declared.stop.ComposeStop.{ComposeStop}
use Rattle.composer.specs.declared.stop.ComposeStop.TheVariants.{TooManyGroups, NoMemory}
use Rattle.recompose_laws.specs.Numbering.{numbered_by_siblings}
use Rattle.composer.specs.ComposerState.{ComposerState, composed_beside}
use Rattle.composer.specs.BesideContracts.{IsPrefix, Reaches}
use Rattle.composer.proofs.Machine.{composed_is}

pub on_ok : {T E X : Type 0} (result : Result T E) → X → OnOk result X
on_ok (Ok u) x = x
on_ok (Err e) x = tt

-- The composition ran out of memory.
pub reached_stop : {U : Type 0} {target s : ComposerState} (result : Result U ComposeStop) → result ≡ Err NoMemory
    → IsPrefix s.asked target.asked → Reaches target s result
reached_stop (Ok u) e p = cc
reached_stop (Err x) e p = record { all = tt; part = p; many = λ f. cc }

-- No group could be added.
pub reached_full : {U : Type 0} {target s : ComposerState} (result : Result U ComposeStop) → IsErr result
    → (result ≡ Err TooManyGroups → most_groups < length target.groups) → IsPrefix s.asked target.asked
    → Reaches target s result
reached_full (Ok u) i h p = cc
reached_full (Err x) i h p = record { all = tt; part = p; many = h }

-- The composition passes an error on.
pub reached_as : {U V : Type 0} {target s : ComposerState} (x : ComposeStop) (result : Result U ComposeStop)
    → result ≡ Err x → Reaches target s {U = V} (Err x) → Reaches target s result
reached_as x (Ok u) e h = cc
reached_as x (Err z) e h = record {
  all = tt;
  part = h.part;
  many = λ y. let y0 : z ≡ x = cc in
      let y1 : z ≡ TooManyGroups = cc in h.many (ap (λ (w : ComposeStop). Err w) (sym y0 ∙ y1));
}

pub reached_at : {U : Type 0} {target target' s : ComposerState} {result : Result U ComposeStop} → target ≡ target'
    → Reaches target s result → Reaches target' s result
reached_at {s = s} {result = result} e h = subst (λ (q : ComposerState). Reaches q s result) e h

-- A forest that begins with a group has at least one group.
pub longer_one : (owed : List ℕ) (old : GroupForest) (d : ℕ) (running : Bool) (seen : List GroupKey) (site n : ℕ)
    (what : GroupKind) (inside rest : GroupForest) (s : ComposerState) →
    length s.groups < length (composed_beside owed old d running seen (Group site n what inside rest) s).groups
longer_one owed old d running seen site n what inside rest s =
    let e = ap (λ (q : ComposerState). length q.groups)
    (composed_is owed old d running seen (Group site n what inside rest) s) in
    omega (
      arith,
      e,
      length-append s.groups
          (preorder d (numbered_by_siblings old seen s.next (Group site n what inside rest)).0),
    )
