use Rattle.std.proofs.Common.{◌≡◌, ◌++◌, drop, length, Some, []}
use Rattle.std.specs.Option.{unwrap_or}
use Rattle.rt_values.specs.Maps.{Map, differ, differ_from}
use Rattle.rt_groups.specs.Frames.{LastFrame}
use Rattle.recomposer.specs.Compositions.{IsAt}
use Rattle.recomposer.proofs.composition.Composition.owed.Given as goal

-- The owed states so far, and those that are left.
abbrev pub invariant-loop-x : goal.invariant-loop-x
invariant-loop-x l =
    (k : LastFrame) (m : Map) → IsAt l.self k (Some m) → length m ≡ length l.self.program.now.states.items →
    l.owed.items ++ differ_from (unwrap_or k.seen []) l.x (drop l.x m) ≡ differ k.seen m
