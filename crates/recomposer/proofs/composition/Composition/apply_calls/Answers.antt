use Rattle.std.proofs.Common.{◌∙◌, subst, ℕ, arith}
use Rattle.rt_streams.specs.Streams.{Rose}
use Rattle.recomposer.proofs.Applied.{may_carry}
use Rattle.recomposer.proofs.FrameEnds.{not_none, ends_without_memory, ends_called, ends_with_fault}
use Rattle.recomposer.proofs.Frames.{calls_may}
use Rattle.recomposer.proofs.composition.Composition.apply_calls.Goals as goal

pub returns-in_default : goal.returns-in_default
returns-in_default g c =
    ends_without_memory _ _ _ _ _ _ _ c.take_memory.ensures.tree c.take_memory.ensures.faults
    (λ k m h made none. absurd (c.requires.some (c.requires.ops k m h made ∙ none)))
    (not_none c.args.draft)

pub carry-requires-clause-may : goal.carry-requires-clause-may
carry-requires-clause-may g c =
    may_carry (g.A.Applier.tree c.args.applier.now) (g.A.Applier.tree c.take_memory.new.applier) _ _
    c.take_memory.ensures.tree c.requires.tree (λ k at t mirrors.
    calls_may c.args.self.now k at.0 c.args.draft at.1 at.2.1 _ t
    (c.in-Ok.ensures.same ∙ c.requires.ops k at.0 at.1 at.2) mirrors)

pub returns-in-Ok-carry : goal.returns-in-Ok-carry
returns-in-Ok-carry g c =
    let later = c.carry.ensures.cause.later in
    let counted = c.take_memory.ensures.faults in
    ends_called c.args.self.now c.keep.new.self c.args.draft (g.A.Applier.tree c.args.applier.now)
    (g.A.Applier.tree c.take_memory.new.applier) (g.A.Applier.tree c.carry.new.applier) _ _ _ c.keep.result
    c.args.ops c.in-Ok.calls c.keep.ensures.settings c.keep.ensures.good c.keep.ensures.report
    (omega (arith, later, counted)) c.take_memory.ensures.tree c.in-Ok-carry.ensures.tree c.in-Ok.ensures.same
    c.keep.ensures.ops c.requires.some c.requires.ops

pub returns-in-Err : goal.returns-in-Err
returns-in-Err g c =
    let later = c.carry.ensures.cause.later in
    let counted = c.take_memory.ensures.faults in
    ends_with_fault c.args.self.now c.detach.new.self c.args.draft _ _ _ _ _ c.args.ops
    c.detach.ensures.calls.settings c.detach.ensures.calls.ops c.detach.ensures.fault
    (omega (arith, later, counted))
    (subst (λ (n : ℕ). Rose n (g.A.Applier.faults c.carry.new.applier)) counted c.in-Err.ensures.cause.failed)
    c.requires.some c.requires.ops
