use Rattle.std.proofs.Common.{◌≡◌, ◌∙◌, sym, true, false}
use Rattle.play_run.proofs.FrameCalls.{calls_made, calls_unseen, no_fault, still_same}
use Rattle.play_run.proofs.frame.recompose.Goals as goal

pub returns-then-flags-clause-frame : goal.returns-then-flags-clause-frame
returns-then-flags-clause-frame g c = c.recompose_with.ensures.frame

pub returns-then-flags-clause-calls : goal.returns-then-flags-clause-calls
returns-then-flags-clause-calls g c k m h shows =
    calls_made c.args.flags k _ c.recompose_with.new.self.ops _ _ c.recompose_with.result
    (c.recompose_with.ensures.applier.applied k m h shows)

pub returns-then-flags-clause-err : goal.returns-then-flags-clause-err
returns-then-flags-clause-err g c = still_same (c.recompose_with.new.self ≡ c.args.composition.now)
    c.recompose_with.result c.recompose_with.ensures.applier.leaves.cause c.recompose_with.ensures.frame.err

pub returns-then-flags-clause-no_fault : goal.returns-then-flags-clause-no_fault
returns-then-flags-clause-no_fault g c on =
    no_fault c.recompose_with.result c.recompose_with.ensures.applier.leaves.cause

pub returns-then-flags-clause-reads : goal.returns-then-flags-clause-reads
returns-then-flags-clause-reads g c = c.recompose_with.ensures.reads

pub returns-clause-frame : goal.returns-clause-frame
returns-clause-frame g c = c.recompose.ensures.frame

pub returns-clause-calls : goal.returns-clause-calls
returns-clause-calls g c k m h shows =
    calls_unseen c.args.flags k _ c.recompose.new.self.ops c.recompose.result
    (λ on. let e : true ≡ false = sym on ∙ c.if-flags.false in absurd cc)

pub returns-clause-no_fault : goal.returns-clause-no_fault
returns-clause-no_fault g c on =
    let e : true ≡ false = sym on ∙ c.if-flags.false in
    absurd cc

pub returns-clause-reads : goal.returns-clause-reads
returns-clause-reads g c = c.recompose.ensures.reads
