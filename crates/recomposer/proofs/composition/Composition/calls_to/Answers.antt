use Rattle.std.proofs.Common.{◌≡◌, ◌∙◌, subst, sym, IfOk, List, true, false}
use Rattle.rt_groups.specs.Nodes.{nodes}
use Rattle.node_tree.specs.declared.ops.Op.{Op}
use Rattle.rt_groups.specs.Frames.{is_detached}
use Rattle.recomposer.proofs.Frames.{new_trail, tree_follows, calls_anew, calls_usual}
use Rattle.recomposer.proofs.composition.Composition.calls_to.Goals as goal

pub returns-then-is_detached : goal.returns-then-is_detached
returns-then-is_detached c k m d h made same =
    let detached : is_detached k ≡ true = sym (c.is_detached.ensures k _ h) ∙ c.if-is_detached.true in
    let follows = tree_follows c.args.self.now k m h in
    subst (λ (l : List Op). IfOk c.place_anew.result (λ calls. calls ≡ l))
    (calls_anew c.args.self.now k m d h made.1 detached)
    (c.place_anew.ensures (nodes (new_trail c.args.self.now.program.now k m))
    (c.deref.ensures.value ∙ c.in_ok-new.ensures (new_trail c.args.self.now.program.now k m) (same ∙ made.0.groups))
    follows.new_numbers)

pub returns : goal.returns
returns c k m d h made same =
    let attached : is_detached k ≡ false = sym (c.is_detached.ensures k _ h) ∙ c.if-is_detached.false in
    let follows = tree_follows c.args.self.now k m h in
    subst (λ (l : List Op). IfOk c.place.result (λ calls. calls ≡ l))
    (calls_usual c.args.self.now k m d h made.1 attached)
    (c.place.ensures (nodes k.trail) (nodes (new_trail c.args.self.now.program.now k m))
    (c.deref-2.ensures.value ∙ c.in_ok-old.ensures k.trail (c.table.ensures ∙ h.holds.0))
    (c.deref-3.ensures.value ∙ c.in_ok-new.ensures (new_trail c.args.self.now.program.now k m) (same ∙ made.0.groups))
    follows.old_numbers follows.new_numbers)
