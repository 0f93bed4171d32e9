use Rattle.std.proofs.Common.{◌≡◌, ◌++◌, ◌∷◌, [], List, Option, Some, None, ap, ◌∙◌, sym}
use Rattle.std.specs.Prelude.{slice_get}
use Rattle.std.proofs.lemmas.List.{append-nil}
use Rattle.node_tree.specs.declared.ops.NewNode.{NewNode}
use Rattle.node_tree.specs.declared.ops.Op.{Op}
use Rattle.node_tree.specs.declared.ops.Op.TheVariants as op
use Rattle.node_tree.specs.Placing.{joined_calls}
use Rattle.node_tree.specs.FlatNodes.{FlatNode}
use Rattle.node_tree.specs.SiblingLists.{insert_of}
use Rattle.node_tree.proofs.CopiedNodes.{got_none, got_some}
use Rattle.node_tree.proofs.JoinedPushes.{on_ok}
use Rattle.node_tree.proofs.level.push_insert.Goals as goal

pub returns-in_default : goal.returns-in_default
returns-in_default c = λ before calls e f.
    let none : None ≡ slice_get c.args.new.now c.args.place =
    sym (got_none c.args.new.now c.args.place c.in_default.ensures.lookup.3) in
    e ∙ ap (λ (l : List Op). before ++ joined_calls l) (sym (append-nil calls))
    ∙ ap (λ (o : Option FlatNode). before ++ joined_calls (calls ++ insert_of c.args.index o)) none

pub returns : goal.returns
returns c = λ before calls e f.
    let some : Some c.in-Some.inserted.now ≡ slice_get c.args.new.now c.args.place =
    sym (got_some c.args.new.now c.args.place c.in-Some.inserted.now c.in-Some.ensures.lookup.3.0
    c.in-Some.ensures.lookup.1) in
    on_ok c.push_joined.result _ _ (λ pushed. pushed
    ∙ ap (λ (n : NewNode). before ++ joined_calls (calls ++ op.InsertTopDown c.args.index n ∷ [])) c.in_ok-node.ensures
    ∙ ap (λ (o : Option FlatNode). before ++ joined_calls (calls ++ insert_of c.args.index o)) some)
    (c.push_joined.ensures before calls e f)
