use Rattle.std.proofs.Common.{List, subst, sym}
use Rattle.rt_groups.specs.declared.groups.Group.{Group}
use Rattle.rt_groups.specs.PreorderGroups.{preorder}
use Rattle.recompose_scopes.specs.Scopes.{ScopeLists, AreScopesOf, own_reads}
use Rattle.recomposer.proofs.composition.Composition.scopes.Goals as goal

pub returns : goal.returns
returns c k l h =
    subst (λ (s : ScopeLists). AreScopesOf (own_reads (preorder 0 k.trail)) s) (sym c.scopes.ensures.scopes)
    (subst (λ (gs : List Group). AreScopesOf (own_reads gs) c.args.self.now.held.scopes) h.holds.0 h.holds.2)
