use Rattle.std.proofs.Common.{◌+◌, arith, sym, subst, ◌∙◌}
use Rattle.recompose_scopes.specs.Scopes.{own_reads}
use Rattle.recompose_scopes.proofs.AddedScopes.{AreScopesUpTo, no_scopes, next_scopes, all_scopes, read_count, reads_of_group}
use Rattle.recompose_scopes.proofs.scopes.RecomposeScopes.of.Goals as goal

pub loop-group-init : goal.loop-group-init
loop-group-init c =
    no_scopes (own_reads c.args.table.now.groups) c.empty-scopes.result c.empty-scopes.ensures

pub loop-group-preserved : goal.loop-group-preserved
loop-group-preserved c =
    let groups = c.args.table.now.groups in
    let k = c.loop-group.group in
    subst (λ l. AreScopesUpTo (k + 1) (own_reads groups) l) (sym c.in_ok-add.ensures)
    (next_scopes k (own_reads groups) c.reads.result.now c.loop-group.scopes
    (c.reads.ensures ∙ reads_of_group groups k) c.loop-group.invariant)

pub returns : goal.returns
returns c =
    let groups = c.args.table.now.groups in
    let count = read_count groups in
    let len = c.len-group-end.ensures in
    let end = c.loop-group-test.false in
    all_scopes c.loop-group.group (own_reads groups) c.loop-group.scopes (omega (arith, count, len, end))
    c.loop-group.invariant
