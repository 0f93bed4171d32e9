use Rattle.std.proofs.Common.{◌+◌, sym, subst, ◌∙◌, ap, drop}
use Rattle.recompose_scopes.proofs.AddedScopes.{AreScopesUpTo, next_scopes, all_scopes, next_reads, later_reads, no_reads_left}
use Rattle.recompose_scopes.proofs.scopes.RecomposeScopes.of_reads.Goals as goal

pub loop-own-preserved : goal.loop-own-preserved
loop-own-preserved c =
    let reads = c.args.reads in
    let k = c.loop-own.group in
    let own = c.in-Some.own.now in
    let left = c.next.new.self in
    let first = c.loop-own.invariant.left ∙ c.in-Some.ensures in
    let next = c.in-Some-checked_add.ensures.1 in
    record {
      left = ap (λ n. drop n reads) next ∙ later_reads k reads left own first;
      scopes = subst (λ n. AreScopesUpTo n reads c.add.new.self) (sym next)
          (subst (λ l. AreScopesUpTo (k + 1) reads l) (sym c.in_ok-add.ensures)
          (next_scopes k reads own c.loop-own.scopes (next_reads k reads left own first)
          c.loop-own.invariant.scopes));
    }

pub returns : goal.returns
returns c =
    let reads = c.args.reads in
    let k = c.loop-own.group in
    all_scopes k reads c.loop-own.scopes (no_reads_left k reads (c.loop-own.invariant.left ∙ c.in_default.ensures))
    c.loop-own.invariant.scopes
