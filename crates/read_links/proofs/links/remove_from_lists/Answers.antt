use Rattle.std.proofs.Common.{suc, ◌+◌, ◌-◌, ◌≡◌, vec_len, vec_capacity, length, arith, ap, ◌∙◌}
use Rattle.read_links.specs.LinkLists.{scopes_without}
use Rattle.read_links.specs.Storage.{entry_links}
use Rattle.read_links.proofs.Entries.{mapped_first, mapped_all, next_entry, length-set, entry_count, mapped_count}
use Rattle.read_links.proofs.Spares.{replaced_has_spare}
use Rattle.read_links.proofs.links.remove_from_lists.Goals as goal

pub loop-at-preserved : goal.loop-at-preserved
loop-at-preserved c =
    let len = c.remove_scope.ensures.len in
    let capacity = c.remove_scope.ensures.capacity in
    let next : suc c.loop-at.at ≡ c.loop-at.at + 1 = omega arith in (
      next_entry (λ v. v.items) (scopes_without c.args.scope) c.loop-at.at c.loop-at.objects.entries
          c.index_mut.result.now c.remove_scope.new.scopes c.index_mut.ensures.value c.remove_scope.ensures.items
          (entry_links (λ v. v.items) c.args.objects.now.entries) c.loop-at.invariant.0
          ∙ ap (λ n. mapped_first (λ e. (e.0, scopes_without c.args.scope e.1)) n
          (entry_links (λ v. v.items) c.args.objects.now.entries)) next,
      c.loop-at.invariant.1,
      λ n all. replaced_has_spare (λ v. vec_capacity v - vec_len v) n c.loop-at.at c.loop-at.objects.entries
          c.index_mut.result.now c.remove_scope.new.scopes c.index_mut.ensures.value (omega (arith, len, capacity))
          (c.loop-at.invariant.2 n all),
    )

pub loop-at-smaller : goal.loop-at-smaller
loop-at-smaller c =
    let same = length-set c.loop-at.objects.entries c.loop-at.at c.remove_scope.new.scopes in
    let len = c.len.ensures.len in
    let test = c.loop-at-test.true in
    omega (arith, same, len, test)

pub returns-clause-links : goal.returns-clause-links
returns-clause-links c =
    let before : entry_links (λ v. v.items) c.loop-at.objects.entries ≡ mapped_first
    (λ e. (e.0, scopes_without c.args.scope e.1)) c.loop-at.at
    (entry_links (λ v. v.items) c.args.objects.now.entries) = c.loop-at.invariant.0 in
    let one = entry_count (λ v. v.items) c.loop-at.objects.entries in
    let two = entry_count (λ v. v.items) c.args.objects.now.entries in
    let long = ap (λ l. length l) before in
    let same = mapped_count (λ e. (e.0, scopes_without c.args.scope e.1)) c.loop-at.at
    (entry_links (λ v. v.items) c.args.objects.now.entries) in
    let len = c.len.ensures.len in
    let test = c.loop-at-test.false in
    before ∙ mapped_all (λ e. (e.0, scopes_without c.args.scope e.1)) c.loop-at.at
    (entry_links (λ v. v.items) c.args.objects.now.entries) (omega (arith, one, two, long, same, len, test))
