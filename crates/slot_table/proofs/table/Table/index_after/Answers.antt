use Rattle.std.proofs.Common.{◌≡◌, ℕ, List, ap, ◌∙◌, get_or, arith}
use Rattle.rt_groups.specs.declared.groups.Group.{Group}
use Rattle.slot_table.specs.InnerCounts.{inner_counts}
use Rattle.slot_table.specs.Storage.{joined_groups}
use Rattle.slot_table.proofs.InnerCounts.{after_is, after_fits, first_of_rest}
use Rattle.slot_table.proofs.table.Table.index_after.Goals as goal

count_known : (groups inside : List Group) (counts : List ℕ) (i size : ℕ) → inside ≡ groups
    → counts ≡ inner_counts inside → size ≡ get_or counts i size → size ≡ get_or (inner_counts groups) i size
count_known groups inside counts i size same sized is = is ∙ ap (λ l. get_or l i size) (sized ∙ ap inner_counts same)

pub returns-clause-inside : goal.returns-clause-inside
returns-clause-inside c =
    let gs = c.args.self.now.groups in
    after_fits gs (first_of_rest gs c.args.i c.requires).first c.args.i c.index.result.now c.requires
    (count_known gs (joined_groups c.self.inside.groups.items c.self.inside.slots.items) c.self.inside.counts.items
    c.args.i c.index.result.now (ap (λ s. s.groups) c.self.view_is) c.self.invariant.1 c.index.ensures)

pub overflow_add-result-2 : goal.overflow_add-result-2
overflow_add-result-2 c =
    let fits = returns-clause-inside c in let len = c.len-length.ensures in let bound = c.len-length.type_inv in
    omega (arith, fits, len, bound)

pub returns-clause-after : goal.returns-clause-after
returns-clause-after c = λ g rest is.
    let gs = c.args.self.now.groups in
    after_is gs rest g c.args.i c.index.result.now is
    (count_known gs (joined_groups c.self.inside.groups.items c.self.inside.slots.items) c.self.inside.counts.items
    c.args.i c.index.result.now (ap (λ s. s.groups) c.self.view_is) c.self.invariant.1 c.index.ensures)
