use Rattle.std.proofs.Common.{◌≡◌, List, map, ap, ◌∙◌, sym}
use Rattle.rt_groups.specs.declared.groups.Group.{Group}
use Rattle.slot_table.specs.KeptRuns.{set_all, after_exchange}
use Rattle.slot_table.specs.AppliedChanges.{changed_groups}
use Rattle.slot_table.proofs.ExchangedBlocks.{reads_exchanged}
use Rattle.slot_table.proofs.changes.ChangeList.keeps_reads.Goals as goal

pub returns-then-keep_reads_in_place : goal.returns-then-keep_reads_in_place
returns-then-keep_reads_in_place c = λ is.
    let olds : List Group = c.self.inside.olds.groups in
    let now : List Group = c.args.table.now.groups in
    let fresh : List Group = c.in-Exchanged.fresh in
    let places = c.in-Exchanged.places.items in
    let lent = c.deref-in-Exchanged.result.now in
    let e = c.in-Exchanged.exchange in
    let same : olds ≡ now = ap (λ s. s.olds) c.self.view_is ∙ sym c.requires in
    sym (ap (λ s. map (λ g. g.reads) s.news) c.self.view_is)
    ∙ ap (λ change. map (λ g. g.reads) (changed_groups olds change)) c.in-Exchanged.is
    ∙ ap (λ l. map (λ g. g.reads) (after_exchange e (set_all l places fresh))) same
    ∙ ap (λ l. map (λ g. g.reads) (after_exchange e (set_all now l fresh))) (sym c.deref-in-Exchanged.ensures.value)
    ∙ reads_exchanged now (set_all now lent fresh) e
    (c.keep_reads_in_place-in-Exchanged.ensures c.if-keep_reads_in_place.true) (c.exchange_keeps_reads.ensures is)
    ∙ ap (λ l. map (λ g. g.reads) l) c.requires
