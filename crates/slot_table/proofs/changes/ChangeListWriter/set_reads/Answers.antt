use Rattle.std.proofs.Common.{length, arith, ap, sym, subst, ◌∙◌, get_or, set, Result, Ok, Err}
use Rattle.std.specs.Prelude.{OnOk, OnErr}
use Rattle.slot_table.specs.TableGroups.{group_at, with_reads}
use Rattle.slot_table.specs.KeptRuns.{IsWritten}
use Rattle.slot_table.proofs.KeptRuns.{written_set, reads_set}
use Rattle.slot_table.proofs.changes.ChangeListWriter.set_reads.Goals as goal

either : {A E P Q R : Type 0} (r : Result A E) → OnOk r P → OnErr r Q → (P → R) → (Q → R) → R
either (Ok x) p q ok err = ok p
either (Err x) p q ok err = err q

pub set_reads-requires : goal.set_reads-requires
set_reads-requires c =
    let found = c.in-Some.ensures.found.0 in
    let same = ap (λ l. length l) c.deref.ensures.value in
    let long = c.self.invariant.long in
    omega (arith, found, same, long)

pub invariant_of-self-2 : goal.invariant_of-self-2
invariant_of-self-2 c =
    let w = c.self.inside in
    let found = c.in-Some.ensures.found.0 in
    let same = ap (λ l. length l) c.deref.ensures.value in
    let long = c.self.invariant.long in
    either c.set_reads.result c.set_reads.ensures.set c.set_reads.ensures.same
    (λ is. written_set w.table.now.groups w.fresh c.set_reads.new.self w.runs.items w.places.items w.before w.len
    w.nodes c.in-Some.i c.args.reads c.self.invariant (omega (arith, found, same, long)) is)
    (λ is. subst (λ l. IsWritten w.table.now.groups l w.runs.items w.places.items w.before w.len w.nodes) (sym is)
    c.self.invariant)

pub returns-clause-set : goal.returns-clause-set
returns-clause-set c =
    let w = c.self.inside in
    let found = c.in-Some.ensures.found.0 in
    let same = ap (λ l. length l) c.deref.ensures.value in
    let long = c.self.invariant.long in
    reads_set w.table.now.groups w.fresh c.set_reads.new.self w.runs.items w.places.items w.before w.len w.nodes
    c.in-Some.i c.args.place c.args.reads c.self.invariant (omega (arith, found, same, long))
    (ap (λ l. get_or l c.in-Some.i 0) (sym c.deref.ensures.value) ∙ c.in-Some.ensures.found.1) c.in_ok-set_reads.ensures.set
    ∙ ap (λ s. set s.news c.args.place (with_reads (group_at s.news c.args.place) c.args.reads)) c.self.view_is
