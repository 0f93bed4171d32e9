use Rattle.std.proofs.Common.{ℕ, ◌+◌, sym, ap, ◌∙◌, subst, Option, not}
use Rattle.snap_records.specs.Chains.{chain_of}
use Rattle.snap_records.specs.declared.slots.RecordNo.{RecordNo}
use Rattle.snap_reuse.specs.Readers.{is_read, IsLowestUnread}
use Rattle.snap_reuse.proofs.Lowest.{lowest_more}
use Rattle.snap_reuse.proofs.reuse.lowest_unread.Goals as goal

pub loop-i-preserved : goal.loop-i-preserved
loop-i-preserved c =
    let ch = c.args.chains.now in
    let x = c.args.x in
    let rs = c.args.readers.now in
    record {
      is = subst (λ (o : Option RecordNo). IsLowestUnread ch x rs (c.loop-i.i + 1) o)
          (sym c.lower_record-best.ensures.is)
          (lowest_more ch x rs c.loop-i.i c.at-r.result c.loop-i.best (not c.is_read-is_unread.result) c.at-r.ensures
          (ap not (c.is_read-is_unread.ensures ∙ ap (λ (i : ℕ). is_read (chain_of ch x) i rs) c.id.ensures))
          c.loop-i.invariant.is);
      there = c.lower_record-best.ensures.there;
    }
