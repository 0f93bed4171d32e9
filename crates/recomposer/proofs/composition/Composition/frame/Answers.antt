use Rattle.std.proofs.Common.{◌≡◌, ◌++◌, ◌∙◌, refl, ap, sym, subst, Some, Err}
use Rattle.rt_groups.specs.Frames.{LastFrame}
use Rattle.recomposer.specs.declared.composition.Composition.{Composition}
use Rattle.recomposer.specs.declared.composition.FrameStop.TheVariants.{ApplierFault}
use Rattle.recomposer.specs.Compositions.{IsAt, frame_reads}
use Rattle.recomposer.proofs.Frames.{made_frame, made_no_frame}
use Rattle.recomposer.proofs.QuietFrames.{quiet_at}
use Rattle.recomposer.proofs.ShownFrames.{applier_left, applier_since, same_desk, same_settings}
use Rattle.recomposer.proofs.Stops.{may_be_called, stopped_at, stopped_detached, stopped_before}
use Rattle.recomposer.proofs.Draws.{grows_on}
use Rattle.recomposer.proofs.Logs.{whole_frame, part_of_frame, log_begun, log_not_begun, makes_reads, frame_world}
use Rattle.recomposer.proofs.composition.Composition.frame.Goals as goal

pub finish-requires-clause-tree : goal.finish-requires-clause-tree
finish-requires-clause-tree g c =
    may_be_called _ _ _ c.requires.tree (λ k at.
    let began = c.in-Ok.ensures.frame.good k at.0 at.1 at.2 at.3 (at.4 c.begin.new.desk c.in-Ok.ensures.desk.lends) in
    (began.map, began.at_now, began.shown))

pub finish-requires-clause-opened : goal.finish-requires-clause-opened
finish-requires-clause-opened g c = c.in-Ok.ensures.opened.name

pub returns-in-Ok-finish-clause-desk : goal.returns-in-Ok-finish-clause-desk
returns-in-Ok-finish-clause-desk g c = same_desk g.D.Desk.lends g.D.Desk.alone g.D.Desk.caller c.args.desk.now
    c.begin.new.desk c.finish.new.desk g.met.D.Desk.lends_on c.in-Ok.ensures.desk c.in-Ok-finish.ensures.desk.same

pub returns-in-Err-finish-clause-desk : goal.returns-in-Err-finish-clause-desk
returns-in-Err-finish-clause-desk g c = same_desk g.D.Desk.lends g.D.Desk.alone g.D.Desk.caller c.args.desk.now
    c.begin.new.desk c.finish.new.desk g.met.D.Desk.lends_on c.in-Ok.ensures.desk c.in-Err-finish.ensures.desk.same

pub returns-in-Ok-finish-clause-settings : goal.returns-in-Ok-finish-clause-settings
returns-in-Ok-finish-clause-settings g c =
    same_settings c.args.self.now c.begin.new.self c.finish.new.self c.in-Ok.ensures.calls.settings
    c.in-Ok-finish.ensures.frame.settings

pub returns-in-Err-finish-clause-settings : goal.returns-in-Err-finish-clause-settings
returns-in-Err-finish-clause-settings g c =
    same_settings c.args.self.now c.begin.new.self c.finish.new.self c.in-Ok.ensures.calls.settings
    c.in-Err-finish.ensures.frame.settings

pub returns-in-Err-clause-settings : goal.returns-in-Err-clause-settings
returns-in-Err-clause-settings g c = c.in-Err.ensures.calls.settings

pub returns-in-Err-clause-desk : goal.returns-in-Err-clause-desk
returns-in-Err-clause-desk g c = c.in-Err.ensures.desk

pub returns-in-Ok-finish-clause-applier : goal.returns-in-Ok-finish-clause-applier
returns-in-Ok-finish-clause-applier g c =
    applier_since g.A.Applier.tree g.A.Applier.faults c.args.applier.now c.finish.new.applier c.args.self.now
    c.begin.new.self c.finish.new.self _ c.in-Ok.ensures.calls.ops c.in-Ok-finish.ensures.applier.leaves

pub returns-in-Err-finish-clause-applier : goal.returns-in-Err-finish-clause-applier
returns-in-Err-finish-clause-applier g c =
    applier_since g.A.Applier.tree g.A.Applier.faults c.args.applier.now c.finish.new.applier c.args.self.now
    c.begin.new.self c.finish.new.self _ c.in-Ok.ensures.calls.ops c.in-Err-finish.ensures.applier.leaves

pub returns-in-Err-clause-applier : goal.returns-in-Err-clause-applier
returns-in-Err-clause-applier g c =
    applier_left g.A.Applier.tree g.A.Applier.faults c.args.applier.now c.args.self.now c.begin.new.self c.in-Err.stop
    c.in-Err.ensures.calls.ops (λ stop. c.in-Err.ensures.stops.no_fault (ap Err stop))

pub returns-in-Ok-finish-clause-good : goal.returns-in-Ok-finish-clause-good
returns-in-Ok-finish-clause-good g c k types l h last alone =
    let watcher = c.args.self.now.watcher in
    let p = c.begin.new.self.program.now in
    let began = c.in-Ok.ensures.frame.good k types l h last (c.in-Ok-finish.ensures.desk.same.alone watcher alone) in
    let reads = frame_reads p k began.map in
    made_frame c.args.self.now.program.now p k (IsAt c.finish.new.self) _ _ _ c.in-Ok-finish.report
    (ap (λ q. q.now) c.in-Ok.ensures.calls.settings.program) (record {
      map = began.map;
      is_at = c.in-Ok-finish.ensures.frame.good k began.map began.at_now began.shown;
      is_last = c.in-Ok-finish.ensures.desk.last watcher types (Some began.map) began.is_last alone;
      told_is = c.in-Ok-finish.ensures.frame.report k began.map began.at_now began.shown;
      done = (
        c.in-Ok-finish.ensures.reads.asks k began.map began.at_now began.shown ∙ ap (λ l. l ++ reads) c.in-Ok.ensures.asks,
        whole_frame (g.D.Desk.log c.args.desk.now) (g.D.Desk.log c.begin.new.desk) (g.D.Desk.log c.finish.new.desk)
            (g.D.Desk.caller c.args.desk.now) (g.D.Desk.caller c.begin.new.desk) watcher c.in-Ok.begun.name
            c.in-Ok.begun.changed reads
            c.in-Ok.ensures.take.taken.1 c.in-Ok.ensures.desk.caller
            (c.in-Ok-finish.ensures.log.log k began.map began.at_now began.shown),
      );
      applied = c.in-Ok-finish.ensures.applier.applied k began.map began.at_now began.shown;
      quiet = λ q. quiet_at c.begin.new.self k began.map began.at_now q;
    })

pub returns-in-Ok-finish-clause-world : goal.returns-in-Ok-finish-clause-world
returns-in-Ok-finish-clause-world g c k types l h last alone w behind =
    let watcher = c.args.self.now.watcher in
    let began = c.in-Ok.ensures.frame.good k types l h last (c.in-Ok-finish.ensures.desk.same.alone watcher alone) in
    frame_world g.D.P.Policy.rules (g.D.Desk.behind c.args.desk.now) (g.D.Desk.behind c.begin.new.desk)
    (g.D.Desk.behind c.finish.new.desk) (g.D.Desk.caller c.args.desk.now) (g.D.Desk.caller c.begin.new.desk) watcher
    c.in-Ok.begun.name c.in-Ok.begun.changed w
    c.in-Ok.ensures.take.taken.0 c.in-Ok.ensures.desk.caller (c.in-Ok-finish.ensures.world began.map began.shown began.inner) behind

pub returns-in-Err-clause-err : goal.returns-in-Err-clause-err
returns-in-Err-clause-err g c k types l h last alone =
    let no_fault : c.in-Err.stop ≡ ApplierFault → ⊥ = λ e. c.begin.ensures.stops.no_fault (c.in-Err.is ∙ ap Err e) in
    record {
      map = l;
      is_at = subst (λ (q : LastFrame). IsAt c.begin.new.self q l)
          (sym (stopped_before c.args.self.now.program.now k l c.in-Err.stop no_fault))
          (subst (λ (s : Composition). IsAt s k l) (sym c.in-Err.ensures.stops.err) h);
      is_last = c.in-Err.ensures.frame.stays types l last alone;
      log_is = log_not_begun c.args.self.now.program.now k (g.D.Desk.log c.args.desk.now)
          (g.D.Desk.log c.begin.new.desk) (g.D.Desk.caller c.args.desk.now) c.args.self.now.watcher c.in-Err.stop l
          (λ e. c.begin.ensures.stops.few (c.in-Err.is ∙ ap Err e)) no_fault
          (c.in-Err.ensures.take.refused (types, l, last, alone)).1;
      many = λ e. absurd (c.begin.ensures.stops.few (c.in-Err.is ∙ ap Err e));
      fault = λ e. absurd (no_fault e);
      detached = λ e. absurd (no_fault e);
    }

pub returns-in-Err-finish-clause-err : goal.returns-in-Err-finish-clause-err
returns-in-Err-finish-clause-err g c k types l h last alone =
    let watcher = c.args.self.now.watcher in
    let began = c.in-Ok.ensures.frame.good k types l h last (c.in-Err-finish.ensures.desk.same.alone watcher alone) in
    let p = c.begin.new.self.program.now in
    made_no_frame c.args.self.now.program.now p k (IsAt c.finish.new.self) _ _ (g.D.Desk.log c.args.desk.now)
    (g.D.Desk.log c.finish.new.desk) (g.D.Desk.caller c.args.desk.now) watcher c.in-Err-finish.stop
    (ap (λ q. q.now) c.in-Ok.ensures.calls.settings.program) (record {
      map = Some began.map;
      is_at = stopped_at c.begin.new.self c.finish.new.self k began.map c.in-Err-finish.stop c.finish.result
          c.in-Err-finish.is c.finish.ensures.frame.err (c.finish.ensures.frame.fault k began.map began.at_now began.shown)
          began.at_now;
      is_last = c.in-Err-finish.ensures.desk.last watcher types (Some began.map) began.is_last alone;
      log_is = log_begun p k (g.D.Desk.log c.args.desk.now) (g.D.Desk.log c.finish.new.desk)
          (g.D.Desk.caller c.args.desk.now) watcher c.in-Err-finish.stop (Some began.map)
          (λ e. c.finish.ensures.frame.not_spent (c.in-Err-finish.is ∙ ap Err e)) (
            began.map,
            refl,
            part_of_frame (g.D.Desk.log c.args.desk.now) (g.D.Desk.log c.begin.new.desk) (g.D.Desk.log c.finish.new.desk)
                (g.D.Desk.caller c.args.desk.now) (g.D.Desk.caller c.begin.new.desk) watcher c.in-Ok.begun.name
                c.in-Ok.begun.changed _
                c.in-Ok.ensures.take.taken.1 c.in-Ok.ensures.desk.caller
                (c.in-Err-finish.ensures.log.refused k began.map began.at_now began.shown began.inner),
          );
      many = λ e. (
        began.map,
        refl,
        c.finish.ensures.frame.many k began.map began.at_now began.shown (c.in-Err-finish.is ∙ ap Err e),
      );
      fault = λ e.
          let stop = c.in-Err-finish.is ∙ ap Err e in
          let reads = frame_reads p k began.map in
          record {
            map = began.map;
            is = refl;
            made = c.finish.ensures.frame.made k began.map began.at_now began.shown stop;
            done = (
              c.finish.ensures.reads.fault k began.map began.at_now began.shown stop
                  ∙ ap (λ l. l ++ reads) c.in-Ok.ensures.asks,
              whole_frame (g.D.Desk.log c.args.desk.now) (g.D.Desk.log c.begin.new.desk)
                  (g.D.Desk.log c.finish.new.desk) (g.D.Desk.caller c.args.desk.now)
                  (g.D.Desk.caller c.begin.new.desk) watcher c.in-Ok.begun.name c.in-Ok.begun.changed reads
                  c.in-Ok.ensures.take.taken.1 c.in-Ok.ensures.desk.caller
                  (c.finish.ensures.log.fault k began.map began.at_now began.shown stop),
            );
          };
      detached = λ e. stopped_detached p k began.map c.in-Err-finish.stop e
          (c.finish.ensures.frame.detached k began.map began.at_now began.shown (c.in-Err-finish.is ∙ ap Err e));
    })

pub returns-in-Ok-finish-clause-log : goal.returns-in-Ok-finish-clause-log
returns-in-Ok-finish-clause-log g c = record {
  whole = makes_reads (g.D.View.shows c.begin.new.desk) (g.D.Desk.log c.args.desk.now) (g.D.Desk.log c.begin.new.desk)
      (g.D.Desk.log c.finish.new.desk) (g.D.View.asked c.args.desk.now) (g.D.View.asked c.begin.new.desk)
      (g.D.View.asked c.finish.new.desk)
      (g.D.Desk.caller c.args.desk.now) (g.D.Desk.caller c.begin.new.desk) c.args.self.now.watcher c.in-Ok.begun.name
      c.in-Ok.begun.changed c.in-Ok-finish.report c.in-Ok.ensures.take.taken.1 c.in-Ok.ensures.desk.caller
      c.in-Ok.ensures.asks c.in-Ok-finish.ensures.log.closed;
  draws = grows_on c.args.self.now.watcher (g.D.Desk.log c.args.desk.now) (g.D.Desk.log c.begin.new.desk)
      (g.D.Desk.log c.finish.new.desk) c.begin.ensures.draws (c.finish.ensures.log.draws c.args.self.now.watcher);
}

pub returns-in-Err-finish-clause-log : goal.returns-in-Err-finish-clause-log
returns-in-Err-finish-clause-log g c = record {
  whole = tt;
  draws = grows_on c.args.self.now.watcher (g.D.Desk.log c.args.desk.now) (g.D.Desk.log c.begin.new.desk)
      (g.D.Desk.log c.finish.new.desk) c.begin.ensures.draws (c.finish.ensures.log.draws c.args.self.now.watcher);
}

pub returns-in-Err-clause-log : goal.returns-in-Err-clause-log
returns-in-Err-clause-log g c = record { whole = tt; draws = c.in-Err.ensures.draws }
