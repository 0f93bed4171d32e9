use Rattle.std.proofs.Common.{refl}
use Rattle.snap_api.specs.declared.data.Reply.TheVariants as reply
use Rattle.snap_api.specs.declared.data.Request.TheVariants.{TakeFor}
use Rattle.snap_shared.specs.SeatDesk.{SeesMap}
use Rattle.snap_shared.proofs.DeskAnswers.{asks_none, view_further, view_log, view_alone, view_took, view_shown, view_still, view_refused, view_spent, view_spent_bad}
use Rattle.snap_shared.proofs.seat_view.SeatViewDesk.take_for.Goals as goal

pub returns-in-Ok-clause-log : goal.returns-in-Ok-clause-log
returns-in-Ok-clause-log g c = view_log g.W.P.Policy.rules g.met.W.P.Policy.merge_keeps_type g.W.Versions.stands
    c.args.self.now.shared.now.table.shared.key.world.value c.args.self.now.seat.number c.take_for.new.seat.number
    c.args.self.now.seat.seat.me.0.seen c.take_for.new.seat.seat.me.0.seen c.take_for.ensures.number
    (TakeFor c.args.watcher) (reply.TakenFor c.in-Ok.name c.in-Ok.changed) c.in-Ok.ensures.call

pub returns-in-Ok-clause-took : goal.returns-in-Ok-clause-took
returns-in-Ok-clause-took g c types l h alone = view_took g.W.P.Policy.rules g.met.W.P.Policy.merge_keeps_type
    g.W.Versions.stands c.args.self.now.shared.now.table.shared.key.world.value c.args.self.now.seat.number
    c.take_for.new.seat.number c.args.self.now.seat.seat.me.0.seen c.take_for.new.seat.seat.me.0.seen
    c.take_for.ensures.number c.args.watcher c.in-Ok.name c.in-Ok.changed types l c.in-Ok.ensures.call h alone

pub returns-in-Ok-clause-spent : goal.returns-in-Ok-clause-spent
returns-in-Ok-clause-spent g c k h = view_spent g.W.P.Policy.rules g.met.W.P.Policy.merge_keeps_type g.W.Versions.stands
    c.args.self.now.shared.now.table.shared.key.world.value c.args.self.now.seat.number c.take_for.new.seat.number
    c.args.self.now.seat.seat.me.0.seen c.take_for.new.seat.seat.me.0.seen c.take_for.ensures.number c.args.watcher
    c.in-Ok.name c.in-Ok.changed k c.in-Ok.ensures.call h

pub returns-in-Ok-clause-alone : goal.returns-in-Ok-clause-alone
returns-in-Ok-clause-alone g c n alone = view_alone g.W.P.Policy.rules g.met.W.P.Policy.merge_keeps_type
    g.W.Versions.stands c.args.self.now.shared.now.table.shared.key.world.value c.args.self.now.seat.number
    c.take_for.new.seat.number c.args.self.now.seat.seat.me.0.seen c.take_for.new.seat.seat.me.0.seen
    c.take_for.ensures.number (TakeFor c.args.watcher) (reply.TakenFor c.in-Ok.name c.in-Ok.changed)
    c.in-Ok.ensures.call n alone

pub returns-in-Ok-clause-asks : goal.returns-in-Ok-clause-asks
returns-in-Ok-clause-asks g c = asks_none g.W.P.Policy.rules g.met.W.P.Policy.merge_keeps_type g.W.Versions.stands
    c.args.self.now.shared.now.table.shared.key.world.value c.args.self.now.seat.number c.take_for.new.seat.number
    c.args.self.now.seat.seat.me.0.seen c.take_for.new.seat.seat.me.0.seen c.take_for.ensures.number
    (TakeFor c.args.watcher) (reply.TakenFor c.in-Ok.name c.in-Ok.changed) c.in-Ok.ensures.call refl

pub returns-in-Err-clause-log : goal.returns-in-Err-clause-log
returns-in-Err-clause-log g c = view_log g.W.P.Policy.rules g.met.W.P.Policy.merge_keeps_type g.W.Versions.stands
    c.args.self.now.shared.now.table.shared.key.world.value c.args.self.now.seat.number c.take_for.new.seat.number
    c.args.self.now.seat.seat.me.0.seen c.take_for.new.seat.seat.me.0.seen c.take_for.ensures.number
    (TakeFor c.args.watcher) (reply.Refused c.in-Err.refusal) c.in-Err.ensures.call

pub returns-in-Err-clause-took : goal.returns-in-Err-clause-took
returns-in-Err-clause-took g c types l h alone = view_refused g.W.P.Policy.rules g.met.W.P.Policy.merge_keeps_type
    g.W.Versions.stands c.args.self.now.shared.now.table.shared.key.world.value c.args.self.now.seat.number
    c.take_for.new.seat.number c.args.self.now.seat.seat.me.0.seen c.take_for.new.seat.seat.me.0.seen
    c.take_for.ensures.number c.args.watcher
    (λ m. SeesMap g.W.P.Policy.rules (g.W.Versions.stands c.args.self.now.shared.now.table.shared.key.world.value)
    c.take_for.new.seat.seat.me.0.seen c.take_for.new.seat.number c.args.self.now.opened m) c.in-Err.refusal types l
    c.in-Err.ensures.call h alone

pub returns-in-Err-clause-spent : goal.returns-in-Err-clause-spent
returns-in-Err-clause-spent g c k h = view_spent_bad g.W.P.Policy.rules g.met.W.P.Policy.merge_keeps_type
    g.W.Versions.stands c.args.self.now.shared.now.table.shared.key.world.value c.args.self.now.seat.number
    c.take_for.new.seat.number c.args.self.now.seat.seat.me.0.seen c.take_for.new.seat.seat.me.0.seen
    c.take_for.ensures.number c.args.watcher c.in-Err.refusal k c.in-Err.ensures.call h

pub returns-in-Err-clause-alone : goal.returns-in-Err-clause-alone
returns-in-Err-clause-alone g c n alone = view_alone g.W.P.Policy.rules g.met.W.P.Policy.merge_keeps_type
    g.W.Versions.stands c.args.self.now.shared.now.table.shared.key.world.value c.args.self.now.seat.number
    c.take_for.new.seat.number c.args.self.now.seat.seat.me.0.seen c.take_for.new.seat.seat.me.0.seen
    c.take_for.ensures.number (TakeFor c.args.watcher) (reply.Refused c.in-Err.refusal) c.in-Err.ensures.call n alone

pub returns-in-Err-clause-asks : goal.returns-in-Err-clause-asks
returns-in-Err-clause-asks g c = asks_none g.W.P.Policy.rules g.met.W.P.Policy.merge_keeps_type g.W.Versions.stands
    c.args.self.now.shared.now.table.shared.key.world.value c.args.self.now.seat.number c.take_for.new.seat.number
    c.args.self.now.seat.seat.me.0.seen c.take_for.new.seat.seat.me.0.seen c.take_for.ensures.number
    (TakeFor c.args.watcher) (reply.Refused c.in-Err.refusal) c.in-Err.ensures.call refl

pub returns-in-Ok-clause-shown : goal.returns-in-Ok-clause-shown
returns-in-Ok-clause-shown g c types l h = view_shown g.W.P.Policy.rules g.met.W.P.Policy.merge_keeps_type
    g.W.Versions.stands c.args.self.now.shared.now.table.shared.key.world.value c.args.self.now.seat.number
    c.take_for.new.seat.number c.args.self.now.seat.seat.me.0.seen c.take_for.new.seat.seat.me.0.seen
    c.take_for.ensures.number c.args.watcher c.in-Ok.name c.in-Ok.changed types l c.in-Ok.ensures.call h

pub returns-in-Err-clause-still : goal.returns-in-Err-clause-still
returns-in-Err-clause-still g c m h = view_still g.W.P.Policy.rules g.met.W.P.Policy.merge_keeps_type
    g.W.Versions.stands c.args.self.now.shared.now.table.shared.key.world.value c.args.self.now.seat.number
    c.take_for.new.seat.number c.args.self.now.seat.seat.me.0.seen c.take_for.new.seat.seat.me.0.seen
    c.take_for.ensures.number (TakeFor c.args.watcher) c.in-Err.refusal c.in-Err.ensures.call c.args.self.now.opened m h

pub returns-in-Ok-clause-lends : goal.returns-in-Ok-clause-lends
returns-in-Ok-clause-lends g c = (
  refl,
  c.take_for.ensures.number,
  view_further g.W.P.Policy.rules g.met.W.P.Policy.merge_keeps_type g.W.Versions.stands
      c.args.self.now.shared.now.table.shared.key.world.value c.args.self.now.seat.number c.take_for.new.seat.number
      c.args.self.now.seat.seat.me.0.seen c.take_for.new.seat.seat.me.0.seen c.take_for.ensures.number
      (TakeFor c.args.watcher) (reply.TakenFor c.in-Ok.name c.in-Ok.changed) c.in-Ok.ensures.call,
)

pub returns-in-Err-clause-lends : goal.returns-in-Err-clause-lends
returns-in-Err-clause-lends g c = (
  refl,
  c.take_for.ensures.number,
  view_further g.W.P.Policy.rules g.met.W.P.Policy.merge_keeps_type g.W.Versions.stands
      c.args.self.now.shared.now.table.shared.key.world.value c.args.self.now.seat.number c.take_for.new.seat.number
      c.args.self.now.seat.seat.me.0.seen c.take_for.new.seat.seat.me.0.seen c.take_for.ensures.number
      (TakeFor c.args.watcher) (reply.Refused c.in-Err.refusal) c.in-Err.ensures.call,
)
