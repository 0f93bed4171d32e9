use Rattle.std.proofs.Common.{◌∷◌, [], refl, ap}
use Rattle.snap_api.specs.Calls.{read_reply, is_no_memory}
use Rattle.snap_api.specs.declared.data.Reply.TheVariants as reply
use Rattle.snap_shared.specs.HistoryEffects.{keeps_itself}
use Rattle.snap_shared.proofs.DeskAnswers.{view_keeps, view_same, view_asks, view_part, view_got, view_unknown}
use Rattle.snap_shared.proofs.seat_view.SeatViewView.read.Goals as goal

pub returns-in_default-clause-part : goal.returns-in_default-clause-part
returns-in_default-clause-part g c = record { rest = c.args.x ∷ []; is = refl }

pub returns-in_default-clause-keeps : goal.returns-in_default-clause-keeps
returns-in_default-clause-keeps g c = (refl, keeps_itself g.W.P.Policy.rules _ _ _ _)

pub returns-in-Ok-clause-value : goal.returns-in-Ok-clause-value
returns-in-Ok-clause-value g c m h = view_got g.W.P.Policy.rules g.met.W.P.Policy.merge_keeps_type g.W.Versions.stands
    c.args.self.now.shared.now.table.shared.key.world.value c.args.self.now.seat.number c.read.new.seat.number
    c.args.self.now.seat.seat.me.0.seen c.read.new.seat.seat.me.0.seen c.in-Some.name c.args.x (reply.Got c.in-Ok.value)
    c.in-Ok.ensures.call c.read.ensures.number c.args.self.now.opened c.in-Some.is m h c.in-Ok.value refl

pub returns-in-Ok-clause-same : goal.returns-in-Ok-clause-same
returns-in-Ok-clause-same g c m h = view_same g.W.P.Policy.rules g.met.W.P.Policy.merge_keeps_type g.W.Versions.stands
    c.args.self.now.shared.now.table.shared.key.world.value c.args.self.now.seat.number c.read.new.seat.number
    c.args.self.now.seat.seat.me.0.seen c.read.new.seat.seat.me.0.seen c.in-Some.name c.args.x (reply.Got c.in-Ok.value)
    c.in-Ok.ensures.call c.read.ensures.number c.args.self.now.opened c.in-Some.is m h

pub returns-in-Ok-clause-asks : goal.returns-in-Ok-clause-asks
returns-in-Ok-clause-asks g c = view_asks g.W.P.Policy.rules g.met.W.P.Policy.merge_keeps_type g.W.Versions.stands
    c.args.self.now.shared.now.table.shared.key.world.value c.args.self.now.seat.number c.read.new.seat.number
    c.args.self.now.seat.seat.me.0.seen c.read.new.seat.seat.me.0.seen c.in-Some.name c.args.x (reply.Got c.in-Ok.value)
    c.in-Ok.ensures.call c.read.ensures.number c.args.self.now.opened c.in-Some.is refl

pub returns-in-Ok-clause-keeps : goal.returns-in-Ok-clause-keeps
returns-in-Ok-clause-keeps g c = (
  refl,
  view_keeps g.W.P.Policy.rules g.met.W.P.Policy.merge_keeps_type
      g.W.Versions.stands c.args.self.now.shared.now.table.shared.key.world.value c.args.self.now.seat.number
      c.read.new.seat.number c.args.self.now.seat.seat.me.0.seen c.read.new.seat.seat.me.0.seen c.in-Some.name c.args.x
      (reply.Got c.in-Ok.value) c.in-Ok.ensures.call c.read.ensures.number c.args.self.now.opened c.in-Some.is,
)

pub returns-in-Err-UnknownObject-clause-value : goal.returns-in-Err-UnknownObject-clause-value
returns-in-Err-UnknownObject-clause-value g c m h = view_unknown g.W.P.Policy.rules g.met.W.P.Policy.merge_keeps_type
    g.W.Versions.stands c.args.self.now.shared.now.table.shared.key.world.value c.args.self.now.seat.number
    c.read.new.seat.number c.args.self.now.seat.seat.me.0.seen c.read.new.seat.seat.me.0.seen c.in-Some.name c.args.x
    (reply.Refused c.in-Err-UnknownObject.field-0) c.in-Err-UnknownObject.ensures.call c.read.ensures.number
    c.args.self.now.opened c.in-Some.is m h (ap (λ e. reply.Refused e) c.in-Err-UnknownObject.field-0-is)

pub returns-in-Err-UnknownObject-clause-same : goal.returns-in-Err-UnknownObject-clause-same
returns-in-Err-UnknownObject-clause-same g c m h = view_same g.W.P.Policy.rules g.met.W.P.Policy.merge_keeps_type
    g.W.Versions.stands c.args.self.now.shared.now.table.shared.key.world.value c.args.self.now.seat.number
    c.read.new.seat.number c.args.self.now.seat.seat.me.0.seen c.read.new.seat.seat.me.0.seen c.in-Some.name c.args.x
    (reply.Refused c.in-Err-UnknownObject.field-0) c.in-Err-UnknownObject.ensures.call c.read.ensures.number
    c.args.self.now.opened c.in-Some.is m h

pub returns-in-Err-UnknownObject-clause-asks : goal.returns-in-Err-UnknownObject-clause-asks
returns-in-Err-UnknownObject-clause-asks g c = view_asks g.W.P.Policy.rules g.met.W.P.Policy.merge_keeps_type
    g.W.Versions.stands c.args.self.now.shared.now.table.shared.key.world.value c.args.self.now.seat.number
    c.read.new.seat.number c.args.self.now.seat.seat.me.0.seen c.read.new.seat.seat.me.0.seen c.in-Some.name c.args.x
    (reply.Refused c.in-Err-UnknownObject.field-0) c.in-Err-UnknownObject.ensures.call c.read.ensures.number
    c.args.self.now.opened c.in-Some.is (ap (λ e. is_no_memory (reply.Refused e)) c.in-Err-UnknownObject.field-0-is)

pub returns-in-Err-UnknownObject-clause-keeps : goal.returns-in-Err-UnknownObject-clause-keeps
returns-in-Err-UnknownObject-clause-keeps g c = (
  refl,
  view_keeps g.W.P.Policy.rules g.met.W.P.Policy.merge_keeps_type g.W.Versions.stands
      c.args.self.now.shared.now.table.shared.key.world.value c.args.self.now.seat.number c.read.new.seat.number
      c.args.self.now.seat.seat.me.0.seen c.read.new.seat.seat.me.0.seen c.in-Some.name c.args.x
      (reply.Refused c.in-Err-UnknownObject.field-0) c.in-Err-UnknownObject.ensures.call c.read.ensures.number
      c.args.self.now.opened c.in-Some.is,
)

pub returns-in-Err : goal.returns-in-Err
returns-in-Err g c = record {
  value = λ m h. tt;
  same = λ m h. view_same g.W.P.Policy.rules g.met.W.P.Policy.merge_keeps_type g.W.Versions.stands
      c.args.self.now.shared.now.table.shared.key.world.value c.args.self.now.seat.number c.read.new.seat.number
      c.args.self.now.seat.seat.me.0.seen c.read.new.seat.seat.me.0.seen c.in-Some.name c.args.x
      (read_reply c.read.result) c.read.ensures.call c.read.ensures.number c.args.self.now.opened c.in-Some.is m h;
  asks = tt;
  free = λ m h never flat. never;
  part = view_part g.W.P.Policy.rules g.met.W.P.Policy.merge_keeps_type g.W.Versions.stands
      c.args.self.now.shared.now.table.shared.key.world.value c.args.self.now.seat.number c.read.new.seat.number
      c.args.self.now.seat.seat.me.0.seen c.read.new.seat.seat.me.0.seen c.in-Some.name c.args.x
      (read_reply c.read.result) c.read.ensures.call c.read.ensures.number c.args.self.now.opened c.in-Some.is;
  keeps = (
    refl,
    view_keeps g.W.P.Policy.rules g.met.W.P.Policy.merge_keeps_type g.W.Versions.stands
        c.args.self.now.shared.now.table.shared.key.world.value c.args.self.now.seat.number c.read.new.seat.number
        c.args.self.now.seat.seat.me.0.seen c.read.new.seat.seat.me.0.seen c.in-Some.name c.args.x
        (read_reply c.read.result) c.read.ensures.call c.read.ensures.number c.args.self.now.opened c.in-Some.is,
  );
}
