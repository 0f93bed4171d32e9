use Rattle.std.proofs.Common.{◌≡◌, refl, sym, subst, ◌∙◌, ℕ, Some}
use Rattle.std.proofs.lemmas.Option.{same_Some as some_same}
use Rattle.snap_api.specs.Calls.{Logs}
use Rattle.snap_api.specs.declared.data.Reply.TheVariants as reply
use Rattle.snap_api.specs.declared.data.Request.TheVariants.{Dispose}
use Rattle.snap_shared.specs.SharedCalls.{own_calls}
use Rattle.snap_shared.proofs.DeskAnswers.{asks_none, view_further, view_log, view_alone, view_last, view_last_bad, view_still, view_own}
use Rattle.snap_shared.proofs.seat_view.SeatViewDesk.dispose.Goals as goal

pub returns-in-Ok-clause-log : goal.returns-in-Ok-clause-log
returns-in-Ok-clause-log g c name is =
    subst (λ (k : ℕ). Logs (Some (own_calls c.args.self.now.seat.number c.args.self.now.seat.seat.me.0.seen))
    (Some (own_calls c.dispose.new.seat.number c.dispose.new.seat.seat.me.0.seen)) c.args.self.now.seat.number
    (Dispose k) reply.Disposed) (some_same c.in-Some.name name (sym c.in-Some.is ∙ is))
    (view_log g.W.P.Policy.rules g.met.W.P.Policy.merge_keeps_type g.W.Versions.stands
    c.args.self.now.shared.now.table.shared.key.world.value c.args.self.now.seat.number c.dispose.new.seat.number
    c.args.self.now.seat.seat.me.0.seen c.dispose.new.seat.seat.me.0.seen c.dispose.ensures.number
    (Dispose c.in-Some.name) reply.Disposed c.in-Ok.ensures.call)

pub returns-in-Ok-clause-last : goal.returns-in-Ok-clause-last
returns-in-Ok-clause-last g c n types l h alone = view_last g.W.P.Policy.rules g.met.W.P.Policy.merge_keeps_type
    g.W.Versions.stands c.args.self.now.shared.now.table.shared.key.world.value c.args.self.now.seat.number
    c.dispose.new.seat.number c.args.self.now.seat.seat.me.0.seen c.dispose.new.seat.seat.me.0.seen
    c.dispose.ensures.number c.in-Some.name n types l c.in-Ok.ensures.call h alone

pub returns-in-Ok-clause-alone : goal.returns-in-Ok-clause-alone
returns-in-Ok-clause-alone g c n alone = view_alone g.W.P.Policy.rules g.met.W.P.Policy.merge_keeps_type
    g.W.Versions.stands c.args.self.now.shared.now.table.shared.key.world.value c.args.self.now.seat.number
    c.dispose.new.seat.number c.args.self.now.seat.seat.me.0.seen c.dispose.new.seat.seat.me.0.seen
    c.dispose.ensures.number (Dispose c.in-Some.name) reply.Disposed c.in-Ok.ensures.call n alone

pub returns-in-Ok-clause-asks : goal.returns-in-Ok-clause-asks
returns-in-Ok-clause-asks g c = asks_none g.W.P.Policy.rules g.met.W.P.Policy.merge_keeps_type g.W.Versions.stands
    c.args.self.now.shared.now.table.shared.key.world.value c.args.self.now.seat.number c.dispose.new.seat.number
    c.args.self.now.seat.seat.me.0.seen c.dispose.new.seat.seat.me.0.seen c.dispose.ensures.number
    (Dispose c.in-Some.name) reply.Disposed c.in-Ok.ensures.call refl

pub returns-in-Err-clause-log : goal.returns-in-Err-clause-log
returns-in-Err-clause-log g c name is =
    subst (λ (k : ℕ). Logs (Some (own_calls c.args.self.now.seat.number c.args.self.now.seat.seat.me.0.seen))
    (Some (own_calls c.dispose.new.seat.number c.dispose.new.seat.seat.me.0.seen)) c.args.self.now.seat.number
    (Dispose k) (reply.Refused c.in-Err.refusal)) (some_same c.in-Some.name name (sym c.in-Some.is ∙ is))
    (view_log g.W.P.Policy.rules g.met.W.P.Policy.merge_keeps_type g.W.Versions.stands
    c.args.self.now.shared.now.table.shared.key.world.value c.args.self.now.seat.number c.dispose.new.seat.number
    c.args.self.now.seat.seat.me.0.seen c.dispose.new.seat.seat.me.0.seen c.dispose.ensures.number
    (Dispose c.in-Some.name) (reply.Refused c.in-Err.refusal) c.in-Err.ensures.call)

pub returns-in-Err-clause-last : goal.returns-in-Err-clause-last
returns-in-Err-clause-last g c n types l h alone = view_last_bad g.W.P.Policy.rules g.met.W.P.Policy.merge_keeps_type
    g.W.Versions.stands c.args.self.now.shared.now.table.shared.key.world.value c.args.self.now.seat.number
    c.dispose.new.seat.number c.args.self.now.seat.seat.me.0.seen c.dispose.new.seat.seat.me.0.seen
    c.dispose.ensures.number c.in-Some.name c.in-Err.refusal n types l c.in-Err.ensures.call h alone

pub returns-in-Err-clause-alone : goal.returns-in-Err-clause-alone
returns-in-Err-clause-alone g c n alone = view_alone g.W.P.Policy.rules g.met.W.P.Policy.merge_keeps_type
    g.W.Versions.stands c.args.self.now.shared.now.table.shared.key.world.value c.args.self.now.seat.number
    c.dispose.new.seat.number c.args.self.now.seat.seat.me.0.seen c.dispose.new.seat.seat.me.0.seen
    c.dispose.ensures.number (Dispose c.in-Some.name) (reply.Refused c.in-Err.refusal) c.in-Err.ensures.call n alone

pub returns-in-Err-clause-asks : goal.returns-in-Err-clause-asks
returns-in-Err-clause-asks g c = asks_none g.W.P.Policy.rules g.met.W.P.Policy.merge_keeps_type g.W.Versions.stands
    c.args.self.now.shared.now.table.shared.key.world.value c.args.self.now.seat.number c.dispose.new.seat.number
    c.args.self.now.seat.seat.me.0.seen c.dispose.new.seat.seat.me.0.seen c.dispose.ensures.number
    (Dispose c.in-Some.name) (reply.Refused c.in-Err.refusal) c.in-Err.ensures.call refl

pub returns-in-Err-clause-disposed : goal.returns-in-Err-clause-disposed
returns-in-Err-clause-disposed g c m name h is inner =
    let own = view_own g.W.P.Policy.rules g.met.W.P.Policy.merge_keeps_type g.W.Versions.stands
    c.args.self.now.shared.now.table.shared.key.world.value c.args.self.now.seat.number c.dispose.new.seat.number
    c.args.self.now.seat.seat.me.0.seen c.dispose.new.seat.seat.me.0.seen c.dispose.ensures.number c.in-Some.name
    c.args.self.now.opened c.in-Some.is m h in
    c.in-Err.ensures.own own.0 own.1 own.2

pub returns-in-Err-clause-still : goal.returns-in-Err-clause-still
returns-in-Err-clause-still g c m h = view_still g.W.P.Policy.rules g.met.W.P.Policy.merge_keeps_type
    g.W.Versions.stands c.args.self.now.shared.now.table.shared.key.world.value c.args.self.now.seat.number
    c.dispose.new.seat.number c.args.self.now.seat.seat.me.0.seen c.dispose.new.seat.seat.me.0.seen
    c.dispose.ensures.number (Dispose c.in-Some.name) c.in-Err.refusal c.in-Err.ensures.call c.args.self.now.opened m h

pub returns-in-Ok-clause-lends : goal.returns-in-Ok-clause-lends
returns-in-Ok-clause-lends g c = (
  refl,
  c.dispose.ensures.number,
  view_further g.W.P.Policy.rules g.met.W.P.Policy.merge_keeps_type g.W.Versions.stands
      c.args.self.now.shared.now.table.shared.key.world.value c.args.self.now.seat.number c.dispose.new.seat.number
      c.args.self.now.seat.seat.me.0.seen c.dispose.new.seat.seat.me.0.seen c.dispose.ensures.number
      (Dispose c.in-Some.name) reply.Disposed c.in-Ok.ensures.call,
)

pub returns-in-Err-clause-lends : goal.returns-in-Err-clause-lends
returns-in-Err-clause-lends g c = (
  refl,
  c.dispose.ensures.number,
  view_further g.W.P.Policy.rules g.met.W.P.Policy.merge_keeps_type g.W.Versions.stands
      c.args.self.now.shared.now.table.shared.key.world.value c.args.self.now.seat.number c.dispose.new.seat.number
      c.args.self.now.seat.seat.me.0.seen c.dispose.new.seat.seat.me.0.seen c.dispose.ensures.number
      (Dispose c.in-Some.name) (reply.Refused c.in-Err.refusal) c.in-Err.ensures.call,
)
