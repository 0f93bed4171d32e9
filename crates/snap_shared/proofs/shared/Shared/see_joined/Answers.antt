use Rattle.std.proofs.Common.{arith, ◌∙◌, ap}
use Rattle.snap_shared.specs.Histories.{caller_of, IsWorldAfter}
use Rattle.snap_shared.proofs.SharedHistories.{after_join_hear}
use Rattle.snap_shared.proofs.SplitStates.{splits_note, joins_seat, sees_history}
use Rattle.snap_shared.proofs.shared.Shared.see_joined.Goals as goal

pub split_seat-cut-requires : goal.split_seat-cut-requires
split_seat-cut-requires g c = (
  c.requires.other,
  omega (arith, c.args.self.now.words),
  splits_note caller_of g.W.Versions.log (IsWorldAfter g.W.P.Policy.rules g.W.Versions.stands)
      c.args.self.now.table.shared.key.world.value c.args.self.now.table.shared.key.seats c.args.other.now.id
      c.args.other.now.me.0,
)

pub join_seat-requires : goal.join_seat-requires
join_seat-requires g c =
    let cut = c.split_seat-cut.ensures.4 in (
      c.requires.one.0,
      c.split_seat-cut.ensures.3 ∙ c.requires.other,
      ap (λ m. m.1) cut,
      omega (arith, c.args.self.now.words),
      joins_seat caller_of g.W.Versions.log (IsWorldAfter g.W.P.Policy.rules g.W.Versions.stands)
          c.args.self.now.table.shared.key.world.value c.args.self.now.table.shared.key.seats c.args.one.now.id
          c.args.one.now.me.0 c.split_seat-cut.result.id c.split_seat-cut.result.me.0 (ap (λ m. m.0.phase) cut),
    )

pub load-requires : goal.load-requires
load-requires g c = (
  c.join_seat.ensures.0 ∙ c.requires.one.0,
  omega (arith, c.args.self.now.words),
  sees_history caller_of g.W.Versions.log (IsWorldAfter g.W.P.Policy.rules g.W.Versions.stands)
      c.args.self.now.table.shared.key.world.value c.args.self.now.table.shared.key.seats
      c.args.self.now.table.shared.table_id.slots c.join_seat.new.seat.id c.join_seat.new.seat.me
      (ap (λ m. m.0.phase) c.join_seat.ensures.2 ∙ c.requires.one.1),
)

pub returns-clause-one : goal.returns-clause-one
returns-clause-one g c =
    after_join_hear (IsWorldAfter g.W.P.Policy.rules g.W.Versions.stands) c.args.one.now.me c.args.other.now.me
    c.split_seat-cut.result.me c.join_seat.new.seat.me c.load.new.seat.me c.load.result c.split_seat-cut.ensures.4
    c.join_seat.ensures.2 c.load.ensures.2
