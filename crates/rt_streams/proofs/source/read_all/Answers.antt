use Rattle.std.proofs.Common.{rules, ◌≡◌, Err, ap, ◌∙◌}
use Rattle.rt_streams.specs.declared.source.ReadStop.TheVariants.{ReadFault, TooLong}
use Rattle.rt_streams.proofs.Pieces.{stops_within, not_past, same_error}
use Rattle.rt_streams.proofs.source.read_all.Goals as goal

pub returns-in_err-read_piece-clause-too_long : goal.returns-in_err-read_piece-clause-too_long
returns-in_err-read_piece-clause-too_long g c =
    let s = c.in_err-read_piece.ensures.stops _ c.loop-all.invariant in
    let e : c.from_residual.result ≡ Err c.in_err-read_piece.field-0.0 = search rules in (
      (λ is. s.too_long.0 (same_error c.in_err-read_piece.field-0.0 TooLong c.from_residual.result e is)),
      (λ past. e ∙ ap (λ stop. Err stop) (s.too_long.1 past)),
    )

pub returns-in_err-read_piece-clause-at_most : goal.returns-in_err-read_piece-clause-at_most
returns-in_err-read_piece-clause-at_most g c =
    (c.in_err-read_piece.ensures.stops _ c.loop-all.invariant).at_most

pub returns-in_err-read_piece-clause-told : goal.returns-in_err-read_piece-clause-told
returns-in_err-read_piece-clause-told g c =
    (c.in_err-read_piece.ensures.stops _ c.loop-all.invariant).told

pub returns-in_err-read_piece-clause-gone : goal.returns-in_err-read_piece-clause-gone
returns-in_err-read_piece-clause-gone g c =
    (c.in_err-read_piece.ensures.stops _ c.loop-all.invariant).gone

pub returns-in_err-read_piece-clause-stopped : goal.returns-in_err-read_piece-clause-stopped
returns-in_err-read_piece-clause-stopped g c other =
    let e : c.from_residual.result ≡ Err c.in_err-read_piece.field-0.0 = search rules in
    (c.in_err-read_piece.ensures.stops _ c.loop-all.invariant).stopped
    (λ is. other (e ∙ ap (λ stop. Err stop) is))

pub returns-in_err-read_piece-clause-fault : goal.returns-in_err-read_piece-clause-fault
returns-in_err-read_piece-clause-fault g c is =
    let e : c.from_residual.result ≡ Err c.in_err-read_piece.field-0.0 = search rules in
    (c.in_err-read_piece.ensures.stops _ c.loop-all.invariant).fault
    (same_error c.in_err-read_piece.field-0.0 ReadFault c.from_residual.result e is)

pub returns-in_err-read_piece-clause-later : goal.returns-in_err-read_piece-clause-later
returns-in_err-read_piece-clause-later g c =
    (c.in_err-read_piece.ensures.stops _ c.loop-all.invariant).later

pub loop-all-preserved : goal.loop-all-preserved
loop-all-preserved g c = c.in_ok-read_piece.ensures.reads _ c.loop-all.invariant

pub returns-clause-bytes : goal.returns-clause-bytes
returns-clause-bytes g c =
    ((c.in_ok-read_piece.ensures.reads _ c.loop-all.invariant).bytes, c.in_ok-read_piece.ensures.ends c.if-branch.false)

pub returns-clause-within : goal.returns-clause-within
returns-clause-within g c =
    let r = c.in_ok-read_piece.ensures.reads _ c.loop-all.invariant in (r.within, r.counts)

pub returns-clause-too_long : goal.returns-clause-too_long
returns-clause-too_long g c =
    let r = c.in_ok-read_piece.ensures.reads _ c.loop-all.invariant in
    ((λ is. absurd (search rules)), (λ past. absurd (not_past c.args.limit _ _ c.read_piece.new.all.items r past)))

pub returns-clause-at_most : goal.returns-clause-at_most
returns-clause-at_most g c =
    let r = c.in_ok-read_piece.ensures.reads _ c.loop-all.invariant in
    (stops_within c.args.limit _ _ c.read_piece.new.all.items r).at_most

pub returns-clause-told : goal.returns-clause-told
returns-clause-told g c =
    let r = c.in_ok-read_piece.ensures.reads _ c.loop-all.invariant in
    (stops_within c.args.limit _ _ c.read_piece.new.all.items r).told

pub returns-clause-gone : goal.returns-clause-gone
returns-clause-gone g c =
    let r = c.in_ok-read_piece.ensures.reads _ c.loop-all.invariant in
    (stops_within c.args.limit _ _ c.read_piece.new.all.items r).gone

pub returns-clause-clean : goal.returns-clause-clean
returns-clause-clean g c = (c.in_ok-read_piece.ensures.reads _ c.loop-all.invariant).clean

pub returns-clause-stopped : goal.returns-clause-stopped
returns-clause-stopped g c other = (c.in_ok-read_piece.ensures.reads _ c.loop-all.invariant).clean

pub returns-clause-later : goal.returns-clause-later
returns-clause-later g c =
    let r = c.in_ok-read_piece.ensures.reads _ c.loop-all.invariant in
    (stops_within c.args.limit _ _ c.read_piece.new.all.items r).later
