use Rattle.std.proofs.Common.{rules, ◌≡◌, ◌++◌, Err, take, refl, arith}
use Rattle.std.proofs.lemmas.Grind.{common_steps}
use Rattle.rt_streams.specs.declared.source.ReadStop.TheVariants.{ReadFault, NoMemory}
use Rattle.rt_streams.proofs.Pieces.{piece_read, piece_fault, piece_past, piece_lost, piece_none}
use Rattle.rt_streams.proofs.source.read_piece.Goals as goal

pub returns-in_default-clause-stops : goal.returns-in_default-clause-stops
returns-in_default-clause-stops g c before read =
    let failed = c.in_default.ensures in
    piece_fault c.args.limit before _ _ c.args.all.now.items read failed.err failed.err_counts failed.cause.failed
    failed.cause.later (Err ReadFault) refl

pub returns-then-count-eq0-clause-reads : goal.returns-then-count-eq0-clause-reads
returns-then-count-eq0-clause-reads g c before read =
    let r = c.in-Ok.ensures in
    piece_none c.args.limit before _ _ c.args.all.now.items c.read.new.buf c.in-Ok.count c.if-count-eq0.true read
    (record { bound = r.bound; bytes = r.bytes.bytes; counts = r.counts; clean = r.clean })
    c.ranges.limit.fits

pub returns-then-count-room-clause-stops : goal.returns-then-count-room-clause-stops
returns-then-count-room-clause-stops g c before read =
    let r = c.in-Ok.ensures in
    piece_past c.args.limit before _ _ c.args.all.now.items c.read.new.buf c.in-Ok.count read
    (record { bound = r.bound; bytes = r.bytes.bytes; counts = r.counts; clean = r.clean })
    (grind (arith, common_steps)) (grind (arith, common_steps)) (grind (arith, common_steps))

pub returns-in_err-extend_from_slice-clause-stops : goal.returns-in_err-extend_from_slice-clause-stops
returns-in_err-extend_from_slice-clause-stops g c before read =
    let r = c.in-Ok.ensures in
    let e : c.from_residual.result ≡ Err NoMemory = search rules in
    piece_lost c.args.limit before _ _ c.args.all.now.items c.read.new.buf c.in-Ok.count read
    (record { bound = r.bound; bytes = r.bytes.bytes; counts = r.counts; clean = r.clean })
    c.ranges.limit.fits (grind (arith, common_steps)) c.from_residual.result e

pub returns-clause-reads : goal.returns-clause-reads
returns-clause-reads g c before read =
    let r = c.in-Ok.ensures in
    let e : c.extend_from_slice.new.self.items ≡ c.args.all.now.items ++ take c.in-Ok.count c.read.new.buf =
    search rules in
    piece_read c.args.limit before _ _ c.args.all.now.items c.read.new.buf c.in-Ok.count read
    (record { bound = r.bound; bytes = r.bytes.bytes; counts = r.counts; clean = r.clean }) c.ranges.limit.fits
    (grind (arith, common_steps)) c.extend_from_slice.new.self.items e
