use Rattle.std.proofs.Common.{◌≡◌, drop}
use Rattle.snap_records.specs.Chains.{chain_of}
use Rattle.snap_reuse.specs.Readers.{is_read}
use Rattle.snap_reuse.proofs.reuse.is_read.Given as goal

abbrev pub invariant-loop-reader : goal.invariant-loop-reader
invariant-loop-reader l = is_read (chain_of l.chains l.x) l.id (drop l.reader-index l.reader-items)
    ≡ is_read (chain_of l.chains l.x) l.id l.readers
