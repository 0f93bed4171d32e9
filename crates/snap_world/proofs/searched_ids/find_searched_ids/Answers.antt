use Rattle.snap_records.specs.Chains.{chain_of}
use Rattle.snap_world.proofs.searched_ids.find_searched_ids.Goals as goal

pub returns-clause-read : goal.returns-clause-read
returns-clause-read c = λ owned.
    c.in_ok-find_ids_in.ensures.read (chain_of c.args.chains.now c.args.x) c.in_ok-order.ensures owned

pub returns-clause-needed : goal.returns-clause-needed
returns-clause-needed c = λ owned.
    c.in_ok-find_ids_in.ensures.needed (chain_of c.args.chains.now c.args.x) c.in_ok-order.ensures owned
