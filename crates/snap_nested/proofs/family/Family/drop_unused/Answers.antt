use Rattle.snap_nested.proofs.Dropping.{losses, members_lost, open_lost, kept_lost}
use Rattle.snap_nested.proofs.Later.{later_lost}
use Rattle.snap_nested.proofs.family.Family.drop_unused.Goals as goal

pub invariant_of-self : goal.invariant_of-self
invariant_of-self c =
    let s = c.args.self.now in
    let ns = c.remove_unused.new.self in
    let count = c.remove_unused.ensures.count in
    let each = c.remove_unused.ensures.each in
    record {
      sound = members_lost c.args.unused.now s.held s.members ns count each s.sound c.requires.root
          c.requires.first c.requires.current;
      listed = open_lost c.args.unused.now s.held s.members ns count each s.listed;
      kept = kept_lost c.args.unused.now s.held s.members ns count each s.kept;
      later = later_lost (losses c.args.unused.now s.held s.members ns count each) c.requires.first s.later;
    }

pub returns-clause-ids : goal.returns-clause-ids
returns-clause-ids c = losses c.args.unused.now c.args.self.now.held c.args.self.now.members
    c.remove_unused.new.self c.remove_unused.ensures.count c.remove_unused.ensures.each
