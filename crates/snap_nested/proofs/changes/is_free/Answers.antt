use Rattle.snap_nested.proofs.Later.{free_unless_seen}
use Rattle.snap_nested.proofs.changes.is_free.Goals as goal

pub returns : goal.returns
returns c = free_unless_seen c.args.names.now c.args.members.now c.args.index c.in-Some.member.now c.is_empty.result
    c.is_seen_from.result c.requires.open_names c.requires.rising c.requires.later c.requires.there
    c.in-Some.ensures.some c.if-member.false c.is_empty.ensures c.if-is_empty.false
    c.is_seen_from.ensures
