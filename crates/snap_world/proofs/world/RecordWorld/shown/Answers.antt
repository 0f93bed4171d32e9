use Rattle.std.proofs.Common.{List, ap, ◌∙◌}
use Rattle.snap_records.specs.Records.{Rec}
use Rattle.snap_records.specs.Edits.{readable}
use Rattle.snap_nested.specs.Members.{member}
use Rattle.snap_ids.specs.IdLists.{is_valid}
use Rattle.snap_nested.specs.declared.family.Member.{Member}
use Rattle.snap_records.specs.Chains.{chain_of}
use Rattle.snap_world.proofs.Reading.{found_reads, found_none}
use Rattle.snap_world.proofs.world.RecordWorld.shown.Goals as goal

pub returns-clause-is : goal.returns-clause-is
returns-clause-is g c =
    let s = c.args.self.now in
    let m : Member = member s.family.members c.args.name in
    let chain : List Rec = chain_of s.chains c.args.object in
    found_reads s.chains c.args.object m.id m.invalid c.readable.result
    (c.readable.ensures.is ∙ ap (λ (o : Member). readable (is_valid o.id o.invalid) chain) c.member-member.ensures)

pub returns-clause-none : goal.returns-clause-none
returns-clause-none g c =
    let s = c.args.self.now in
    let m : Member = member s.family.members c.args.name in
    let chain : List Rec = chain_of s.chains c.args.object in
    found_none s.chains c.args.object m.id m.invalid c.readable.result
    (c.readable.ensures.is ∙ ap (λ (o : Member). readable (is_valid o.id o.invalid) chain) c.member-member.ensures)
