use Rattle.std.proofs.Common.{List, ap, sym, subst, option_map, IfSome, ◌∙◌}
use Rattle.std.specs.Prelude.{IsSome}
use Rattle.slab.specs.Slab.{get}
use Rattle.snap_nested.specs.Members.{member}
use Rattle.snap_nested.specs.declared.family.Member.{Member}
use Rattle.snap_ids.specs.IdLists.{is_valid}
use Rattle.snap_records.specs.Records.{Rec}
use Rattle.snap_records.specs.Edits.{readable, is_valid_except}
use Rattle.snap_records.specs.Chains.{record_at, chain_of}
use Rattle.snap_records.proofs.Readable.{read_none}
use Rattle.snap_world.proofs.Reading.{entry_found}
use Rattle.snap_world.proofs.world.RecordWorld.find_read.Goals as goal

pub returns-in_default-clause-none : goal.returns-in_default-clause-none
returns-in_default-clause-none g c = λ w s inner.
    let m : Member = member c.args.self.now.family.members c.args.name in
    let chain : List Rec = chain_of c.args.self.now.chains c.args.object in
    read_none (is_valid_except m.ids m.id m.invalid) chain _
    (ap (λ o. option_map (λ b. record_at c.args.self.now.chains b.0) o) (sym c.in_default.is)
    ∙ c.readable_both-both.ensures.base
    ∙ ap (λ (o : Member). readable (is_valid_except o.ids o.id o.invalid) chain) c.member-member.ensures)
    (s.kept.shown.bases c.args.name c.args.object c.requires.live inner c.requires.there)

pub returns-in_default-readable-clause-none : goal.returns-in_default-readable-clause-none
returns-in_default-readable-clause-none g c = λ w s inner.
    let m : Member = member c.args.self.now.family.members c.args.into in
    let chain : List Rec = chain_of c.args.self.now.chains c.args.object in
    read_none (is_valid m.id m.invalid) chain _
    (c.in_default-readable.ensures.is
    ∙ ap (λ (o : Member). readable (is_valid o.id o.invalid) chain) c.member-above.ensures)
    (s.kept.shown.views c.args.into c.args.object c.requires.above c.requires.there)

pub returns-in_default-0₀-clause-none : goal.returns-in_default-0₀-clause-none
returns-in_default-0₀-clause-none g c = λ w s inner.
    let m : Member = member c.args.self.now.family.members c.args.name in
    let chain : List Rec = chain_of c.args.self.now.chains c.args.object in
    read_none (is_valid m.id m.invalid) chain _
    (ap (λ o. option_map (λ b. record_at c.args.self.now.chains b.0) o) (sym c.in_default-0₀.is)
    ∙ c.readable_both-both.ensures.view
    ∙ ap (λ (o : Member). readable (is_valid o.id o.invalid) chain) c.member-member.ensures)
    (s.kept.shown.views c.args.name c.args.object c.requires.live c.requires.there)

pub returns-clause-is : goal.returns-clause-is
returns-clause-is g c =
    let m : Member = member c.args.self.now.family.members c.args.name in
    let p : Member = member c.args.self.now.family.members c.args.into in
    let chain : List Rec = chain_of c.args.self.now.chains c.args.object in
    record {
      previous = entry_found (is_valid_except m.ids m.id m.invalid) chain
          (record_at c.args.self.now.chains c.in-Some.previous.0)
          (ap (λ o. option_map (λ b. record_at c.args.self.now.chains b.0) o) (sym c.in-Some.is)
          ∙ c.readable_both-both.ensures.base
          ∙ ap (λ (o : Member). readable (is_valid_except o.ids o.id o.invalid) chain) c.member-member.ensures);
      current = entry_found (is_valid p.id p.invalid) chain
          (record_at c.args.self.now.chains c.in-Some-readable.current.0)
          (c.in-Some-readable.ensures.is
          ∙ ap (λ (o : Member). readable (is_valid o.id o.invalid) chain) c.member-above.ensures);
      applied = entry_found (is_valid m.id m.invalid) chain (record_at c.args.self.now.chains c.in-Some-0₀.applied.0)
          (ap (λ o. option_map (λ b. record_at c.args.self.now.chains b.0) o) (sym c.in-Some-0₀.is)
          ∙ c.readable_both-both.ensures.view
          ∙ ap (λ (o : Member). readable (is_valid o.id o.invalid) chain) c.member-member.ensures);
      previous_there = subst (λ o. IfSome o (λ b. IsSome (get c.args.self.now.chains.slots b.0))) c.in-Some.is
          c.readable_both-both.ensures.base_there;
      current_there = c.in-Some-readable.ensures.there;
      applied_there = subst (λ o. IfSome o (λ b. IsSome (get c.args.self.now.chains.slots b.0))) c.in-Some-0₀.is
          c.readable_both-both.ensures.view_there;
    }
