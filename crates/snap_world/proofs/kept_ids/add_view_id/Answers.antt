use Rattle.std.proofs.Common.{sym, ap, ◌∙◌, inl, inr}
use Rattle.snap_ids.specs.IdLists.{is_valid}
use Rattle.snap_nested.specs.Members.{member}
use Rattle.snap_nested.specs.declared.family.Member.{Member}
use Rattle.snap_records.specs.Edits.{readable}
use Rattle.snap_records.specs.Chains.{chain_of}
use Rattle.snap_reuse.specs.Readers.{has_id}
use Rattle.snap_laws.specs.Coverage.{view}
use Rattle.snap_world.proofs.Reading.{on_ok_more}
use Rattle.snap_world.proofs.kept_ids.add_view_id.Goals as goal

pub returns-clause-view : goal.returns-clause-view
returns-clause-view c =
    let m : Member = member c.args.family.now.members c.args.reader in
    let chain = chain_of c.args.chains.now c.args.x in
    on_ok_more c.add_record_id.result (λ added other. λ i h. added i (ap (has_id i) (c.readable-found.ensures.is
    ∙ ap (λ (o : Member). readable (is_valid o.id o.invalid) chain) c.requires.is) ∙ h)) c.add_record_id.ensures.added

pub returns-clause-needed : goal.returns-clause-needed
returns-clause-needed c =
    let m : Member = member c.args.family.now.members c.args.reader in
    let chain = chain_of c.args.chains.now c.args.x in
    on_ok_more c.add_record_id.result (λ only. λ i h. elim (only i h) [
      | inl t ↦ inl t
      | inr t ↦ inr (view c.args.reader c.requires.live c.if-reader-name.false
          (sym (ap (has_id i) (c.readable-found.ensures.is
          ∙ ap (λ (o : Member). readable (is_valid o.id o.invalid) chain) c.requires.is)) ∙ t))
    ]) c.add_record_id.ensures.only
