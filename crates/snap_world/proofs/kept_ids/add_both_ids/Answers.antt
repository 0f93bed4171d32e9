use Rattle.std.proofs.Common.{sym, ap, ◌∙◌, inl, inr}
use Rattle.snap_ids.specs.IdLists.{is_valid}
use Rattle.snap_nested.specs.Members.{member}
use Rattle.snap_nested.specs.declared.family.Member.{Member}
use Rattle.snap_records.specs.Edits.{readable, is_valid_except}
use Rattle.snap_records.specs.Chains.{chain_of}
use Rattle.snap_reuse.specs.Readers.{has_id}
use Rattle.snap_laws.specs.Coverage.{view, base}
use Rattle.snap_world.proofs.Reading.{on_ok_more}
use Rattle.snap_world.proofs.kept_ids.add_both_ids.Goals as goal

pub returns-clause-view : goal.returns-clause-view
returns-clause-view c =
    let m : Member = member c.args.family.now.members c.args.reader in
    let chain = chain_of c.args.chains.now c.args.x in
    on_ok_more c.add_record_id-2.result
    (λ added. λ i h. c.add_record_id-2.ensures.more i
    (c.in_ok-add_record_id.ensures.added i (ap (has_id i) (c.readable_both-read.ensures.view
    ∙ ap (λ (o : Member). readable (is_valid o.id o.invalid) chain) c.requires.is) ∙ h))) c.add_record_id-2.ensures.added

pub returns-clause-base : goal.returns-clause-base
returns-clause-base c =
    let m : Member = member c.args.family.now.members c.args.reader in
    let chain = chain_of c.args.chains.now c.args.x in
    on_ok_more c.add_record_id-2.result (λ added. λ i h. added i (ap (has_id i) (c.readable_both-read.ensures.base
    ∙ ap (λ (o : Member). readable (is_valid_except o.ids o.id o.invalid) chain) c.requires.is) ∙ h))
    c.add_record_id-2.ensures.added

pub returns-clause-needed : goal.returns-clause-needed
returns-clause-needed c =
    let m : Member = member c.args.family.now.members c.args.reader in
    let chain = chain_of c.args.chains.now c.args.x in
    on_ok_more c.add_record_id-2.result (λ only. λ name i other h. elim (only i h) [
      | inl t ↦ elim (c.in_ok-add_record_id.ensures.only i t) [
        | inl u ↦ inl u
        | inr u ↦ inr (view c.args.reader c.requires.live other (sym (ap (has_id i) (c.readable_both-read.ensures.view
            ∙ ap (λ (o : Member). readable (is_valid o.id o.invalid) chain) c.requires.is)) ∙ u))
      ]
      | inr t ↦ inr (base c.args.reader c.requires.live c.requires.inner
          (sym (ap (has_id i) (c.readable_both-read.ensures.base
          ∙ ap (λ (o : Member). readable (is_valid_except o.ids o.id o.invalid) chain) c.requires.is)) ∙ t))
    ]) c.add_record_id-2.ensures.only
