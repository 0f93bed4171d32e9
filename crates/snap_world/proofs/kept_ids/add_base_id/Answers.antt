use Rattle.std.proofs.Common.{◌≢◌, ℕ, ◌<◌, sym, ap, ◌∙◌, inl, inr, arith}
use Rattle.snap_nested.specs.Members.{member}
use Rattle.snap_nested.specs.declared.family.Member.{Member}
use Rattle.snap_records.specs.Edits.{readable, is_valid_except}
use Rattle.snap_records.specs.Chains.{chain_of}
use Rattle.snap_reuse.specs.Readers.{has_id}
use Rattle.snap_laws.specs.Coverage.{base}
use Rattle.snap_world.proofs.Reading.{on_ok_more}
use Rattle.snap_world.proofs.kept_ids.add_base_id.Goals as goal

pub returns-clause-base : goal.returns-clause-base
returns-clause-base c =
    let m : Member = member c.args.family.now.members c.args.reader in
    let chain = chain_of c.args.chains.now c.args.x in
    on_ok_more c.add_record_id.result
    (λ added inner. λ i h. added i (ap (has_id i) (c.readable_both-read.ensures.base
    ∙ ap (λ (o : Member). readable (is_valid_except o.ids o.id o.invalid) chain) c.requires.is) ∙ h))
    c.add_record_id.ensures.added

pub returns-clause-needed : goal.returns-clause-needed
returns-clause-needed c =
    let m : Member = member c.args.family.now.members c.args.reader in
    let chain = chain_of c.args.chains.now c.args.x in
    on_ok_more c.add_record_id.result (λ only. λ name i h. elim (only i h) [
      | inl t ↦ inl t
      | inr t ↦ inr (base c.args.reader c.requires.live (positive c.args.reader c.if-reader-eq0.false)
          (sym (ap (has_id i) (c.readable_both-read.ensures.base
          ∙ ap (λ (o : Member). readable (is_valid_except o.ids o.id o.invalid) chain) c.requires.is)) ∙ t))
    ]) c.add_record_id.ensures.only where
      positive : (n : ℕ) → n ≢ 0 → 0 < n
      positive n other = omega (arith, other)
