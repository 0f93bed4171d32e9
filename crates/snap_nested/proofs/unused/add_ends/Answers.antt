use Rattle.std.proofs.Common.{ap, sym, ◌∙◌, refl, false}
use Rattle.rt_values.specs.Maps.{contains}
use Rattle.snap_nested.specs.declared.family.Member.{Member}
use Rattle.snap_ids.proofs.Booleans.{not_both}
use Rattle.snap_nested.proofs.Members.{none_left}
use Rattle.snap_nested.proofs.Needed.{set_keeps, set_has}
use Rattle.snap_nested.proofs.unused.add_ends.Goals as goal

pub returns-clause-more : goal.returns-clause-more
returns-clause-more c = λ i h.
    let m = c.in-Some.member.now in
    let one = c.set.new.self in
    set_keeps i m.id one c.set-2.new.self c.in_ok-set-2.ensures.ok
    (set_keeps i m.first c.args.used.now one c.in_ok-set.ensures.ok h)

pub returns-clause-first : goal.returns-clause-first
returns-clause-first c = λ i own.
    let m = c.in-Some.member.now in
    let one = c.set.new.self in
    sym (ap (λ (p : Member). contains p.first c.set-2.new.self) c.in-Some.ensures.some)
    ∙ set_keeps m.first m.id one c.set-2.new.self c.in_ok-set-2.ensures.ok
    (set_has m.first c.args.used.now one c.in_ok-set.ensures.ok)

pub returns-clause-current : goal.returns-clause-current
returns-clause-current c = λ live.
    let m = c.in-Some.member.now in
    sym (ap (λ (p : Member). contains p.id c.set-2.new.self) c.in-Some.ensures.some)
    ∙ set_has m.id c.set.new.self c.set-2.new.self c.in_ok-set-2.ensures.ok

pub returns-in_default-clause-first : goal.returns-in_default-clause-first
returns-in_default-clause-first c = λ i own.
    absurd (none_left i (sym (ap (λ (m : Member). contains i m.ids) c.in_default.ensures.none) ∙ own))

pub returns-in_default-clause-current : goal.returns-in_default-clause-current
returns-in_default-clause-current c = λ live.
    absurd (not_both false (sym (ap (λ (m : Member). m.is_live) c.in_default.ensures.none) ∙ live) refl)
