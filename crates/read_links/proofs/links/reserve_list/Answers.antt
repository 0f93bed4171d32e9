use Rattle.std.proofs.Common.{◌-◌, nat_eq, vec_len, vec_capacity, arith, ap, sym, subst, ◌∙◌, true≢false}
use Rattle.indexmap.specs.IndexMap.{get_by}
use Rattle.read_links.specs.Storage.{AllHaveSpare, entry_links}
use Rattle.read_links.proofs.Spares.{found_has_spare, set_has_spare}
use Rattle.read_links.proofs.Entries.{kept_links}
use Rattle.read_links.proofs.Rooms.{as_many_new, is_found}
use Rattle.read_links.proofs.links.reserve_list.Goals as goal

pub returns-in_err-reserve-in-Some-clause-links : goal.returns-in_err-reserve-in-Some-clause-links
returns-in_err-reserve-in-Some-clause-links c =
    ap (λ es. entry_links (λ v. v.items) es) (c.get_mut.follows.holds c.reserve.new.self).0
    ∙ kept_links (λ v. v.items) (nat_eq c.args.object) c.args.objects.now.entries c.in-Some.scopes.now
    c.reserve.new.self (sym c.in-Some.ensures.value) c.reserve.ensures.items

pub returns-in_err-reserve-in-Some-clause-count : goal.returns-in_err-reserve-in-Some-clause-count
returns-in_err-reserve-in-Some-clause-count c =
    as_many_new c.args.object c.in-Some.scopes.now c.reserve.new.self c.args.objects.now.entries
    (c.get_mut.follows.lender c.reserve.new.self).entries (sym c.in-Some.ensures.value)
    ((c.get_mut.follows.holds c.reserve.new.self).3
    (is_found (get_by (nat_eq c.args.object) c.args.objects.now) c.in-Some.scopes.now (sym c.in-Some.ensures.value))).0

pub returns-in_err-reserve-in-Some-clause-room : goal.returns-in_err-reserve-in-Some-clause-room
returns-in_err-reserve-in-Some-clause-room c = λ n all.
    let found = found_has_spare (λ v. vec_capacity v - vec_len v) n (nat_eq c.args.object) c.args.objects.now.entries
    c.in-Some.scopes.now (sym c.in-Some.ensures.value) all in
    let capacity = c.reserve.ensures.capacity in
    let len = c.reserve.ensures.len in
    subst (λ es. AllHaveSpare (λ e. vec_capacity e.1 - vec_len e.1) n es)
    (sym (c.get_mut.follows.holds c.reserve.new.self).0)
    (set_has_spare (λ v. vec_capacity v - vec_len v) n (nat_eq c.args.object) c.args.objects.now.entries
    c.reserve.new.self all (omega (arith, found, capacity, len)))

pub returns-in_err-reserve-in-Some-clause-free : goal.returns-in_err-reserve-in-Some-clause-free
returns-in_err-reserve-in-Some-clause-free c = λ all.
    let found = found_has_spare (λ v. vec_capacity v - vec_len v) 1 (nat_eq c.args.object) c.args.objects.now.entries
    c.in-Some.scopes.now (sym c.in-Some.ensures.value) all in
    absurd (true≢false (sym (c.in_err-reserve-in-Some.ensures.succeeds (omega (arith, found)))))

pub returns-in_ok-reserve-in-Some-clause-links : goal.returns-in_ok-reserve-in-Some-clause-links
returns-in_ok-reserve-in-Some-clause-links c =
    ap (λ es. entry_links (λ v. v.items) es) (c.get_mut.follows.holds c.reserve.new.self).0
    ∙ kept_links (λ v. v.items) (nat_eq c.args.object) c.args.objects.now.entries c.in-Some.scopes.now
    c.reserve.new.self (sym c.in-Some.ensures.value) c.reserve.ensures.items

pub returns-in_ok-reserve-in-Some-clause-count : goal.returns-in_ok-reserve-in-Some-clause-count
returns-in_ok-reserve-in-Some-clause-count c =
    as_many_new c.args.object c.in-Some.scopes.now c.reserve.new.self c.args.objects.now.entries
    (c.get_mut.follows.lender c.reserve.new.self).entries (sym c.in-Some.ensures.value)
    ((c.get_mut.follows.holds c.reserve.new.self).3
    (is_found (get_by (nat_eq c.args.object) c.args.objects.now) c.in-Some.scopes.now (sym c.in-Some.ensures.value))).0

pub returns-in_ok-reserve-in-Some-clause-room : goal.returns-in_ok-reserve-in-Some-clause-room
returns-in_ok-reserve-in-Some-clause-room c = λ n all.
    let found = found_has_spare (λ v. vec_capacity v - vec_len v) n (nat_eq c.args.object) c.args.objects.now.entries
    c.in-Some.scopes.now (sym c.in-Some.ensures.value) all in
    let capacity = c.reserve.ensures.capacity in
    let len = c.reserve.ensures.len in
    subst (λ es. AllHaveSpare (λ e. vec_capacity e.1 - vec_len e.1) n es)
    (sym (c.get_mut.follows.holds c.reserve.new.self).0)
    (set_has_spare (λ v. vec_capacity v - vec_len v) n (nat_eq c.args.object) c.args.objects.now.entries
    c.reserve.new.self all (omega (arith, found, capacity, len)))
