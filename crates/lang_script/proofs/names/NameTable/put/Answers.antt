use Rattle.std.proofs.Common.{◌≡◌, ◌∙◌, ap, rules, cond, refl, subst, Some, List, ℕ}
use Rattle.std.specs.Prelude.{IsSome}
use Rattle.std.specs.Str.{bytes_eq}
use Rattle.std.specs.HashMap.{get_by}
use Rattle.lang_script.proofs.HashedNames.{updates_names}
use Rattle.lang_script.proofs.names.NameTable.put.Goals as goal

pub returns-in-Some-clause-put : goal.returns-in-Some-clause-put
returns-in-Some-clause-put c =
    let some = subst (λ o. IsSome o) c.in-Some.ensures.value refl in
    updates_names c.args.name.now c.args.self.now.numbers (c.get_mut.follows.lender c.args.number) (Some c.args.number)
    ((c.get_mut.follows.holds c.args.number).3 some)

pub returns-in_ok-insert-in-None-clause-put : goal.returns-in_ok-insert-in-None-clause-put
returns-in_ok-insert-in-None-clause-put c = λ other.
    let same : c.in_ok-key-in-None.key.items ≡ c.args.name.now = search rules in
    updates_names c.in_ok-key-in-None.key.items c.get_mut.follows.lender-at-none c.insert.new.self (Some c.args.number)
    c.in_ok-insert-in-None.ensures.updates other
    ∙ ap (λ (l : List ℕ). cond (bytes_eq l other) (Some c.args.number)
    (get_by (λ k. bytes_eq other k.items) c.get_mut.follows.lender-at-none)) same
    ∙ ap (λ m. cond (bytes_eq c.args.name.now other) (Some c.args.number) (get_by (λ k. bytes_eq other k.items) m))
    c.get_mut.follows.holds-at-none
