use Rattle.std.proofs.Common.{◌-◌, vec_len, vec_capacity, arith, subst}
use Rattle.read_links.specs.Storage.{AllHaveSpare}
use Rattle.read_links.proofs.Spares.{last_has_spare}
use Rattle.read_links.proofs.lists.take_list.Goals as goal

pub returns-in-Some-clause-room : goal.returns-in-Some-clause-room
returns-in-Some-clause-room c = λ n all some.
    let last = (last_has_spare (λ v. vec_capacity v - vec_len v) n c.pop.new.self.items c.in-Some.list
    (subst (λ l. AllHaveSpare (λ v. vec_capacity v - vec_len v) n l) c.in-Some.ensures.items all)).1 in
    let empty = c.clear.ensures.len in
    let same = c.clear.ensures.capacity in
    omega (arith, last, empty, same)

pub returns-in-Some-clause-rest : goal.returns-in-Some-clause-rest
returns-in-Some-clause-rest c = λ n all.
    (last_has_spare (λ v. vec_capacity v - vec_len v) n c.pop.new.self.items c.in-Some.list
    (subst (λ l. AllHaveSpare (λ v. vec_capacity v - vec_len v) n l) c.in-Some.ensures.items all)).0
