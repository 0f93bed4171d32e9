use Rattle.std.proofs.Common.{◌≡◌, ◌≤◌, ◌∙◌, ap, length, vec_len, arith}
use Rattle.rt_values.proofs.Lists.{concatenation-is}
use Rattle.rt_values.proofs.list.IntList.extend.Goals as goal

pub returns-clause-ok : goal.returns-clause-ok
returns-clause-ok c =
    let shared : c.len-room.result ≡ vec_len c.self.inside.items.value = c.len-room.ensures ∙ ap vec_len c.deref.ensures in
    let len : c.len-room.result ≡ length c.self.inside.items.value.items =
    omega (arith, shared, c.self.inside.items.value.ok.0) in
    let fits : c.len-room.result ≤ 4096 = omega (arith, len, c.self.invariant) in
    rw (← c.self.view_is) (concatenation-is _ _ _ _ _ len fits c.min.ensures c.in_ok-append.ensures.ok)
