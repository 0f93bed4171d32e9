use Rattle.std.proofs.Common.{◌≡◌, ◌≤◌, ◌-◌, ◌++◌, ◌∙◌, length, arith, ap, string_bytes}
use Rattle.rt_values.specs.Operators.{front, joined_text}
use Rattle.rt_values.proofs.TextPrefixes.{joined_text-is}
use Rattle.rt_values.proofs.text.Txt.join.Goals as goal

both : (c : goal.In_ok-new)
    → (string_bytes c.in_ok-new.field-0.value ≡ joined_text c.args.first.now c.args.second.now)
    × (length (string_bytes c.in_ok-new.field-0.value) ≤ 4096)
both c =
    let first : c.as_str-first.result.now ≡ c.args.first.now = c.as_str-first.ensures.value ∙ ap string_bytes c.deref.ensures
    ∙ c.first.view_is in
    let all : string_bytes c.in_ok-new.field-0.value ≡ c.as_str-first.result.now ++ c.front-more.result.now =
    ap string_bytes c.in_ok-new.ensures.ok ∙ c.in_ok-push_str.ensures.bytes
    ∙ ap (λ l. l ++ c.front-more.result.now) c.in_ok-text.ensures.ok in
    let more : c.front-more.result.now ≡ front (4096 - length c.as_str-first.result.now) c.args.second.now =
    c.front-more.ensures ∙ ap (front (4096 - length c.as_str-first.result.now)) c.as_str.ensures in
    let fits : length c.as_str-first.result.now ≤ 4096 =
    omega (arith, ap length first, ap length c.first.view_is, c.first.invariant) in
    joined_text-is _ _ _ _ _ c.as_str-first.utf8 first all more fits

pub invariant_of-result : goal.invariant_of-result
invariant_of-result c = (both c).1

pub returns : goal.returns
returns c = (both c).0
