use Rattle.std.proofs.Common.{◌∙◌, sym, ap, length, take, drop, ◌-◌, Some, ℕ, List}
use Rattle.std.proofs.lemmas.List.{length-take-le}
use Rattle.sexp_text.specs.Machine.{in_text}
use Rattle.sexp_text.proofs.Tokens.{tail_is, plain_leads}
use Rattle.sexp_text.proofs.lexer.push_plain.Goals as goal

pub returns-clause-ok : goal.returns-clause-ok
returns-clause-ok c =
    let bytes : List ℕ = c.args.bytes.now in
    let at : ℕ = c.args.at in
    let n : ℕ = c.plain_len.result in
    let rest : List ℕ = take (length bytes - at) (drop at bytes) in
    λ from os f here.
    plain_leads bytes at from n c.args.chars.now.items (take n rest) c.requires (ap (take n) (tail_is bytes at))
    (length-take-le n rest c.plain_len.ensures.within) c.plain_len.ensures.plain os f here
    ∙ ap (λ l. Some (in_text from l, os, f)) (sym c.in_ok-extend_from_slice.ensures.items)
