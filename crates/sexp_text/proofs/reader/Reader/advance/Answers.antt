use Rattle.std.proofs.Common.{◌∙◌, inl, inr, ◌≢◌, ◌==◌, refl, sym, ap, subst, ℕ, ◌+◌, List, arith, get_or, not}
use Rattle.std.proofs.lemmas.Result.{err_from_is_err_and}
use Rattle.sexp_text.specs.Forest.{Forest}
use Rattle.sexp_text.specs.Machine.{OpenLists, State, Rests, lists, trees}
use Rattle.sexp_text.proofs.Tokens.{scan_of, scan_some, blank_rests, open_rests, open_refuses, close_rests, none_begins, bad_refuses, comment_rests}
use Rattle.sexp_text.proofs.reader.Reader.advance.Goals as goal

pub returns-then-is_blank_byte-clause-ok : goal.returns-then-is_blank_byte-clause-ok
returns-then-is_blank_byte-clause-ok c = λ r.
    blank_rests c.args.bytes.now c.args.at (lists c.args.self.now) (trees c.args.self.now) r c.requires
    (sym c.is_blank_byte.ensures ∙ c.if-is_blank_byte.true)

pub returns-in_err-open_list-in-40-clause-err : goal.returns-in_err-open_list-in-40-clause-err
returns-in_err-open_list-in-40-clause-err c =
    let p = err_from_is_err_and c.from_residual.result c.from_residual.ensures.1 in
    rw (p.1, p.2) (λ r. elim c.in_err-open_list-in-40.ensures.err [
      | inl none ↦ rw none tt
      | inr deep ↦ rw deep.0 (open_refuses c.args.bytes.now c.args.at (lists c.args.self.now)
          (trees c.args.self.now) r c.requires c.in-40.is deep.1)
    ])

pub returns-in_err-close_list-in-41-clause-err : goal.returns-in_err-close_list-in-41-clause-err
returns-in_err-close_list-in-41-clause-err c =
    let p = err_from_is_err_and c.from_residual-in_err-close_list-in-41.result
    c.from_residual-in_err-close_list-in-41.ensures.1 in
    rw (p.1, p.2) (λ r. elim c.in_err-close_list-in-41.ensures.err [
      | inl none ↦ rw none tt
      | inr bad ↦ rw bad.0 (bad_refuses c.args.bytes.now c.args.at (lists c.args.self.now)
          (trees c.args.self.now) r c.requires (rw c.in-41.is bad.1))
    ])

pub returns-in_ok-open_list-in-40-clause-ok : goal.returns-in_ok-open_list-in-40-clause-ok
returns-in_ok-open_list-in-40-clause-ok c = λ r.
    subst (λ (s : State). Rests c.args.bytes.now (c.args.at + 1) s.1 s.2) (sym c.in_ok-open_list-in-40.ensures.ok)
    (open_rests c.args.bytes.now c.args.at (lists c.args.self.now)
    (trees c.args.self.now) r c.requires c.in-40.is c.in_ok-open_list-in-40.ensures.room)

pub returns-in_ok-close_list-in-41-clause-ok : goal.returns-in_ok-close_list-in-41-clause-ok
returns-in_ok-close_list-in-41-clause-ok c = λ r.
    close_rests c.args.bytes.now c.args.at (lists c.args.self.now) (trees c.args.self.now) (lists c.close_list.new.self)
    (trees c.close_list.new.self) r c.requires c.in-41.is
    c.in_ok-close_list-in-41.ensures.ok

pub returns-in-59-clause-ok : goal.returns-in-59-clause-ok
returns-in-59-clause-ok c = λ r.
    let bytes : List ℕ = c.args.bytes.now in
    let at : ℕ = c.args.at in
    let n : ℕ = c.comment_len.result in
    let scan = scan_of (λ b. not (b == 10)) bytes at n (record {
      within = c.comment_len.ensures.within;
      all = c.comment_len.ensures.comment;
      after = λ lt. ap (λ b. not (b == 10)) (c.comment_len.ensures.after lt);
    }) in
    comment_rests bytes at n (lists c.args.self.now) (trees c.args.self.now) scan
    (scan_some (λ b. not (b == 10)) bytes at n scan c.requires (rw c.in-59.is refl)) r c.requires c.in-59.is

pub returns-in_default-clause-err : goal.returns-in_default-clause-err
returns-in_default-clause-err c = λ r.
    let b : ℕ = get_or c.args.bytes.now c.args.at 0 in
    let opens : b ≢ 40 = omega arith in
    let closes : b ≢ 41 = omega arith in
    let quote : b ≢ 34 = omega arith in
    let comment : b ≢ 59 = omega arith in
    let os : OpenLists = lists c.args.self.now in
    let f : Forest = trees c.args.self.now in
    bad_refuses c.args.bytes.now c.args.at os f r c.requires
    (none_begins c.args.at b os f (sym c.is_blank_byte.ensures ∙ c.if-is_blank_byte.false)
    (sym c.is_byte_of_atom.ensures ∙ c.if-is_byte_of_atom.false) opens closes quote comment)
