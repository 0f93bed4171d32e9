use Rattle.std.proofs.Common.{◌∙◌, ap}
use Rattle.std.proofs.lemmas.Result.{err_from_is_err_and}
use Rattle.sexp_text.specs.Forest.{Forest, joined_trees}
use Rattle.sexp_text.specs.Machine.{lists, trees}
use Rattle.sexp_text.proofs.Trees.{view-Text}
use Rattle.sexp_text.proofs.Tokens.{text_taken, text_refuses}
use Rattle.sexp_text.proofs.reader.Reader.read_text.Goals as goal

pub returns-in_err-chars-clause-err : goal.returns-in_err-chars-clause-err
returns-in_err-chars-clause-err c =
    let p = err_from_is_err_and c.from_residual.result c.from_residual.ensures.1 in
    rw (p.1, p.2) (λ r. text_refuses c.args.bytes.now c.args.at (lists c.args.self.now)
    (trees c.args.self.now) _ r c.requires.inside c.requires.begins c.in_err-chars.ensures.err)

pub returns-clause-ok : goal.returns-clause-ok
returns-clause-ok c =
    let f : Forest = trees c.args.self.now in
    let chars = c.in_ok-chars.chars in
    λ r. text_taken c.args.bytes.now c.args.at c.in_ok-chars.end (lists c.args.self.now) (lists c.put.new.self) f
    (trees c.put.new.self) chars.items c.requires.inside c.requires.begins
    c.in_ok-chars.ensures.ok c.in_ok-put.ensures.lists
    (c.in_ok-put.ensures.trees ∙ ap (joined_trees f) (view-Text c.args.at chars)) r
