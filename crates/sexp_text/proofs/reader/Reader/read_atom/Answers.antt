use Rattle.std.proofs.Common.{◌∙◌, ◌-◌, ap, ℕ, List, length, take, drop}
use Rattle.std.proofs.lemmas.List.{length-take-le}
use Rattle.sexp_text.specs.Forest.{Forest, joined_trees}
use Rattle.sexp_text.specs.Grammar.{is_atom_byte}
use Rattle.sexp_text.specs.Machine.{OpenLists, lists, trees}
use Rattle.sexp_text.proofs.Trees.{view-Atom}
use Rattle.sexp_text.proofs.Tokens.{tail_is, scan_of, scan_some, atom_taken}
use Rattle.sexp_text.proofs.reader.Reader.read_atom.Goals as goal

pub returns-clause-ok : goal.returns-clause-ok
returns-clause-ok c =
    let bytes : List ℕ = c.args.bytes.now in
    let at : ℕ = c.args.at in
    let n : ℕ = c.atom_len.result in
    let os : OpenLists = lists c.args.self.now in
    let f : Forest = trees c.args.self.now in
    let name = c.in_ok-of.field-0 in
    let scan = scan_of is_atom_byte bytes at n
    (record {
      within = c.atom_len.ensures.within;
      all = c.atom_len.ensures.atom;
      after = c.atom_len.ensures.after;
    }) in
    let some = scan_some is_atom_byte bytes at n scan c.requires.inside c.requires.begins in
    λ r. rw (length-take-le n (take (length bytes - at) (drop at bytes)) c.atom_len.ensures.within)
    (atom_taken bytes at n os (lists c.put.new.self) f (trees c.put.new.self) name scan some c.requires.inside
    (c.in_ok-of.ensures ∙ ap (take n) (tail_is bytes at)) c.in_ok-put.ensures.lists
    (c.in_ok-put.ensures.trees ∙ ap (joined_trees f) (view-Atom at name)) r)
