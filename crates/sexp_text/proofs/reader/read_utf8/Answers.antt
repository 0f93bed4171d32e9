use Rattle.std.proofs.lemmas.Result.{IfOk-weaker, IfErr-at_err}
use Rattle.sexp_text.specs.View.{forest_view}
use Rattle.sexp_text.specs.TextFaults.{Cause}
use Rattle.sexp_text.proofs.Sound.{spells-whole}
use Rattle.sexp_text.proofs.Causes.{no_cause, caused, answered}
use Rattle.sexp_text.proofs.reader.read_utf8.Goals as goal

pub returns-clause-ok : goal.returns-clause-ok
returns-clause-ok c =
    IfOk-weaker c.read_trees.result _ _
    (λ trees h. (spells-whole c.args.bytes.now (forest_view trees.items) c.requires h.0, h.1))
    c.read_trees.ensures.ok

pub returns-clause-cause : goal.returns-clause-cause
returns-clause-cause c = caused c.args.bytes.now c.read_trees.result c.requires c.read_trees.ensures.err

pub returns-clause-refused : goal.returns-clause-refused
returns-clause-refused c = λ stop is other f spells shallow.
    no_cause c.args.bytes.now stop f (IfErr-at_err (Cause c.args.bytes.now) is (returns-clause-cause c)) other
    spells shallow

pub returns-clause-told : goal.returns-clause-told
returns-clause-told c = answered (λ trees. forest_view trees.items) c.args.bytes.now c.read_trees.result
    (returns-clause-ok c) (returns-clause-cause c)
