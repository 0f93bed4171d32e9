use Rattle.script_lang.proofs.Trees.{groups_tell_the_tree}
use Rattle.script_lang.proofs.laws.groups_tell_the_tree.Goals as goal

pub returns : goal.returns
returns c = groups_tell_the_tree
