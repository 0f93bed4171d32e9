use Rattle.script_lang.proofs.Jsons.{groups_tell_the_json}
use Rattle.script_lang.proofs.laws.groups_tell_the_json.Goals as goal

pub returns : goal.returns
returns c = groups_tell_the_json
