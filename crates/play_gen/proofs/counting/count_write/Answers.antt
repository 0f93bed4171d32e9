use Rattle.std.proofs.Common.{refl}
use Rattle.lang_ast.specs.declared.script.SnapshotRef.TheVariants.{Global}
use Rattle.lang_script.specs.StepCalls.{Write}
use Rattle.play_gen.proofs.counting.count_write.Goals as goal

pub returns : goal.returns
returns g c functions r h =
    c.count_request.ensures functions r (Write Global c.args.object c.args.value) tt refl h
