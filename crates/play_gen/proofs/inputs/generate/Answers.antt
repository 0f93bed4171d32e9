use Rattle.play_gen.proofs.FaultlessScript.{no_script_fault}
use Rattle.play_gen.proofs.inputs.generate.Goals as goal

pub returns-in_err-program-clause-runs : goal.returns-in_err-program-clause-runs
returns-in_err-program-clause-runs c = no_script_fault c.args.number c.args.size c.requires.few

pub returns-in_err-script-clause-runs : goal.returns-in_err-script-clause-runs
returns-in_err-script-clause-runs c = no_script_fault c.args.number c.args.size c.requires.few

pub returns-clause-runs : goal.returns-clause-runs
returns-clause-runs c = no_script_fault c.args.number c.args.size c.requires.few
