use Rattle.play_run.proofs.Sequences.{runs_ok, runs_err}
use Rattle.play_run.proofs.calls.run_single.Goals.{in-Ok, in-Err}
use Rattle.play_run.proofs.calls.run_single.Goals as goal

pub returns-clause-runs : goal.returns-clause-runs
returns-clause-runs g c frame r p keeps h is =
    let runs = c.run_part.ensures.runs frame r p keeps h is in
    elim c.match-run_part.branch [
      | in-Ok w ↦ runs_ok c.run_part.result _ _ _ w.in-Ok.is w.result-is runs
      | in-Err w ↦ runs_err c.run_part.result _ _ _ w.in-Err.is w.result-is runs
    ]
