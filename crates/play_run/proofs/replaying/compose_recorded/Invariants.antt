use Rattle.play_run.proofs.replaying.compose_recorded.Given as goal

abbrev pub ghosts-compose_in : goal.ghosts-compose_in
ghosts-compose_in a = record { name = a.blank.name; parts = a.blank.parts }
