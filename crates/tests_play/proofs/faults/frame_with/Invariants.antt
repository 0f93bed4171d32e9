use Rattle.tests_play.proofs.faults.frame_with.Given as goal

abbrev pub ghosts-recompose_counting : goal.ghosts-recompose_counting
ghosts-recompose_counting g a = record { name = a.blank.name; parts = a.blank.parts }
