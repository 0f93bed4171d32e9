use Rattle.tests_shared.proofs.frames.finish_frame.Given as goal

abbrev pub ghosts-finish_counting : goal.ghosts-finish_counting
ghosts-finish_counting g a = record { name = a.blank.name; parts = a.blank.parts }
