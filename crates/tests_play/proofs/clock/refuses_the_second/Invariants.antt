use Rattle.tests_play.proofs.clock.refuses_the_second.Given as goal

abbrev pub ghosts-frame_counting : goal.ghosts-frame_counting
ghosts-frame_counting g a = record { name = a.blank.name; parts = a.blank.parts }
