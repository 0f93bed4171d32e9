use Rattle.play_threads.proofs.frames.finish_frame.Given as goal

abbrev pub ghosts-compose : goal.ghosts-compose
ghosts-compose g a = record { name = a.blank.name; parts = a.blank.parts }
