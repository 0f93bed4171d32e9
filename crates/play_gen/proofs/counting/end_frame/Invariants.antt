use Rattle.play_gen.proofs.counting.end_frame.Given as goal

abbrev pub ghosts-compose : goal.ghosts-compose
ghosts-compose g a = record { name = a.blank.name; parts = a.blank.parts }
