use Rattle.compose_app.proofs.screen.Screen.frame_uncounted.Given as goal

abbrev pub ghosts-frame_counting : goal.ghosts-frame_counting
ghosts-frame_counting g a = record { name = a.blank.name; parts = a.blank.parts }
