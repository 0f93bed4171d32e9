use Rattle.tests_slots.proofs.tables.values_of_rows.Given as goal

abbrev pub ghosts-values_read : goal.ghosts-values_read
ghosts-values_read a = record { name = a.blank.name; parts = a.blank.parts }
