use Rattle.pefidx_c.proofs.packing.packed.Given as goal

abbrev pub ghosts-packed_counted : goal.ghosts-packed_counted
ghosts-packed_counted a = record { name = a.blank.name; parts = a.blank.parts }
