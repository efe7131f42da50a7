use Rattle.image_groups.proofs.on_port.serve_port_in_groups.Given as goal

abbrev pub ghosts-serve_loan : goal.ghosts-serve_loan
ghosts-serve_loan g a = record { name = a.loan.port.ghost_name }
